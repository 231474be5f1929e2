-- All of one list's items in another: one law for each way out.
use Rattle.std.proofs.Common.{◌≡◌, ℕ, ◌+◌, ◌-◌, ◌<◌, ◌≤◌, Bool, true, false, cond, List, [], ◌∷◌, length, take, sym, refl, ap, ◌∙◌, ap₂, zero-add, arith}
use mathlib.Core.Bool.{false≢true, and-eq-true_iff}
use Rattle.molecule.specs.Layout.{span, fix_count, fix_item, fix_items}
use Rattle.lists.specs.Lists.{eq_bytes, extends, contains, contains_all}
use Rattle.lists.proofs.LoopLaws.{at_place, Among, Seek, among_more}
use Rattle.lists.proofs.SpanLaws.{span-whole}
use Rattle.item_index.specs.Index.{key_of, Index}
use Rattle.item_index.proofs.FindLaws.{search_front}
use Rattle.item_lookup.specs.Lookup.{are_among}

pub at_first_lem : (y : List ℕ) (g : ℕ → List ℕ) (n i : ℕ) → i < n → eq_bytes y (g i) ≡ true → contains y (span g 0 n) ≡ true
at_first_lem y g n i l e = at_place y g i 0 n l (ap (λ (v : ℕ). eq_bytes y (g v)) (zero-add i) ∙ e)

-- a list that goes on from another has all of its items
extends_all : (xs ys zs : List (List ℕ)) → extends xs ys ≡ true → ((x : List ℕ) → contains x ys ≡ true → contains x zs ≡ true) → contains_all xs zs ≡ true
unfolding extends contains_all contains
extends_all [] ys zs h on = refl
extends_all (x ∷ xs) [] zs h on = absurd (false≢true h)
extends_all (x ∷ xs) (y ∷ ys) zs h on =
    let w = (and-eq-true_iff (eq_bytes x y) (extends xs ys)).0 h in
    rw (on x (rw w.0 refl)) (extends_all xs ys zs w.1 (λ z t. on z (rw t (by (eq_bytes z y)))))
  where
    by : (c : Bool) → cond c true true ≡ true
    by true = refl
    by false = refl

pub all_extends : (xs ys : List (List ℕ)) {r : Bool} → r ≡ extends xs ys → r ≡ true → true ≡ contains_all xs ys
all_extends xs ys e t = sym (extends_all xs ys ys (sym e ∙ t) (λ x h. h))

-- ---- the ways out

pub scan_start : (a b : List ℕ) (k n i : ℕ) {x : List ℕ} → x ≡ fix_item a k i → Seek x (fix_item b k) n 0 (contains (fix_item a k i) (span (fix_item b k) 0 n))
scan_start a b k n i e = record { rest = ap₂ contains (sym e) (span-whole (fix_item b k) n) }

pub found : (a b : List ℕ) (k n i p q : ℕ) (s : List ℕ) → (n ≤ p → n ≤ q → Index (key_of b k 0) n s) → n ≤ p → n ≤ q → {x : List ℕ} {r : Bool} → x ≡ fix_item a k i
    → (Index (key_of b k 0) (length (take n s)) (take n s) → r ≡ contains x (span (key_of b k 0) 0 (length (take n s)))) → r ≡ contains (fix_item a k i) (span (fix_item b k) 0 n)
unfolding key_of
found a b k n i p q s o hp hq {x} e h = search_front (key_of b k 0) s x n (o hp hq) h ∙ ap (λ (l : List ℕ). contains l (span (fix_item b k) 0 n)) e

pub some-start : (f : ℕ → List ℕ) (ys : List (List ℕ)) (from m : ℕ) → Among f ys m from (contains_all (span f from (m - from)) ys)
some-start f ys from m = record { rest = refl }

-- both lists by their counts
pub all_whole : (a b : List ℕ) (k : ℕ) {m n : ℕ} → m ≡ fix_count a → n ≡ fix_count b → {q : Bool} → q ≡ are_among a 0 m b k n → q ≡ contains_all (fix_items k a) (fix_items k b)
all_whole a b k {m} {n} em en e =
    let z : m - 0 ≡ m = omega arith in
    e ∙ ap₂ (λ (x y : ℕ). contains_all (span (fix_item a k) 0 x) (span (fix_item b k) 0 y)) (z ∙ em) en

pub no_place : {A : Type 0} → false ≡ true → A
no_place t = absurd (false≢true t)

pub place_same : (a b : List ℕ) (k n i : ℕ) {x y : List ℕ} {r : Bool} → i < n → x ≡ fix_item a k i → y ≡ fix_item b k i → r ≡ eq_bytes x y
    → r ≡ true → contains (fix_item a k i) (span (fix_item b k) 0 n) ≡ true
place_same a b k n i h ex ey er t = at_first_lem (fix_item a k i) (fix_item b k) n i h (ap₂ eq_bytes (sym ex) (sym ey) ∙ sym er ∙ t)

module _ {f : ℕ → List ℕ} {ys : List (List ℕ)} {m i : ℕ} {R : Bool} (h : Among f ys m i R) where
  pub all_rest : {q : Bool} → q ≡ contains_all (span f i (m - i)) ys → q ≡ R
  all_rest e = e ∙ sym h.rest

  pub all_same : {r : Bool} → i < m → (r ≡ true → contains (f i) ys ≡ true) → r ≡ true → Among f ys m (i + 1) R
  all_same {r} k e t = among_more h k (sym (e t)) refl
