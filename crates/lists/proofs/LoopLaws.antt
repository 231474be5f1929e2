-- What a loop over two lists knows: the items from i on decide. One law for each way out of a turn.
use mathlib.Core.Path.{◌≡◌, refl, sym, ap, ap₂, ◌∙◌}
use Prim.Native.Nat.{ℕ, zero, suc, ◌+◌, ◌-◌, ◌≤◌, ◌<◌}
use mathlib.Core.List.{List}
use mathlib.Core.Bool.{Bool, true, false, not, cond}
use native.Mathlib.Omega.{arith}
use borrow.Author.Tests.{not-true, not-false}
use lib.ListN.{drop}
use native.Mathlib.Nat.{le_of_suc-le-suc, not-suc-le-zero, add-zero, zero-add}
use Rattle.molecule.specs.Layout.{span}
use Rattle.lists.specs.Lists.{eq_bytes, extends, contains, contains_all}
use Rattle.lists.proofs.SpanLaws.{span-on, span-end, span-drop, span-whole}

-- R is the answer, f and g the two lists' items, m and n how many
pub record Left (f g : ℕ → List ℕ) (m n i : ℕ) (R : Bool) : Type 0 where
  pub rest : R ≡ extends (span f i (m - i)) (span g i (n - i))

-- from j on
pub left_from : (f g : ℕ → List ℕ) (j : ℕ) {m n k l : ℕ} → m ≡ k → n ≡ l → Left f g m n j (extends (drop j (span f 0 k)) (drop j (span g 0 l)))
left_from f g j {m} {n} p q = record { rest = rw (← p, ← q) (ap₂ extends (span-drop f j 0 m ∙ ap (λ (i : ℕ). span f i (m - j)) (zero-add j)) (span-drop g j 0 n ∙ ap (λ (i : ℕ). span g i (n - j)) (zero-add j))) }

module _ {f g : ℕ → List ℕ} {m n i : ℕ} {R : Bool} (h : Left f g m n i R) where
  pub left_end : m ≤ i → true ≡ R
  unfolding extends
  left_end l = sym (h.rest ∙ rw (span-end f i m l))

  pub left_short : i < m → n ≤ i → false ≡ R
  unfolding extends
  left_short l k = sym (h.rest ∙ rw (span-on f i m l, span-end g i n k))

  module _ {r : Bool} (l : i < m) (k : i < n) (e : r ≡ eq_bytes (f i) (g i)) where
    pub left-more : not r ≡ false → Left f g m n (i + 1) R
    unfolding extends
    left-more t = record { rest = h.rest ∙ rw (span-on f i m l, span-on g i n k, ← e, not-false r t) }

    pub left-stop : not r ≡ true → false ≡ R
    unfolding extends
    left-stop t = sym (h.rest ∙ rw (span-on f i m l, span-on g i n k, ← e, not-true r t))

-- the same for `contains`
pub record Seek (x : List ℕ) (g : ℕ → List ℕ) (n i : ℕ) (R : Bool) : Type 0 where
  pub rest : R ≡ contains x (span g i (n - i))

pub seek_start : (x : List ℕ) (g : ℕ → List ℕ) {n l : ℕ} → n ≡ l → Seek x g n 0 (contains x (span g 0 l))
seek_start x g {n} q = record { rest = rw (← q) (ap (contains x) (span-whole g n)) }

module _ {x : List ℕ} {g : ℕ → List ℕ} {n i : ℕ} {R : Bool} (h : Seek x g n i R) where
  pub seek_end : n ≤ i → false ≡ R
  unfolding contains
  seek_end l = sym (h.rest ∙ rw (span-end g i n l))

  module _ {y : List ℕ} {r : Bool} (k : i < n) (ey : y ≡ g i) (e : r ≡ eq_bytes x y) where
    pub seek_more : r ≡ false → Seek x g n (i + 1) R
    unfolding contains
    seek_more t = record { rest = h.rest ∙ rw (span-on g i n k, ← ey, ← e, t) }

    pub seek_found : r ≡ true → true ≡ R
    unfolding contains
    seek_found t = sym (h.rest ∙ rw (span-on g i n k, ← ey, ← e, t))

-- an item that stands at a place is there
pub at_place : (x : List ℕ) (g : ℕ → List ℕ) (i j k : ℕ) → i < k → eq_bytes x (g (j + i)) ≡ true → contains x (span g j k) ≡ true
unfolding contains span
at_place x g i j zero h e = absurd (not-suc-le-zero h)
at_place x g zero j (suc k) h e = rw (ap (λ (n : ℕ). eq_bytes x (g n)) (sym (add-zero j)) ∙ e)
at_place x g (suc i) j (suc k) h e =
    let q : j + suc i ≡ suc j + i = omega arith in
    by (eq_bytes x (g j)) (at_place x g i (suc j) k (le_of_suc-le-suc h) (ap (λ (n : ℕ). eq_bytes x (g n)) (sym q) ∙ e))
  where
    by : (b : Bool) → contains x (span g (suc j) k) ≡ true → cond b true (contains x (span g (suc j) k)) ≡ true
    by true h = refl
    by false h = h

-- and for `contains_all`
pub record Among (f : ℕ → List ℕ) (ys : List (List ℕ)) (m i : ℕ) (R : Bool) : Type 0 where
  pub rest : R ≡ contains_all (span f i (m - i)) ys

module _ {f : ℕ → List ℕ} {ys : List (List ℕ)} {m i : ℕ} {R : Bool} (h : Among f ys m i R) where
  pub among_end : m ≤ i → true ≡ R
  unfolding contains_all
  among_end l = sym (h.rest ∙ rw (span-end f i m l))

  module _ {r : Bool} (k : i < m) (e : r ≡ contains (f i) ys) where
    pub among_more : not r ≡ false → Among f ys m (i + 1) R
    unfolding contains_all
    among_more t = record { rest = h.rest ∙ rw (span-on f i m k, ← e, not-false r t) }

    pub among_stop : not r ≡ true → false ≡ R
    unfolding contains_all
    among_stop t = sym (h.rest ∙ rw (span-on f i m k, ← e, not-true r t))
