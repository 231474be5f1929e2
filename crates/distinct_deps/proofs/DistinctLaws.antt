-- A dep is new where it stands nowhere before: in its own list, by its first place there, and in no list before it. And what the loop that gathers knows.
use mathlib.Core.Path.{◌≡◌, refl, sym, ap, ap₂, ◌∙◌}
use Prim.Native.Nat.{ℕ, zero, suc, ◌+◌, ◌-◌, ◌≤◌, ◌<◌}
use mathlib.Core.Bool.{Bool, true, false, false≢true, not, cond}
use mathlib.Core.List.{List, [], ◌∷◌, ◌++◌, map}
use native.Mathlib.Omega.{arith}
use borrow.Author.Tests.{eq-eqb, ne_eqb, eqb-true}
use lib.Dec.{eqb}
use lib.ListN.{length, take, set, length-set, length-append}
use Rattle.molecule.specs.Layout.{span, fix_count, fix_item}
use Rattle.lists.specs.Lists.{eq_bytes, contains}
use Rattle.lists.proofs.EqualLaws.{eq_refl, eq_true}
use Rattle.lists.proofs.SpanLaws.{span-on, span-end, span-split, span-whole}
use Rattle.std.specs.Prelude.{Option, Some, nat_eq}
use Rattle.std.specs.Option.{option_eq}
use Rattle.std.specs.List.{position}
use Rattle.std.proofs.Common.{length-take-le}
use Rattle.std.proofs.lemmas.List.{map-append, take_more_set}
use Rattle.std.proofs.Math.Logic.{∥∥₁_elim}
use Rattle.std.proofs.Props.{props}
use Rattle.molecule.proofs.Offsets.{span-length}
use Rattle.item_index.specs.Index.{Index, key_of, place_in}
use Rattle.item_index.proofs.FindLaws.{index_front, position_eq}
use Rattle.distinct_deps.specs.Listed.{Listed}
use Rattle.item_index.proofs.OrderLaws.{three}
use Rattle.cell_deps.specs.CellDeps.{before, any_count, last_dep_at, own_dep_at, dep_at, dep_pushed, push_all, cell_deps, dep_count, deps_at, Chooses}
use Rattle.cell_deps.proofs.DepLaws.{before_in, before_past, any_none, span_agree, span-before, all_spans}
use Rattle.distinct_deps.proofs.SortedLaws.{contains_last}
use Rattle.distinct_deps.proofs.ChooseLaws.{there, new, all_grow, chosen-long}

-- ---- its own list

-- the item at i stands nowhere before exactly if its first place is i
first-place : (x : List ℕ) (f : ℕ → List ℕ) (j k i : ℕ) → j ≤ i → i < j + k → x ≡ f i → eqb (place_in x (span f j k) + j) i ≡ not (contains x (span f j (i - j)))
unfolding place_in contains span
first-place x f j zero i p q e = absurd (omega arith)
first-place x f j (suc k) i p q e = three j i
    (λ l. let z : i - j ≡ suc (i - suc j) = omega arith in rw z (by l (eq_bytes x (f j)) (later (first-place x f (suc j) k i (omega arith) (omega arith) e))))
    (λ l. let z : i - j ≡ 0 = omega arith in rw (z, ap (λ (v : ℕ). eq_bytes x (f v)) l ∙ ap (eq_bytes x) (sym e) ∙ eq_refl x, eq-eqb (0 + j) i (omega arith)))
    (λ l. absurd (omega arith))
  where
    later : eqb (place_in x (span f (suc j) k) + suc j) i ≡ not (contains x (span f (suc j) (i - suc j)))
        → eqb (suc (place_in x (span f (suc j) k)) + j) i ≡ not (contains x (span f (suc j) (i - suc j)))
    later h = let z : suc (place_in x (span f (suc j) k)) + j ≡ place_in x (span f (suc j) k) + suc j = omega arith in ap (λ (v : ℕ). eqb v i) z ∙ h

    by : j < i → (b : Bool) → eqb (suc (place_in x (span f (suc j) k)) + j) i ≡ not (contains x (span f (suc j) (i - suc j)))
        → eqb (cond b 0 (suc (place_in x (span f (suc j) k))) + j) i ≡ not (cond b true (contains x (span f (suc j) (i - suc j))))
    by l true h = ne_eqb (0 + j) i (λ w. omega arith)
    by l false h = h

contains-both : (x : List ℕ) (xs ys : List (List ℕ)) → contains x (xs ++ ys) ≡ cond (contains x xs) true (contains x ys)
unfolding contains
contains-both x [] ys = refl
contains-both x (z ∷ xs) ys = by (eq_bytes x z) (contains x xs) (contains-both x xs ys)
  where
    by : (b d : Bool) {c : Bool} → c ≡ cond d true (contains x ys) → cond b true c ≡ cond (cond b true d) true (contains x ys)
    by true d e = refl
    by false d e = e

-- ---- a list before others

module _ (m : ℕ) (f g : ℕ → List ℕ) (i : ℕ) (x : List ℕ) where
  new_in : i < m → x ≡ before m f g i → {p : ℕ} → p ≡ place_in x (span f 0 m) → eqb p i ≡ not (contains x (span (before m f g) 0 i))
  new_in h e {p} ep =
      let z : place_in x (span f 0 m) + 0 ≡ place_in x (span f 0 m) = omega arith in
      ap (λ (v : ℕ). eqb v i) (ep ∙ sym z)
      ∙ first-place x f 0 m i (omega arith) (omega arith) (e ∙ before_in m f g i h)
      ∙ ap (λ (l : List (List ℕ)). not (contains x l)) (let w : i - 0 ≡ i = omega arith in ap (span f 0) w ∙ sym (span_agree (before m f g) f 0 i (λ j p q. before_in m f g j (omega arith))))

  past : m ≤ i → contains x (span (before m f g) 0 i) ≡ cond (contains x (span f 0 m)) true (contains x (span g 0 (i - m)))
  past h =
      let z : i ≡ m + (i - m) = omega arith in
      ap (λ (v : ℕ). contains x (span (before m f g) 0 v)) z ∙ ap (contains x) (span-before m f g (i - m)) ∙ contains-both x (span f 0 m) (span g 0 (i - m))

  old_past : m ≤ i → {r : Bool} → r ≡ contains x (span f 0 m) → r ≡ true → false ≡ not (contains x (span (before m f g) 0 i))
  old_past h e t =
      let w : contains x (span (before m f g) 0 i) ≡ true = past h ∙ ap (λ (v : Bool). cond v true (contains x (span g 0 (i - m)))) (sym e ∙ t) in
      sym (ap not w)

  new_past : m ≤ i → {r q : Bool} → r ≡ contains x (span f 0 m) → r ≡ false → q ≡ not (contains x (span g 0 (i - m))) → q ≡ not (contains x (span (before m f g) 0 i))
  new_past h e t eq =
      let w : contains x (span (before m f g) 0 i) ≡ contains x (span g 0 (i - m)) = past h ∙ ap (λ (v : Bool). cond v true (contains x (span g 0 (i - m)))) (sym e ∙ t) in
      eq ∙ sym (ap not w)

-- the same of a list of deps
module _ (b : List ℕ) (g : ℕ → List ℕ) {n : ℕ} (en : n ≡ fix_count b) (i : ℕ) (x : List ℕ) where
  listed_new : i < n → x ≡ before (fix_count b) (fix_item b 37) g i → {r : Bool} → r ≡ eqb (place_in x (span (fix_item b 37) 0 (fix_count b))) i
      → r ≡ not (contains x (span (before (fix_count b) (fix_item b 37) g) 0 i))
  listed_new h e er = er ∙ new_in (fix_count b) (fix_item b 37) g i x (rw en at h) e refl

  module _ (h : n ≤ i) {r : Bool} (er : r ≡ contains x (span (fix_item b 37) 0 (fix_count b))) where
    listed_old : r ≡ true → false ≡ not (contains x (span (before (fix_count b) (fix_item b 37) g) 0 i))
    listed_old = old_past (fix_count b) (fix_item b 37) g i x (rw en at h) er

    listed_past : r ≡ false → {q : Bool} → q ≡ not (contains x (span g 0 (i - n))) → q ≡ not (contains x (span (before (fix_count b) (fix_item b 37) g) 0 i))
    listed_past t eq =
        new_past (fix_count b) (fix_item b 37) g i x (rw en at h) er t (eq ∙ ap (λ (v : ℕ). not (contains x (span g 0 (i - v)))) en)

-- ---- the ways out

pub lock-none : (c x : List ℕ) {r : Bool} → r ≡ eqb (length c) 0 → r ≡ true → not r ≡ contains x (span (λ _. c) 0 (any_count c))
unfolding contains span
lock-none c x e t = rw t (ap (λ (n : ℕ). contains x (span (λ _. c) 0 n)) (any_none c (eqb-true (length c) 0 (sym e ∙ t))))

pub lock-is : (c x : List ℕ) {q : Bool} → q ≡ eqb (length c) 0 → q ≡ false → {r : Bool} → r ≡ eq_bytes x c → r ≡ contains x (span (λ _. c) 0 (any_count c))
unfolding contains span any_count
lock-is [] x e t f = absurd (false≢true (sym t ∙ e))
lock-is (b ∷ c) x e t {r} f = f ∙ by (eq_bytes x (b ∷ c))
  where
    by : (d : Bool) → d ≡ cond d true false
    by true = refl
    by false = refl

-- a list by its index
module _ (list s x : List ℕ) (o : Listed list s) where
  pub has_is : {r : Bool} → (Index (key_of list 37 0) (length s) s → r ≡ contains x (span (key_of list 37 0) 0 (length s))) → r ≡ contains x (span (fix_item list 37) 0 (fix_count list))
  unfolding key_of
  has_is h = ∥∥₁_elim o.index (Prim.hlevel props) (λ k. h k) ∙ ap (λ (v : ℕ). contains x (span (fix_item list 37) 0 v)) o.long

  pub first_is : (i : ℕ) → i < fix_count list → {p : Option ℕ} → (Index (key_of list 37 0) (length s) s → p ≡ position (eq_bytes x) (span (key_of list 37 0) 0 (length s)))
      → {r : Bool} → r ≡ option_eq nat_eq p (Some i) → r ≡ eqb (place_in x (span (fix_item list 37) 0 (fix_count list))) i
  unfolding key_of
  first_is i h q e = e ∙ ap (λ (t : Option ℕ). option_eq nat_eq t (Some i)) (∥∥₁_elim o.index (Prim.hlevel props) (λ k. q k) ∙ ap (λ (v : ℕ). position (eq_bytes x) (span (fix_item list 37) 0 v)) o.long)
      ∙ position_eq x (span (fix_item list 37) 0 (fix_count list)) i (rw span-length h)

pub listed_made : (list : List ℕ) (p q : ℕ) (s : List ℕ) {n : ℕ} → n ≡ fix_count list → (n ≤ p → n ≤ q → Index (key_of list 37 0) n s) → n ≤ p → n ≤ q → n ≤ length s → Listed list (take n s)
listed_made list p q s e h l m r = record { long = length-take-le _ s r ∙ e; index = ∣ index_front (h l m) ∣₁ }

module _ (c d x : List ℕ) (i : ℕ) {n : ℕ} (en : n ≡ any_count c) where
  pub last_first : i < n → n ≤ 1 → true ≡ not (contains x (span (last_dep_at c d) 0 i))
  unfolding contains span
  last_first h l = let z : i ≡ 0 = omega arith in ap (λ (v : ℕ). not (contains x (span (last_dep_at c d) 0 v))) (sym z)

  module _ (h : n ≤ i) {r : Bool} (er : r ≡ contains x (span (λ _. c) 0 (any_count c))) where
    pub last_lock_again : r ≡ true → false ≡ not (contains x (span (last_dep_at c d) 0 i))
    unfolding last_dep_at
    last_lock_again = old_past (any_count c) (λ _. c) (fix_item d 37) i x (rw en at h) er

    pub last_extra_new : r ≡ false → i < any_count c + fix_count d → x ≡ last_dep_at c d i → {j : ℕ} {q : Bool} → j ≡ i - n
        → q ≡ eqb (place_in x (span (fix_item d 37) 0 (fix_count d))) j → q ≡ not (contains x (span (last_dep_at c d) 0 i))
    unfolding last_dep_at
    last_extra_new t l ex ej eq =
        let u : i - n < fix_count d = omega arith in
        new_past (any_count c) (λ _. c) (fix_item d 37) i x (rw en at h) er t
        (eq
        ∙ ap (eqb (place_in x (span (fix_item d 37) 0 (fix_count d)))) ej
        ∙ ap (λ (v : ℕ). eqb v (i - n)) (sym (plus_none (place_in x (span (fix_item d 37) 0 (fix_count d)))))
        ∙ first-place x (fix_item d 37) 0 (fix_count d) (i - n) (omega arith) (omega arith) (ex ∙ before_past (any_count c) (λ _. c) (fix_item d 37) i (rw en at h) ∙ ap (λ (v : ℕ). fix_item d 37 (i - v)) (sym en))
        ∙ ap₂ (λ (v w : ℕ). not (contains x (span (fix_item d 37) v w))) refl (less_none (i - n) ∙ ap (λ (v : ℕ). i - v) en))
      where
        plus_none : (v : ℕ) → v + 0 ≡ v
        plus_none v = omega arith

        less_none : (v : ℕ) → v - 0 ≡ v
        less_none v = omega arith

module _ (b c d x : List ℕ) (i : ℕ) {n : ℕ} (en : n ≡ fix_count b) where
  pub own_new : i < n → x ≡ own_dep_at b c d i → {r : Bool} → r ≡ eqb (place_in x (span (fix_item b 37) 0 (fix_count b))) i → r ≡ not (contains x (span (own_dep_at b c d) 0 i))
  unfolding own_dep_at
  own_new = listed_new b (last_dep_at c d) en i x

  module _ (h : n ≤ i) {r : Bool} (er : r ≡ contains x (span (fix_item b 37) 0 (fix_count b))) where
    pub own_again : r ≡ true → false ≡ not (contains x (span (own_dep_at b c d) 0 i))
    unfolding own_dep_at
    own_again = listed_old b (last_dep_at c d) en i x h er

    pub own_past : r ≡ false → {j : ℕ} {q : Bool} → j ≡ i - n → q ≡ not (contains x (span (last_dep_at c d) 0 j)) → q ≡ not (contains x (span (own_dep_at b c d) 0 i))
    unfolding own_dep_at
    own_past t ej eq = listed_past b (last_dep_at c d) en i x h er t (rw ej at eq)

pub own_rest : (b c d : List ℕ) (i : ℕ) {n j : ℕ} {x : List ℕ} → n ≡ fix_count b → n ≤ i → j ≡ i - n → x ≡ own_dep_at b c d i → x ≡ last_dep_at c d j
unfolding own_dep_at
own_rest b c d i en h ej e = rw ej (e ∙ before_past (fix_count b) (fix_item b 37) (last_dep_at c d) i (rw en at h) ∙ ap (λ (v : ℕ). last_dep_at c d (i - v)) (sym en))

module _ (a b c d : List ℕ) (i : ℕ) {x : List ℕ} (ex : x ≡ dep_at a b c d i) {n : ℕ} (en : n ≡ fix_count a) where
  to_dep : {q : Bool} → q ≡ not (contains x (span (dep_at a b c d) 0 i)) → q ≡ not (contains (dep_at a b c d i) (span (dep_at a b c d) 0 i))
  to_dep e = e ∙ ap (λ (y : List ℕ). not (contains y (span (dep_at a b c d) 0 i))) ex

  pub dep_new : i < n → {r : Bool} → r ≡ eqb (place_in x (span (fix_item a 37) 0 (fix_count a))) i → r ≡ not (contains (dep_at a b c d i) (span (dep_at a b c d) 0 i))
  unfolding dep_at
  dep_new h q = to_dep (listed_new a (own_dep_at b c d) en i x h ex q)

  module _ (h : n ≤ i) {r : Bool} (er : r ≡ contains x (span (fix_item a 37) 0 (fix_count a))) where
    pub dep_again : r ≡ true → false ≡ not (contains (dep_at a b c d i) (span (dep_at a b c d) 0 i))
    unfolding dep_at
    dep_again t = to_dep (listed_old a (own_dep_at b c d) en i x h er t)

    pub dep_past : r ≡ false → {j : ℕ} {q : Bool} → j ≡ i - n → q ≡ not (contains x (span (own_dep_at b c d) 0 j)) → q ≡ not (contains (dep_at a b c d i) (span (dep_at a b c d) 0 i))
    unfolding dep_at
    dep_past t ej e = to_dep (listed_past a (own_dep_at b c d) en i x h er t (rw ej at e))

pub dep-rest : (a b c d : List ℕ) (i : ℕ) {n j : ℕ} {x : List ℕ} → n ≡ fix_count a → n ≤ i → j ≡ i - n → x ≡ dep_at a b c d i → x ≡ own_dep_at b c d j
unfolding dep_at
dep-rest a b c d i en h ej e = rw ej (e ∙ before_past (fix_count a) (fix_item a 37) (own_dep_at b c d) i (rw en at h) ∙ ap (λ (v : ℕ). own_dep_at b c d (i - v)) (sym en))

-- ---- the loop

-- the first `count` of p are places of the deps before i, each once; p has room for l, of which `room` may be used
pub record Gathering (a b c d : List ℕ) (room : ℕ) (p : List ℕ) (count n i : ℕ) (R : List (List ℕ)) : Type 0 where
  pub within : i ≤ n
  pub all : n ≡ dep_count a b c d
  pub most : count ≤ room
  pub whole : length p ≡ room
  pub members : (y : List ℕ) → contains y (deps_at a b c d (take count p)) ≡ contains y (span (dep_at a b c d) 0 i)
  pub rest : R ≡ push_all (deps_at a b c d (take count p)) (span (dep_at a b c d) i (n - i))

module _ (a b c d : List ℕ) where
  pub gather_start : (p : List ℕ) {n : ℕ} → n ≡ dep_count a b c d → Gathering a b c d (length p) p 0 n 0 (cell_deps a b c d)
  unfolding cell_deps deps_at contains span
  gather_start p {n} e = record {
    within = omega arith;
    all = e;
    most = omega arith;
    whole = refl;
    members = λ y. refl;
    rest = ap (push_all []) (sym (all_spans a b c d) ∙ ap (span (dep_at a b c d) 0) (sym e) ∙ span-whole (dep_at a b c d) n);
  }

  one_on : (y : List ℕ) (i : ℕ) → contains y (span (dep_at a b c d) 0 (i + 1)) ≡ cond (contains y (span (dep_at a b c d) 0 i)) true (eq_bytes y (dep_at a b c d i))
  unfolding span
  one_on y i =
      let z : 0 + i ≡ i = omega arith in
      ap (contains y) (span-split (dep_at a b c d) 0 i 1 ∙ ap (λ (v : ℕ). span (dep_at a b c d) 0 i ++ (dep_at a b c d v ∷ [])) z)
      ∙ contains_last y (dep_at a b c d i) (span (dep_at a b c d) 0 i)

  module _ {room : ℕ} {p : List ℕ} {count n i : ℕ} {R : List (List ℕ)} (k : Gathering a b c d room p count n i R) where
    abbrev deps : List (List ℕ)
    deps = deps_at a b c d (take count p)

    deps-long : length deps ≡ count
    deps-long = let u = k.most in let v = k.whole in chosen-long a b c d p count (omega arith)

    pub gather_in : i < n → i < dep_count a b c d
    gather_in h = let e = k.all in omega arith

    pub gather_end : n ≤ i → R ≡ cell_deps a b c d → Chooses a b c d room p count
    unfolding push_all
    gather_end h e =
        let q : cell_deps a b c d ≡ deps = sym e ∙ k.rest ∙ ap (push_all deps) (span-end (dep_at a b c d) i n h) in
        let u = ap length q ∙ deps-long in
        let v = k.most in
        record { number = omega arith; chosen = λ _. sym q }

    module _ {r : Bool} (h : i < n) (er : r ≡ not (contains (dep_at a b c d i) (span (dep_at a b c d) 0 i))) where
      abbrev y : List ℕ
      y = dep_at a b c d i

      one_less : R ≡ push_all (dep_pushed deps y) (span (dep_at a b c d) (i + 1) (n - (i + 1)))
      unfolding push_all
      one_less = k.rest ∙ ap (push_all deps) (span-on (dep_at a b c d) i n h)

      seen : (v : Bool) → v ≡ contains y (span (dep_at a b c d) 0 i) → (t : Bool) → r ≡ t → v ≡ not t
      seen true e true t = sym t ∙ er ∙ ap not (sym e)
      seen true e false t = refl
      seen false e true t = refl
      seen false e false t = sym t ∙ er ∙ ap not (sym e)

      pub gather_old : r ≡ false → Gathering a b c d room p count n (i + 1) R
      gather_old t =
          let w : contains y (span (dep_at a b c d) 0 i) ≡ true = seen _ refl false t in
          record {
            within = omega arith;
            all = k.all;
            most = k.most;
            whole = k.whole;
            members = λ z. k.members z ∙ again z (eq_bytes z y) refl w ∙ sym (one_on z i);
            rest = one_less ∙ rw (there deps y (sym (k.members y)) w);
          }
        where
          again : (z : List ℕ) (v : Bool) → eq_bytes z y ≡ v → contains y (span (dep_at a b c d) 0 i) ≡ true
              → contains z (span (dep_at a b c d) 0 i) ≡ cond (contains z (span (dep_at a b c d) 0 i)) true (eq_bytes z y)
          again z true e w = let q = ap (λ (v : List ℕ). contains v (span (dep_at a b c d) 0 i)) (eq_true z y e) ∙ w in rw q
          again z false e w = rw e (same (contains z (span (dep_at a b c d) 0 i)))
            where
              same : (v : Bool) → v ≡ cond v true false
              same true = refl
              same false = refl

      module _ (t : r ≡ true) where
        fresh : contains y (span (dep_at a b c d) 0 i) ≡ false
        fresh = seen _ refl true t

        pub gather_new : count < length p → Gathering a b c d room (set p count i) (count + 1) n (i + 1) R
        unfolding deps_at
        gather_new u =
            let w = k.whole in
            let f : take (count + 1) (set p count i) ≡ take count p ++ (i ∷ []) = take_more_set p count i (omega arith) in
            let g : deps ++ (y ∷ []) ≡ map (dep_at a b c d) (take (count + 1) (set p count i)) = sym (map-append (dep_at a b c d) (take count p) (i ∷ [])) ∙ ap (map (dep_at a b c d)) (sym f) in
            let q : dep_pushed deps y ≡ map (dep_at a b c d) (take (count + 1) (set p count i)) = new deps y (sym (k.members y)) fresh ∙ g in
            record {
              within = omega arith;
              all = k.all;
              most = omega arith;
              whole = simp length-set k.whole;
              members = λ z. ap (contains z) (sym g) ∙ contains_last z y deps ∙ ap (λ (v : Bool). cond v true (eq_bytes z y)) (k.members z) ∙ sym (one_on z i);
              rest = one_less ∙ ap (λ (ds : List (List ℕ)). push_all ds (span (dep_at a b c d) (i + 1) (n - (i + 1)))) q;
            }

        pub gather_room : count < room → count < length p
        gather_room u = let w = k.whole in omega arith

        pub gather_full : length p ≤ count → R ≡ cell_deps a b c d → room < length (cell_deps a b c d)
        gather_full u e =
            let v = k.whole in
            let q : cell_deps a b c d ≡ push_all (deps ++ (y ∷ [])) (span (dep_at a b c d) (i + 1) (n - (i + 1)))
            = sym e ∙ one_less ∙ rw (new deps y (sym (k.members y)) fresh) in
            let g = all_grow (deps ++ (y ∷ [])) (span (dep_at a b c d) (i + 1) (n - (i + 1))) in
            let f = ap length q in
            let w = length-append deps (y ∷ []) in
            let z = deps-long in
            omega arith
