-- Looking up by halves.
use mathlib.Core.Path.{◌≡◌, refl, sym, ap, ap₂, ◌∙◌}
use Prim.Native.Nat.{ℕ, zero, suc, ◌+◌, ◌≤◌, ◌<◌}
use mathlib.Core.Bool.{Bool, true, false, cond, false≢true}
use mathlib.Core.List.{List, [], ◌∷◌}
use native.Mathlib.Nat.{add-zero, zero-add}
use native.Mathlib.Omega.{arith}
use borrow.Author.Tests.{ltb-true, ltb-false, lt-ltb, le-ltb, ne_eqb}
use lib.Dec.{ltb, eqb}
use lib.ListN.{length, get_or, take}
use Rattle.std.proofs.Common.{length-take-le, not}
use Rattle.std.proofs.lemmas.List.{get_or-take}
use Rattle.std.specs.Option.{option_eq}
use Rattle.std.specs.Prelude.{nat_eq, Some, None, unwrap_or}
use Rattle.std.specs.declared.cmp.Ordering.{Ordering}
use Rattle.std.specs.Ordering.{is_lt, ordering_index}
use Rattle.std.specs.List.{position, position_or_len}
use Rattle.std.specs.Borrow.{Bor}
use Rattle.std.specs.Fn.{Mut, Called, ComputesKey}
use Rattle.std.proofs.lemmas.List.Sorted.{IsPartitionPoint-from_clause}
use Rattle.std.specs.List.Sorted.{IsPartitionedBy, IsPartitionPoint}
use Rattle.std.proofs.lemmas.Grind.{get_or_default_zero}
use Rattle.molecule.specs.Layout.{span}
use Rattle.molecule.proofs.Offsets.{span-length}
use Rattle.lists.specs.Lists.{eq_bytes, contains}
use Rattle.lists.proofs.LoopLaws.{at_place}
use Rattle.lists.proofs.EqualLaws.{not_so, eq_refl, eq_true}
use Rattle.item_index.specs.Order.{sorts_before, order_of}
use Rattle.item_index.specs.Index.{Stands, Index, place_in}
use Rattle.item_index.proofs.OrderLaws.{three, before_not, after_is, after_trans, before-later, before_earlier, before_differs, before_other, order_less, order-more, order_same}
use Rattle.item_index.proofs.ComesLaws.{item_late, not_first}
use Rattle.item_index.proofs.MergeLaws.{rises_same, rises_on}

-- from an item on, none that follows comes before it
pub items-on : {f : ℕ → List ℕ} {s : List ℕ} {n : ℕ} → Index f n s → (i j : ℕ) → i ≤ j → j < n → sorts_before (f (get_or s j 0)) (f (get_or s i 0)) ≡ false
items-on {f} {s} o i j p q = item_late f (get_or s j 0) (get_or s i 0) (rises_on o.order i j (omega arith) p q)

-- an index of the first n is one of these alone
pub index_front : {f : ℕ → List ℕ} {s : List ℕ} {n : ℕ} → Index f n s → Index f (length (take n s)) (take n s)
index_front {f} {s} {n} o = rw (length-take-le n s o.room) (record {
  room = omega (arith, length-take-le n s o.room);
  inside = λ j h. rw (at j h) (o.inside j h);
  onto = λ i h. let w = o.onto i h in record { at = w.at; from = w.from; below = w.below; is = at w.at w.below ∙ w.is };
  order = rises_same s (take n s) 0 n (λ i a b. at i b) o.order;
})
  where
    at : (i : ℕ) → i < n → get_or (take n s) i 0 ≡ get_or s i 0
    at i h = get_or-take n s i 0 h

-- ---- where it stands

ltb_suc : (a b : ℕ) → ltb a b ≡ ltb (suc a) (suc b)
ltb_suc a b = by (ltb a b) refl
  where
    by : (c : Bool) → ltb a b ≡ c → c ≡ ltb (suc a) (suc b)
    by true e = let l = ltb-true a b e in sym (lt-ltb (suc a) (suc b) (omega arith))
    by false e = let l = ltb-false a b e in sym (le-ltb (suc a) (suc b) (omega arith))

-- x is in a list exactly if its place is there
pub place-there : (x : List ℕ) (f : ℕ → List ℕ) (j k : ℕ) → contains x (span f j k) ≡ ltb (place_in x (span f j k)) k
unfolding contains place_in span
place-there x f j zero = refl
place-there x f j (suc k) = by (eq_bytes x (f j)) (place-there x f (suc j) k ∙ ltb_suc (place_in x (span f (suc j) k)) k)
  where
    by : (b : Bool) → contains x (span f (suc j) k) ≡ ltb (suc (place_in x (span f (suc j) k))) (suc k)
        → cond b true (contains x (span f (suc j) k)) ≡ ltb (cond b 0 (suc (place_in x (span f (suc j) k)))) (suc k)
    by true e = sym (lt-ltb 0 (suc k) (omega arith))
    by false e = e

-- where the first that is x stands: none before it is
first-there : (x : List ℕ) (f : ℕ → List ℕ) (j k i : ℕ) → j ≤ i → i < j + k → ((a : ℕ) → j ≤ a → a < i → eq_bytes x (f a) ≡ false) → eq_bytes x (f i) ≡ true
    → place_in x (span f j k) + j ≡ i
unfolding place_in span
first-there x f j zero i p q h e = absurd (omega arith)
first-there x f j (suc k) i p q h e = three j i
    (λ l. rw (h j (omega arith) l) (let z = first-there x f (suc j) k i (omega arith) (omega arith) (λ a m n. h a (omega arith) n) e in omega arith))
    (λ l. rw (ap (λ (v : ℕ). eq_bytes x (f v)) l ∙ e) (omega arith))
    (λ l. absurd (omega arith))

nowhere_there : (x : List ℕ) (f : ℕ → List ℕ) (j k : ℕ) → ((a : ℕ) → j ≤ a → a < j + k → eq_bytes x (f a) ≡ false) → place_in x (span f j k) ≡ k
unfolding place_in span
nowhere_there x f j zero h = refl
nowhere_there x f j (suc k) h = rw (h j (omega arith) (omega arith)) (ap suc (nowhere_there x f (suc j) k (λ a p q. h a (omega arith) (omega arith))))

pub eq_sym : (x y : List ℕ) → eq_bytes y x ≡ false → eq_bytes x y ≡ false
eq_sym x y e = not_so (eq_bytes x y) (λ t. false≢true (sym e ∙ ap (eq_bytes y) (eq_true x y t) ∙ eq_refl y))

-- each item by its place in the index
by_place : {f : ℕ → List ℕ} {s : List ℕ} {n : ℕ} (x : List ℕ) → Index f n s → ((a : ℕ) → a < n → eq_bytes x (f (get_or s a 0)) ≡ false)
    → (i : ℕ) → i < n → eq_bytes x (f i) ≡ false
by_place {f} {s} {n} x o h i q = one (o.onto i q)
  where
    one : Stands i s 0 n → eq_bytes x (f i) ≡ false
    one w = ap (λ (v : ℕ). eq_bytes x (f v)) (sym w.is) ∙ h w.at w.below

-- what comes before x, or after it, is not x
low_differs : (x y : List ℕ) → sorts_before y x ≡ true → eq_bytes x y ≡ false
low_differs x y t = eq_sym x y (before_differs y x t)

-- ---- what the library's searches say of an index of a whole list

pub lt_is : (x y : List ℕ) → is_lt (order_of x y) ≡ sorts_before x y
unfolding order_of
lt_is x y = by (sorts_before x y) (sorts_before y x)
  where
    by : (b c : Bool) → is_lt (cond b Ordering.Less (cond c Ordering.Greater Ordering.Equal)) ≡ b
    by true c = refl
    by false true = refl
    by false false = refl

-- of y, and z that does not come before it
pub ranked : (y z x : List ℕ) → sorts_before z y ≡ false → ordering_index (order_of y x) ≤ ordering_index (order_of z x)
unfolding order_of
ranked y z x h = by (sorts_before y x) refl (sorts_before x y) refl
  where
    more : sorts_before z x ≡ false → (c : Bool) → 1 ≤ ordering_index (cond false Ordering.Less (cond c Ordering.Greater Ordering.Equal))
    more e true = omega arith
    more e false = omega arith

    by : (b : Bool) → sorts_before y x ≡ b → (c : Bool) → sorts_before x y ≡ c → ordering_index (cond b Ordering.Less (cond c Ordering.Greater Ordering.Equal)) ≤ ordering_index (order_of z x)
    by true e c w = omega arith
    by false e true w = rw (← after_is z x (before_earlier x y z w h)) (omega arith)
    by false e false w = let t : sorts_before z x ≡ false = after_trans x y z e h in rw t (more t (sorts_before x z))

module _ (f : ℕ → List ℕ) (s x : List ℕ) (o : Index f (length s) s) where
  pub parted : IsPartitionedBy (λ p. is_lt (order_of (f p) x)) s
  parted i j d h l t =
      let ei : get_or s i d ≡ get_or s i 0 = get_or_default_zero s i d (omega arith) in
      let ej : get_or s j d ≡ get_or s j 0 = get_or_default_zero s j d l in
      let u : sorts_before (f (get_or s j 0)) x ≡ true = rw (ej, lt_is) at t in
      rw (ei, lt_is) (before-later (f (get_or s i 0)) (f (get_or s j 0)) x (items-on o i j h l) u)

  -- none of them is x
  pub none_is : ((a : ℕ) → a < length s → eq_bytes x (f (get_or s a 0)) ≡ false) → false ≡ contains x (span f 0 (length s))
  none_is each =
      let n = length s in
      sym (place-there x f 0 n ∙ ap (λ (v : ℕ). ltb v n) (nowhere_there x f 0 n (λ i p q. by_place x o each i (omega arith))) ∙ le-ltb n n (omega arith))

-- ---- by halves, until it is met

-- those before low come before x, and x before those from high on
pub record Halving (f : ℕ → List ℕ) (s x : List ℕ) (low high : ℕ) : Type 0 where
  pub inside : high ≤ length s
  pub below : Index f (length s) s → (a : ℕ) → a < low → sorts_before (f (get_or s a 0)) x ≡ true
  pub above : Index f (length s) s → (a : ℕ) → high ≤ a → a < length s → sorts_before x (f (get_or s a 0)) ≡ true

pub halves_start : (f : ℕ → List ℕ) (s x : List ℕ) → Halving f s x 0 (length s)
halves_start f s x = record { inside = omega arith; below = λ o a l. absurd (omega arith); above = λ o a l m. absurd (omega arith) }

module _ {f : ℕ → List ℕ} {s x : List ℕ} {low high : ℕ} (w : Halving f s x low high) where
  module _ (mid : ℕ) (l : mid < high) where
    pub halves_less : Ordering.Less ≡ order_of (f (get_or s mid 0)) x → Halving f s x (mid + 1) high
    halves_less e = record {
      inside = w.inside;
      below = λ o a m. before-later (f (get_or s a 0)) (f (get_or s mid 0)) x (items-on o a mid (omega arith) (let i = w.inside in omega arith)) (order_less (f (get_or s mid 0)) x e);
      above = w.above;
    }

    pub halves_more : Ordering.Greater ≡ order_of (f (get_or s mid 0)) x → Halving f s x low mid
    halves_more e = record {
      inside = let i = w.inside in omega arith;
      below = w.below;
      above = λ o a m n. before_earlier x (f (get_or s mid 0)) (f (get_or s a 0)) (order-more (f (get_or s mid 0)) x e) (items-on o mid a m n);
    }

    pub halves_met : Ordering.Equal ≡ order_of (f (get_or s mid 0)) x → Index f (length s) s → true ≡ contains x (span f 0 (length s))
    halves_met e o =
        let i = w.inside in
        let n = length s in
        let p : ℕ = get_or s mid 0 in
        sym (at_place x f p 0 n (o.inside mid (omega arith))
        (ap (λ (v : ℕ). eq_bytes x (f v)) (zero-add p) ∙ ap (eq_bytes x) (order_same (f p) x e) ∙ eq_refl x))

  pub halves_end : high ≤ low → Index f (length s) s → false ≡ contains x (span f 0 (length s))
  halves_end h o = none_is f s x o (λ a l. three a low
      (λ m. low_differs x (f (get_or s a 0)) (w.below o a m))
      (λ m. before_differs x (f (get_or s a 0)) (w.above o a (omega arith) l))
      (λ m. before_differs x (f (get_or s a 0)) (w.above o a (omega arith) l)))

-- ---- the first place

place_len : (x : List ℕ) (l : List (List ℕ)) → position_or_len (eq_bytes x) l ≡ place_in x l
unfolding place_in
place_len x [] = refl
place_len x (y ∷ l) = by (eq_bytes x y) (place_len x l)
  where
    by : (b : Bool) → position_or_len (eq_bytes x) l ≡ place_in x l → cond (not b) (1 + position_or_len (eq_bytes x) l) 0 ≡ cond b 0 (suc (place_in x l))
    by true e = refl
    by false e = omega arith

place_most : (x : List ℕ) (l : List (List ℕ)) → place_in x l ≤ length l
unfolding place_in
place_most x [] = omega arith
place_most x (y ∷ l) = by (eq_bytes x y) (place_most x l)
  where
    by : (b : Bool) → place_in x l ≤ length l → cond b 0 (suc (place_in x l)) ≤ suc (length l)
    by true e = omega arith
    by false e = omega arith

position_none : (x : List ℕ) (f : ℕ → List ℕ) (n : ℕ) → n ≡ place_in x (span f 0 n) → None ≡ position (eq_bytes x) (span f 0 n)
position_none x f n e = sym (rw (place_len, ← e, span-length f 0 n, le-ltb n n (omega arith)))

position_some : (x : List ℕ) (f : ℕ → List ℕ) (n p : ℕ) → p < n → p ≡ place_in x (span f 0 n) → Some p ≡ position (eq_bytes x) (span f 0 n)
position_some x f n p h e = sym (rw (place_len, ← e, span-length f 0 n, lt-ltb p n h))

-- a place or none, and the place, or else how many there are
pub place_of_position : (x : List ℕ) (l : List (List ℕ)) (n : ℕ) → length l ≡ n → unwrap_or (position (eq_bytes x) l) n ≡ place_in x l
place_of_position x l n e = rw place_len (by (ltb (place_in x l) (length l)) refl)
  where
    by : (b : Bool) → ltb (place_in x l) (length l) ≡ b → unwrap_or (cond b (Some (place_in x l)) None) n ≡ place_in x l
    by true w = refl
    by false w = let h = ltb-false _ _ w in let m = place_most x l in omega arith

-- whether it is a place that is named
pub position_eq : (x : List ℕ) (l : List (List ℕ)) (i : ℕ) → i < length l → option_eq nat_eq (position (eq_bytes x) l) (Some i) ≡ eqb (place_in x l) i
position_eq x l i h = rw place_len (by (ltb (place_in x l) (length l)) refl)
  where
    by : (b : Bool) → ltb (place_in x l) (length l) ≡ b → option_eq nat_eq (cond b (Some (place_in x l)) None) (Some i) ≡ eqb (place_in x l) i
    by true w = refl
    by false w = let m = ltb-false _ _ w in sym (ne_eqb (place_in x l) i (λ e. omega arith))

-- at is what `partition_point` answers by a closure whose calls say whether an item comes before x
module _ (f : ℕ → List ℕ) (s x : List ℕ) (o : Index f (length s) s) {at : ℕ} {F : Type 0} {g : Mut F (Bor ℕ × Unit {0}) Bool} {c : F}
    (clause : (q : ℕ → Bool) → ComputesKey g q c → IsPartitionedBy q s → IsPartitionPoint (λ y. q y ≡ true) (λ y. q y ≡ false) s at)
    (calls : (a : Bor ℕ × Unit {0}) (r : Bool) (c' : F) → Called g c a r c' → (r ≡ is_lt (order_of (f a.0.now) x)) × (c' ≡ c)) where
  point : IsPartitionPoint (λ p. is_lt (order_of (f p) x) ≡ true) (λ p. is_lt (order_of (f p) x) ≡ false) s at
  point = IsPartitionPoint-from_clause (λ p. is_lt (order_of (f p) x)) s at clause (parted f s x o) calls

  below : (i : ℕ) → i < at → sorts_before (f (get_or s i 0)) x ≡ true
  below i h = sym (lt_is (f (get_or s i 0)) x) ∙ point.0 i 0 (omega arith) h

  rest : (i : ℕ) → at ≤ i → i < length s → sorts_before (f (get_or s i 0)) x ≡ false
  rest i h l = sym (lt_is (f (get_or s i 0)) x) ∙ point.1 i 0 h l

  pub place_none : at ≡ length s → None ≡ position (eq_bytes x) (span f 0 (length s))
  place_none h = position_none x f (length s)
      (sym (nowhere_there x f 0 (length s) (λ i p q. by_place x o (λ a l. low_differs x (f (get_or s a 0)) (below a (omega arith))) i (omega arith))))

  module _ (h : at < length s) {y : List ℕ} (ey : y ≡ f (get_or s at 0)) {r : Bool} (er : r ≡ eq_bytes x y) where
    -- another item stands where x would
    pub place_other : r ≡ false → None ≡ position (eq_bytes x) (span f 0 (length s))
    place_other t = position_none x f (length s) (sym (nowhere_there x f 0 (length s) (λ i p q. by_place x o each i (omega arith))))
      where
        first : sorts_before x (f (get_or s at 0)) ≡ true
        first = before_other x (f (get_or s at 0)) (rest at (omega arith) h) (ap (eq_bytes x) (sym ey) ∙ sym er ∙ t)

        later : (a : ℕ) → at ≤ a → a < length s → eq_bytes x (f (get_or s a 0)) ≡ false
        later a p l = before_differs x (f (get_or s a 0)) (before_earlier x (f (get_or s at 0)) (f (get_or s a 0)) first (items-on o at a p l))

        each : (a : ℕ) → a < length s → eq_bytes x (f (get_or s a 0)) ≡ false
        each a l = three a at
            (λ w. low_differs x (f (get_or s a 0)) (below a w))
            (λ w. later a (omega arith) l)
            (λ w. later a (omega arith) l)

    -- x itself, and of all places that have it the smallest
    pub place_here : r ≡ true → Some (get_or s at 0) ≡ position (eq_bytes x) (span f 0 (length s))
    place_here t = position_some x f (length s) p (omega arith) (sym (sym (add-zero (place_in x (span f 0 (length s)))) ∙ first-there x f 0 (length s) p (omega arith) (omega arith) before equal))
      where
        p : ℕ
        p = get_or s at 0

        inside : get_or s at 0 < length s
        inside = o.inside at h

        equal : eq_bytes x (f (get_or s at 0)) ≡ true
        equal = ap (eq_bytes x) (sym ey) ∙ sym er ∙ t

        -- an equal item at a smaller place would stand before it in the index
        smaller : (a : ℕ) → a < get_or s at 0 → Stands a s 0 (length s) → eq_bytes x (f a) ≡ true → ⊥
        smaller a l w e = three w.at at
            (λ m. false≢true (sym (low_differs x (f (get_or s w.at 0)) (below w.at m)) ∙ ap (λ (v : ℕ). eq_bytes x (f v)) w.is ∙ e))
            (λ m. let q = ap (λ (v : ℕ). get_or s v 0) (sym m) ∙ w.is in omega arith)
            (λ m. not_first f (get_or s w.at 0) (get_or s at 0) (rises_on o.order at w.at (omega arith) (omega arith) w.below)
            (λ z. false≢true (sym (before_not x) ∙ ap₂ sorts_before (eq_true x (f (get_or s at 0)) equal) (eq_true x (f a) e ∙ ap f (sym w.is)) ∙ z))
            (λ z q. let i1 = w.is in omega arith))

        before : (a : ℕ) → 0 ≤ a → a < get_or s at 0 → eq_bytes x (f a) ≡ false
        before a z l = not_so (eq_bytes x (f a)) (smaller a l (o.onto a (omega arith)))

-- ---- the ways out of the functions that are lent an index of the first n

module _ (f : ℕ → List ℕ) (s x : List ℕ) (n : ℕ) (o : Index f n s) where
  whole_of : length (take n s) ≡ n
  whole_of = length-take-le n s o.room

  pub search_front : {r : Bool} → (Index f (length (take n s)) (take n s) → r ≡ contains x (span f 0 (length (take n s)))) → r ≡ contains x (span f 0 n)
  search_front h = rw whole_of at (h (index_front o))
