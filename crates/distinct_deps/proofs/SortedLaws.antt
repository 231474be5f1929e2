-- Places kept in the order of their deps: looked up by halves, and one put in.
use mathlib.Core.Path.{◌≡◌, refl, sym, ap, ap₂, ◌∙◌}
use Prim.Native.Nat.{ℕ, zero, suc, ◌+◌, ◌-◌, ◌≤◌, ◌<◌}
use mathlib.Core.Bool.{Bool, true, false, cond, false≢true}
use mathlib.Core.List.{List, [], ◌∷◌, ◌++◌}
use native.Mathlib.Nat.{add-zero, zero-add}
use native.Mathlib.Omega.{arith}
use borrow.Author.Tests.{lt-ltb, le-ltb}
use lib.Dec.{ltb}
use lib.ListN.{length, get_or, take, set, length-set}
use lib.Seq.{get_or-set_same, get_or-set_other}
use Rattle.std.specs.declared.cmp.Ordering.{Ordering}
use Rattle.std.specs.Ordering.{ordering_index}
use Rattle.std.specs.List.{HoldsAt, CopiedTo, SameBelow}
use Rattle.std.specs.List.Sorted.{IsNonDecreasingBy, IsPartitionPoint}
use Rattle.std.proofs.Common.{length-take-le}
use Rattle.std.proofs.lemmas.Grind.{get_or_default_zero}
use Rattle.std.proofs.lemmas.List.{get_or-take}
use Rattle.molecule.specs.Layout.{span}
use Rattle.molecule.proofs.TestLaws.{both_ways}
use Rattle.lists.specs.Lists.{eq_bytes, contains}
use Rattle.lists.proofs.LoopLaws.{at_place}
use Rattle.lists.proofs.EqualLaws.{eq_refl}
use Rattle.item_index.specs.Order.{sorts_before, order_of}
use Rattle.item_index.proofs.FindLaws.{eq_sym, ranked}
use Rattle.item_index.proofs.OrderLaws.{three, before_not, before_differs, after_less, order_less, order-more, order_same}

-- the first n rise
pub record Ordered (f : ℕ → List ℕ) (n : ℕ) : Type 0 where
  pub rising : (i j : ℕ) → i < j → j < n → sorts_before (f i) (f j) ≡ true

-- ---- looking by halves

-- x differs from each
none-there : (x : List ℕ) (f : ℕ → List ℕ) (j k : ℕ) → ((i : ℕ) → j ≤ i → i < j + k → eq_bytes x (f i) ≡ false) → contains x (span f j k) ≡ false
unfolding contains span
none-there x f j zero h = refl
none-there x f j (suc k) h = rw (h j (omega arith) (omega arith)) (none-there x f (suc j) k (λ i p q. h i (omega arith) (omega arith)))

-- x is not among the n, and is to be put at `at`
pub record Absent (f : ℕ → List ℕ) (n : ℕ) (x : List ℕ) (at : ℕ) : Type 0 where
  pub none : contains x (span f 0 n) ≡ false
  pub within : at ≤ n
  pub below : (i : ℕ) → i < at → sorts_before (f i) x ≡ true
  pub above : (i : ℕ) → at ≤ i → i < n → sorts_before x (f i) ≡ true

-- what the library's search says of the first n of s, which are in the order of their deps
module _ (dep : ℕ → List ℕ) (s : List ℕ) (n : ℕ) (h : n ≤ length s) (o : Ordered (λ j. dep (get_or s j 0)) n) (x : List ℕ) where
  taken : (i d : ℕ) → i < n → get_or (take n s) i d ≡ get_or s i 0
  taken i d l = get_or-take n s i d l ∙ get_or_default_zero s i d (omega arith)

  long : length (take n s) ≡ n
  long = length-take-le n s h

  pub deps_rise : IsNonDecreasingBy (λ p. ordering_index (order_of (dep p) x)) (take n s)
  deps_rise i j d l m =
      let k : j < n = omega (arith, long) in
      rw (taken i d (omega arith), taken j d k) (ranked (dep (get_or s i 0)) (dep (get_or s j 0)) x (three i j
      (λ w. after_less (dep (get_or s i 0)) (dep (get_or s j 0)) (o.rising i j w k))
      (λ w. ap (λ (v : ℕ). sorts_before (dep (get_or s v 0)) (dep (get_or s i 0))) (sym w) ∙ before_not (dep (get_or s i 0)))
      (λ w. absurd (omega arith))))

  pub search_there : (i : ℕ) → i < length (take n s) → HoldsAt (λ p. order_of (dep p) x ≡ Ordering.Equal) (take n s) i → contains x (span (λ j. dep (get_or s j 0)) 0 n) ≡ true
  search_there i l k =
      let m : i < n = omega (arith, long) in
      let e : dep (get_or s i 0) ≡ x = order_same (dep (get_or s i 0)) x (sym (rw (taken i 0 m) at (k 0))) in
      at_place x (λ j. dep (get_or s j 0)) i 0 n m (ap (λ (v : ℕ). eq_bytes x (dep (get_or s v 0))) (zero-add i) ∙ ap (eq_bytes x) e ∙ eq_refl x)

  pub search_absent : (at : ℕ) → at ≤ length (take n s)
      → (IsNonDecreasingBy (λ p. ordering_index (order_of (dep p) x)) (take n s) → IsPartitionPoint (λ p. order_of (dep p) x ≡ Ordering.Less) (λ p. order_of (dep p) x ≡ Ordering.Greater) (take n s) at)
      → Absent (λ j. dep (get_or s j 0)) n x at
  search_absent at l k = record {
    none = none-there x (λ j. dep (get_or s j 0)) 0 n (λ i p q. three i at
        (λ w. eq_sym x (dep (get_or s i 0)) (before_differs (dep (get_or s i 0)) x (low i w)))
        (λ w. before_differs x (dep (get_or s i 0)) (high i (omega arith) (omega arith)))
        (λ w. before_differs x (dep (get_or s i 0)) (high i (omega arith) (omega arith))));
    within = omega (arith, long);
    below = low;
    above = high;
  }
    where
      point : IsPartitionPoint (λ p. order_of (dep p) x ≡ Ordering.Less) (λ p. order_of (dep p) x ≡ Ordering.Greater) (take n s) at
      point = k deps_rise

      low : (i : ℕ) → i < at → sorts_before (dep (get_or s i 0)) x ≡ true
      low i w = order_less (dep (get_or s i 0)) x (sym (rw (taken i 0 (omega (arith, long))) at (point.0 i 0 (omega arith) w)))

      high : (i : ℕ) → at ≤ i → i < n → sorts_before x (dep (get_or s i 0)) ≡ true
      high i w m = order-more (dep (get_or s i 0)) x (sym (rw (taken i 0 m) at (point.1 i 0 w (omega (arith, long)))))

-- ---- one put in

-- the list s with x put in at `at`
unfoldable pub shifted : List ℕ → ℕ → ℕ → ℕ → ℕ
shifted s at x i = cond (ltb i at) (get_or s i 0) (cond (ltb at i) (get_or s (i - 1) 0) x)

pub record Inserted (s : List ℕ) (n at x : ℕ) (after : List ℕ) : Type 0 where
  pub long : length after ≡ length s
  pub at_each : (i : ℕ) → i < n + 1 → get_or after i 0 ≡ shifted s at x i

module _ (s : List ℕ) (at x i : ℕ) where
  pub shifted-below : i < at → shifted s at x i ≡ get_or s i 0
  unfolding shifted
  shifted-below h = rw (lt-ltb i at h)

  pub shifted_at : i ≡ at → shifted s at x i ≡ x
  unfolding shifted
  shifted_at h =
      let p : at ≤ i = omega arith in
      let q : i ≤ at = omega arith in
      rw (le-ltb i at p, le-ltb at i q)

  pub shifted-above : at < i → shifted s at x i ≡ get_or s (i - 1) 0
  unfolding shifted
  shifted-above h =
      let p : at ≤ i = omega arith in
      rw (le-ltb i at p, lt-ltb at i h)

-- those from `at` on and before n are moved, and then it is put
pub put_in : (s t : List ℕ) (n at x : ℕ) → at ≤ n → n < length s → length t ≡ length s → CopiedTo s t at (at + 1) (n - at) → SameBelow s t (at + 1) → Inserted s n at x (set t at x)
put_in s t n at x h m l moved same = record {
  long = length-set t at x ∙ l;
  at_each = λ i p. three i at
      (λ w. get_or-set_other t at i x 0 (λ z. omega arith) ∙ same i 0 (omega arith) ∙ sym (shifted-below s at x i w))
      (λ w. ap (λ (v : ℕ). get_or (set t at x) v 0) w ∙ get_or-set_same t at x 0 (omega arith) ∙ sym (shifted_at s at x i w))
      (λ w. let e : at + (i - (at + 1)) ≡ i - 1 = omega arith in
      get_or-set_other t at i x 0 (λ z. omega arith) ∙ moved i 0 (omega arith) (omega arith) ∙ ap (λ (v : ℕ). get_or s v 0) e ∙ sym (shifted-above s at x i w));
}

-- ---- the deps after one was put in

-- where an item that is there stands
stands : {A : Type 0} (y : List ℕ) (g : ℕ → List ℕ) (j k : ℕ) → contains y (span g j k) ≡ true → ((i : ℕ) → i < k → eq_bytes y (g (j + i)) ≡ true → A) → A
unfolding contains span
stands y g j zero h f = absurd (false≢true h)
stands {A} y g j (suc k) h f = by (eq_bytes y (g j)) refl (λ t. stands y g (suc j) k t (λ i l e. f (suc i) (omega arith) (later i e)))
  where
    later : (i : ℕ) → eq_bytes y (g (suc j + i)) ≡ true → eq_bytes y (g (j + suc i)) ≡ true
    later i e = let q : j + suc i ≡ suc j + i = omega arith in ap (λ (v : ℕ). eq_bytes y (g v)) q ∙ e

    by : (b : Bool) → eq_bytes y (g j) ≡ b → (contains y (span g (suc j) k) ≡ true → A) → A
    by true e r = f 0 (omega arith) (ap (λ (v : ℕ). eq_bytes y (g v)) (add-zero j) ∙ e)
    by false e r = r (rw e at h)

pub contains_last : (y x : List ℕ) (l : List (List ℕ)) → contains y (l ++ (x ∷ [])) ≡ cond (contains y l) true (eq_bytes y x)
unfolding contains
contains_last y x [] = by (eq_bytes y x)
  where
    by : (b : Bool) → cond b true false ≡ b
    by true = refl
    by false = refl
contains_last y x (z ∷ l) = by (eq_bytes y z) (contains y l) (contains_last y x l)
  where
    by : (b d : Bool) {c : Bool} → c ≡ cond d true (eq_bytes y x) → cond b true c ≡ cond (cond b true d) true (eq_bytes y x)
    by true d e = refl
    by false d e = e

or_last : (b : Bool) → cond b true true ≡ true
or_last true = refl
or_last false = refl

module _ (f g : ℕ → List ℕ) (n at : ℕ) (x : List ℕ) (h : at ≤ n) (b : (i : ℕ) → i < at → g i ≡ f i) (m : g at ≡ x) (u : (i : ℕ) → at < i → i < n + 1 → g i ≡ f (i - 1)) where
  pub put_ordered : Ordered f n → ((i : ℕ) → i < at → sorts_before (f i) x ≡ true) → ((i : ℕ) → at ≤ i → i < n → sorts_before x (f i) ≡ true) → Ordered g (n + 1)
  put_ordered o p q = record {
    rising = λ i j l k. three j at
        (λ w. ap₂ sorts_before (b i (omega arith)) (b j w) ∙ o.rising i j l (omega arith))
        (λ w. ap₂ sorts_before (b i (omega arith)) (ap g w ∙ m) ∙ p i (omega arith))
        (λ w. three i at
        (λ v. ap₂ sorts_before (b i v) (u j w k) ∙ o.rising i (j - 1) (omega arith) (omega arith))
        (λ v. ap₂ sorts_before (ap g v ∙ m) (u j w k) ∙ q (j - 1) (omega arith) (omega arith))
        (λ v. ap₂ sorts_before (u i v (omega arith)) (u j w k) ∙ o.rising (i - 1) (j - 1) (omega arith) (omega arith)));
  }

  module _ (y : List ℕ) where
    one_of : (i : ℕ) → i < n + 1 → eq_bytes y (g i) ≡ true → cond (contains y (span f 0 n)) true (eq_bytes y x) ≡ true
    one_of i l e = three i at
        (λ w. old i (omega arith) (ap (eq_bytes y) (sym (b i w)) ∙ e))
        (λ w. rw (ap (eq_bytes y) (sym (ap g w ∙ m)) ∙ e) (or_last (contains y (span f 0 n))))
        (λ w. old (i - 1) (omega arith) (ap (eq_bytes y) (sym (u i w l)) ∙ e))
      where
        old : (k : ℕ) → k < n → eq_bytes y (f k) ≡ true → cond (contains y (span f 0 n)) true (eq_bytes y x) ≡ true
        old k l e = rw (at_place y f k 0 n l (ap (λ (v : ℕ). eq_bytes y (f v)) (omega arith) ∙ e))

    there_again : (i : ℕ) → i < n → eq_bytes y (f i) ≡ true → contains y (span g 0 (n + 1)) ≡ true
    there_again i l e = three i at
        (λ w. at_place y g i 0 (n + 1) (omega arith) (ap (eq_bytes y) (ap g (zero-add i) ∙ b i w) ∙ e))
        (λ w. moved (omega arith))
        (λ w. moved (omega arith))
      where
        moved : at ≤ i → contains y (span g 0 (n + 1)) ≡ true
        moved w =
            let q : i + 1 - 1 ≡ i = omega arith in
            at_place y g (i + 1) 0 (n + 1) (omega arith) (ap (eq_bytes y) (ap g (zero-add (i + 1)) ∙ u (i + 1) (omega arith) (omega arith) ∙ ap f q) ∙ e)

    pub put_contains : contains y (span g 0 (n + 1)) ≡ cond (contains y (span f 0 n)) true (eq_bytes y x)
    put_contains = both_ways _ _ (λ t. stands y g 0 (n + 1) t (λ i l e. one_of i l (ap (λ (v : ℕ). eq_bytes y (g v)) (sym (zero-add i)) ∙ e))) (back (contains y (span f 0 n)) refl)
      where
        back : (c : Bool) → contains y (span f 0 n) ≡ c → cond c true (eq_bytes y x) ≡ true → contains y (span g 0 (n + 1)) ≡ true
        back true t e = stands y f 0 n t (λ i l w. there_again i l (ap (λ (v : ℕ). eq_bytes y (f v)) (sym (zero-add i)) ∙ w))
        back false t e = at_place y g at 0 (n + 1) (omega arith) (ap (eq_bytes y) (ap g (zero-add at) ∙ m) ∙ e)
