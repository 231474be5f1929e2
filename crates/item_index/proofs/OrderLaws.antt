-- Strings in the order of their bytes: it is strict and total; one law for each way out of the function that compares.
use mathlib.Core.Path.{◌≡◌, refl, sym, ap, ap₂, ◌∙◌}
use Prim.Native.Nat.{ℕ, zero, suc, ◌+◌, ◌-◌, ◌≤◌, ◌<◌}
use mathlib.Core.Bool.{Bool, true, false, cond, false≢true}
use mathlib.Core.List.{List, [], ◌∷◌}
use native.Mathlib.Omega.{arith}
use borrow.Author.Tests.{ltb-true, ltb-false, lt-ltb, le-ltb, eq-eqb, ne_eqb}
use lib.Dec.{ltb}
use lib.ListN.{length, drop, get_or}
use lib.Seq.{drop-cons}
use Rattle.std.specs.Cmp.Lexicographic.{slice_cmp}
use Rattle.std.specs.Ordering.{nat_cmp}
use Rattle.lists.specs.Lists.{eq_bytes}
use Rattle.lists.proofs.EqualLaws.{not_so, eq_refl, eq_true}
use Rattle.std.specs.declared.cmp.Ordering.{Ordering}
use Rattle.item_index.specs.Order.{sorts_before, order_of}

-- ---- cases

pub three : {A : Type 0} (a b : ℕ) → (a < b → A) → (a ≡ b → A) → (b < a → A) → A
three {A} a b f g h = by (ltb a b) refl (ltb b a) refl
  where
    by : (p : Bool) → ltb a b ≡ p → (q : Bool) → ltb b a ≡ q → A
    by true e q w = f (ltb-true a b e)
    by false e true w = h (ltb-true b a w)
    by false e false w =
        let l = ltb-false a b e in
        let m = ltb-false b a w in
        g (omega arith)

-- ---- one byte decides, or those behind it

module _ (a b : ℕ) (xs ys : List ℕ) where
  pub before_less : a < b → sorts_before (a ∷ xs) (b ∷ ys) ≡ true
  unfolding sorts_before
  before_less h = rw (lt-ltb a b h)

  pub before_more : b < a → sorts_before (a ∷ xs) (b ∷ ys) ≡ false
  unfolding sorts_before
  before_more h = let l : b ≤ a = omega arith in rw (le-ltb a b l, lt-ltb b a h)

  pub before_same : a ≡ b → sorts_before (a ∷ xs) (b ∷ ys) ≡ sorts_before xs ys
  unfolding sorts_before
  before_same h =
      let l : b ≤ a = omega arith in
      let m : a ≤ b = omega arith in
      rw (le-ltb a b l, le-ltb b a m)

-- ---- a strict order

pub before_trans : (x y z : List ℕ) → sorts_before x y ≡ true → sorts_before y z ≡ true → sorts_before x z ≡ true
unfolding sorts_before
before_trans [] [] z p q = absurd (false≢true p)
before_trans [] (b ∷ ys) [] p q = absurd (false≢true q)
before_trans [] (b ∷ ys) (c ∷ zs) p q = refl
before_trans (a ∷ xs) [] z p q = absurd (false≢true p)
before_trans (a ∷ xs) (b ∷ ys) [] p q = absurd (false≢true q)
before_trans (a ∷ xs) (b ∷ ys) (c ∷ zs) p q =
    three a b
    (λ h. three b c
    (λ k. before_less a c xs zs (omega arith))
    (λ k. before_less a c xs zs (omega arith))
    (λ k. absurd (false≢true (sym (before_more b c ys zs k) ∙ q))))
    (λ h. three b c
    (λ k. before_less a c xs zs (omega arith))
    (λ k. before_same a c xs zs (h ∙ k) ∙ before_trans xs ys zs (sym (before_same a b xs ys h) ∙ p) (sym (before_same b c ys zs k) ∙ q))
    (λ k. absurd (false≢true (sym (before_more b c ys zs k) ∙ q))))
    (λ h. absurd (false≢true (sym (before_more a b xs ys h) ∙ p)))

-- what comes before is another string
pub before_differs : (x y : List ℕ) → sorts_before x y ≡ true → eq_bytes x y ≡ false
unfolding sorts_before eq_bytes
before_differs [] [] p = absurd (false≢true p)
before_differs [] (b ∷ ys) p = refl
before_differs (a ∷ xs) [] p = refl
before_differs (a ∷ xs) (b ∷ ys) p = three a b
    (λ h. rw (ne_eqb a b (λ e. omega arith)))
    (λ h. rw (eq-eqb a b h) (before_differs xs ys (sym (before_same a b xs ys h) ∙ p)))
    (λ h. absurd (false≢true (sym (before_more a b xs ys h) ∙ p)))

-- of two strings that differ one comes before the other
pub before_other : (x y : List ℕ) → sorts_before y x ≡ false → eq_bytes x y ≡ false → sorts_before x y ≡ true
unfolding sorts_before eq_bytes
before_other [] [] p q = absurd (false≢true (sym q))
before_other [] (b ∷ ys) p q = refl
before_other (a ∷ xs) [] p q = absurd (false≢true (sym p))
before_other (a ∷ xs) (b ∷ ys) p q = three a b
    (before_less a b xs ys)
    (λ h. before_same a b xs ys h ∙ before_other xs ys (sym (before_same b a ys xs (sym h)) ∙ p) (rw (eq-eqb a b h) at q))
    (λ h. absurd (false≢true (sym p ∙ before_less b a ys xs h)))

-- ---- no string comes before an earlier one: this goes on

pub before_not : (x : List ℕ) → sorts_before x x ≡ false
before_not x = not_so (sorts_before x x) (λ t. false≢true (sym (before_differs x x t) ∙ eq_refl x))

pub after_less : (x y : List ℕ) → sorts_before x y ≡ true → sorts_before y x ≡ false
after_less x y t = not_so (sorts_before y x) (λ u. false≢true (sym (before_not x) ∙ before_trans x y x t u))

-- x, y, z in order: z does not come before x
pub after_trans : (x y z : List ℕ) → sorts_before y x ≡ false → sorts_before z y ≡ false → sorts_before z x ≡ false
after_trans x y z p q = not_so (sorts_before z x) (λ t. by t (eq_bytes x y) refl)
  where
    by : sorts_before z x ≡ true → (c : Bool) → eq_bytes x y ≡ c → ⊥
    by t true e = false≢true (sym q ∙ ap (sorts_before z) (sym (eq_true x y e)) ∙ t)
    by t false e = false≢true (sym q ∙ before_trans z x y t (before_other x y p e))

-- x, then y, which comes before z
pub before-later : (x y z : List ℕ) → sorts_before y x ≡ false → sorts_before y z ≡ true → sorts_before x z ≡ true
before-later x y z p q = by (eq_bytes x y) refl
  where
    by : (c : Bool) → eq_bytes x y ≡ c → sorts_before x z ≡ true
    by true e = ap (λ (l : List ℕ). sorts_before l z) (eq_true x y e) ∙ q
    by false e = before_trans x y z (before_other x y p e) q

-- x, which comes before y, then z
pub before_earlier : (x y z : List ℕ) → sorts_before x y ≡ true → sorts_before z y ≡ false → sorts_before x z ≡ true
before_earlier x y z p q = by (eq_bytes y z) refl
  where
    by : (c : Bool) → eq_bytes y z ≡ c → sorts_before x z ≡ true
    by true e = ap (sorts_before x) (sym (eq_true y z e)) ∙ p
    by false e = before_trans x y z p (before_other y z q e)

-- ---- which of two comes first

pub before-is : (x y : List ℕ) → sorts_before x y ≡ true → Ordering.Less ≡ order_of x y
unfolding order_of
before-is x y e = sym (rw e)

pub after_is : (x y : List ℕ) → sorts_before y x ≡ true → Ordering.Greater ≡ order_of x y
unfolding order_of
after_is x y e = sym (rw (after_less y x e, e))

pub same-is : (x y : List ℕ) → x ≡ y → Ordering.Equal ≡ order_of x y
unfolding order_of
same-is x y e = sym (rw (e, before_not y))

abbrev Told : Ordering → List ℕ → List ℕ → Type 0
Told Ordering.Less x y = sorts_before x y ≡ true
Told Ordering.Equal x y = x ≡ y
Told Ordering.Greater x y = sorts_before y x ≡ true

told : (x y : List ℕ) → Told (order_of x y) x y
unfolding order_of
told x y = by (sorts_before x y) refl (sorts_before y x) refl
  where
    by : (b : Bool) → sorts_before x y ≡ b → (c : Bool) → sorts_before y x ≡ c → Told (cond b Ordering.Less (cond c Ordering.Greater Ordering.Equal)) x y
    by true e c w = e
    by false e true w = w
    by false e false w = equal (eq_bytes x y) refl
      where
        equal : (d : Bool) → eq_bytes x y ≡ d → x ≡ y
        equal true t = eq_true x y t
        equal false t = absurd (false≢true (sym e ∙ before_other x y w t))

pub order_less : (x y : List ℕ) → Ordering.Less ≡ order_of x y → sorts_before x y ≡ true
order_less x y e = rw (← e) at (told x y)

pub order-more : (x y : List ℕ) → Ordering.Greater ≡ order_of x y → sorts_before y x ≡ true
order-more x y e = rw (← e) at (told x y)

pub order_same : (x y : List ℕ) → Ordering.Equal ≡ order_of x y → x ≡ y
order_same x y e = rw (← e) at (told x y)

-- ---- the first i bytes are the same: what follows decides

pub record Alike (a b : List ℕ) (i : ℕ) : Type 0 where
  pub first : i ≤ length a
  pub second : i ≤ length b
  pub same : (j : ℕ) → j < i → get_or a j 0 ≡ get_or b j 0

pub alike_start : (a b : List ℕ) → Alike a b 0
alike_start a b = record { first = omega arith; second = omega arith; same = λ j h. absurd (omega arith) }

pub alike_back : {a b : List ℕ} {i : ℕ} → Alike a b i → Alike b a i
alike_back k = record { first = k.second; second = k.first; same = λ j h. sym (k.same j h) }

pub alike_next : {a b : List ℕ} {i : ℕ} → Alike a b i → i < length a → i < length b → get_or a i 0 ≡ get_or b i 0 → Alike a b (i + 1)
alike_next {a} {b} {i} k h l e = record {
  first = omega arith;
  second = omega arith;
  same = λ j m. three j i (k.same j) (λ w. ap (λ (n : ℕ). get_or a n 0) w ∙ e ∙ ap (λ (n : ℕ). get_or b n 0) (sym w)) (λ w. absurd (omega arith));
}

pub alike_less : {a b : List ℕ} {i : ℕ} (j : ℕ) → j ≤ i → Alike a b i → Alike a b j
alike_less j h k =
    let l = k.first in
    let m = k.second in
    record { first = omega arith; second = omega arith; same = λ n p. k.same n (omega arith) }

-- the bytes that follow
behind : (a b : List ℕ) (i : ℕ) → Alike a b i → sorts_before a b ≡ sorts_before (drop i a) (drop i b)
behind a b zero k = refl
behind a b (suc i) k =
    let l = k.first in
    let m = k.second in
    behind a b i (alike_less i (omega arith) k)
    ∙ rw (drop-cons a i 0 (omega arith), drop-cons b i 0 (omega arith)) (before_same _ _ _ _ (k.same i (omega arith)))

pub all_alike : (a b : List ℕ) (i : ℕ) → Alike a b i → length a ≤ i → length b ≤ i → a ≡ b
all_alike [] [] i k h l = refl
all_alike [] (y ∷ b) i k h l = absurd (let m = k.first in omega arith)
all_alike (x ∷ a) [] i k h l = absurd (let m = k.second in omega arith)
all_alike (x ∷ a) (y ∷ b) i k h l =
    let m = k.first in
    ap₂ ◌∷◌ (k.same 0 (omega arith))
    (all_alike a b (i - 1) (record { first = omega arith; second = omega arith; same = λ j p. k.same (suc j) (omega arith) }) (omega arith) (omega arith))

-- ---- where they differ

module _ {a b : List ℕ} {i : ℕ} (k : Alike a b i) (h : i < length a) (l : i < length b) where
  pub less : get_or a i 0 < get_or b i 0 → sorts_before a b ≡ true
  less d = behind a b i k ∙ rw (drop-cons a i 0 h, drop-cons b i 0 l) (before_less _ _ _ _ d)

-- ---- the library's comparison of lists of numbers is this one

pub order_lists : (x y : List ℕ) → slice_cmp nat_cmp x y ≡ order_of x y
unfolding order_of sorts_before
order_lists [] [] = refl
order_lists [] (b ∷ ys) = refl
order_lists (a ∷ xs) [] = refl
order_lists (a ∷ xs) (b ∷ ys) = three a b
    (λ h. let l : a ≤ b = omega arith in rw (lt-ltb a b h))
    (λ h. let l : b ≤ a = omega arith in let m : a ≤ b = omega arith in rw (le-ltb a b l, le-ltb b a m, eq-eqb a b h) (order_lists xs ys))
    (λ h. let l : b ≤ a = omega arith in rw (le-ltb a b l, lt-ltb b a h, ne_eqb a b (λ e. omega arith)))

pub order-library : (x y : List ℕ) {o : Ordering} → o ≡ slice_cmp nat_cmp x y → o ≡ order_of x y
order-library x y e = e ∙ order_lists x y
