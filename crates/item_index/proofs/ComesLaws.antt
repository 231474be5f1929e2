-- The order of places by their items: it is strict and total. And one law for each way out of the function that compares two places.
use mathlib.Core.Path.{◌≡◌, refl, sym, ap, ap₂, ◌∙◌}
use Prim.Native.Nat.{ℕ, ◌≤◌}
use mathlib.Core.Bool.{Bool, true, false, false≢true}
use mathlib.Core.List.{List}
use native.Mathlib.Omega.{arith}
use borrow.Author.Tests.{ltb-true, ltb-false, le-ltb}
use lib.Dec.{ltb}
use Rattle.lists.specs.Lists.{eq_bytes}
use Rattle.lists.proofs.EqualLaws.{eq_true}
use Rattle.std.specs.declared.cmp.Ordering.{Ordering}
use Rattle.item_index.specs.Order.{sorts_before, order_of}
use Rattle.item_index.specs.Index.{comes}
use Rattle.item_index.proofs.OrderLaws.{before_not, before_trans, before_other, after_less, order_less, order-more, order_same}

module _ (f : ℕ → List ℕ) where
  -- p does not come before q: q's item comes before p's, or they are the same and p is not the smaller place
  pub not_first : {A : Type 0} (p q : ℕ) → comes f p q ≡ false → (sorts_before (f q) (f p) ≡ true → A) → (f p ≡ f q → q ≤ p → A) → A
  unfolding comes
  not_first {A} p q h less same = by (sorts_before (f p) (f q)) refl (sorts_before (f q) (f p)) refl
    where
      by : (b : Bool) → sorts_before (f p) (f q) ≡ b → (c : Bool) → sorts_before (f q) (f p) ≡ c → A
      by true e c w = absurd (false≢true (sym (rw e at h)))
      by false e true w = less w
      by false e false w = same (equal (eq_bytes (f p) (f q)) refl) (ltb-false p q (rw (e, w) at h))
        where
          equal : (d : Bool) → eq_bytes (f p) (f q) ≡ d → f p ≡ f q
          equal true t = eq_true (f p) (f q) t
          equal false t = absurd (false≢true (sym e ∙ before_other (f p) (f q) w t))

  pub late_item : (p q : ℕ) → sorts_before (f q) (f p) ≡ true → comes f p q ≡ false
  unfolding comes
  late_item p q h = rw (after_less (f q) (f p) h, h)

  pub late_place : (p q : ℕ) → f p ≡ f q → q ≤ p → comes f p q ≡ false
  unfolding comes
  late_place p q e h = rw (e, before_not (f q), le-ltb p q h)

  pub comes_not : (p : ℕ) → comes f p p ≡ false
  comes_not p = late_place p p refl (omega arith)

  pub comes_less : (p q : ℕ) → comes f p q ≡ true → comes f q p ≡ false
  unfolding comes
  comes_less p q h = by (sorts_before (f p) (f q)) refl (sorts_before (f q) (f p)) refl
    where
      by : (b : Bool) → sorts_before (f p) (f q) ≡ b → (c : Bool) → sorts_before (f q) (f p) ≡ c → comes f q p ≡ false
      by true e c w = late_item q p e
      by false e true w = absurd (false≢true (rw (e, w) at h))
      by false e false w = let l = ltb-true p q (rw (e, w) at h) in rw (w, e, le-ltb q p (omega arith))

  -- x, y, z in order: z does not come before x
  pub comes_trans : (x y z : ℕ) → comes f y x ≡ false → comes f z y ≡ false → comes f z x ≡ false
  comes_trans x y z p q =
      not_first y x p
      (λ a. not_first z y q
      (λ b. late_item z x (before_trans (f x) (f y) (f z) a b))
      (λ b l. late_item z x (ap (sorts_before (f x)) b ∙ a)))
      (λ a m. not_first z y q
      (λ b. late_item z x (ap (λ (w : List ℕ). sorts_before w (f z)) (sym a) ∙ b))
      (λ b l. late_place z x (b ∙ a) (omega arith)))

  -- no item comes before an earlier one
  pub item_late : (p q : ℕ) → comes f p q ≡ false → sorts_before (f p) (f q) ≡ false
  item_late p q h = not_first p q h (after_less (f q) (f p)) (λ e l. ap (λ (w : List ℕ). sorts_before w (f q)) e ∙ before_not (f q))

  -- ---- the ways out

  module _ {p q : ℕ} {x y : List ℕ} (ex : x ≡ f p) (ey : y ≡ f q) where
    here : {o : Ordering} → o ≡ order_of x y → o ≡ order_of (f p) (f q)
    here eo = eo ∙ ap₂ order_of ex ey

    pub first_less : Ordering.Less ≡ order_of x y → true ≡ comes f p q
    unfolding comes
    first_less e = sym (rw (order_less (f p) (f q) (here e)))

    pub first_more : Ordering.Greater ≡ order_of x y → false ≡ comes f p q
    first_more e = sym (late_item p q (order-more (f p) (f q) (here e)))

    pub first-same : Ordering.Equal ≡ order_of x y → {r : Bool} → r ≡ ltb p q → r ≡ comes f p q
    unfolding comes
    first-same e h = h ∙ sym (rw (order_same (f p) (f q) (here e), before_not (f q)))
