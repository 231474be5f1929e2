-- The picks that are new by what came before are those that no equal pick stands before: an equal one was taken, or refused for the same reason.
use mathlib.Core.Path.{◌≡◌, refl, sym, ap, ◌∙◌}
use Prim.Native.Nat.{ℕ, zero, suc}
use native.Mathlib.Nat.{zero-add}
use mathlib.Core.Bool.{Bool, true, false, not, cond, false≢true}
use mathlib.Core.List.{List, [], ◌∷◌}
use Rattle.molecule.specs.Layout.{span}
use Rattle.out_points.specs.declared.{OutPoint.OutPoint}
use Rattle.out_points.specs.OutPoints.{eq_point, has}
use Rattle.out_points.proofs.EqualLaws.{point-same, has_last}
use Rattle.hold_records.specs.Holds.{is_new, firsts, others}
use Rattle.unavailable_picks.specs.Inner.{is_first, select}

module _ (f : OutPoint → Bool) (g : ℕ → OutPoint) where
  -- of what passes the test, the same stands in both
  abbrev Same : List OutPoint → ℕ → Type 0
  Same before i = (q : OutPoint) → f q ≡ true → has q before ≡ has q (span g 0 i)

  new_is : (before : List OutPoint) (i : ℕ) → Same before i → is_new f before (g i) ≡ is_first f g i
  unfolding is_new is_first
  new_is before i s = by (f (g i)) refl
    where
      by : (b : Bool) → f (g i) ≡ b → cond b (not (has (g i) before)) false ≡ cond b (not (has (g i) (span g 0 i))) false
      by true e = ap not (s (g i) e)
      by false e = refl

  -- pick i is new
  same_yes : (before : List OutPoint) (i : ℕ) → Same before i → Same (g i ∷ before) (suc i)
  unfolding has
  same_yes before i s q t = by (eq_point q (g i)) (has q before) (s q t) ∙ sym (has_last q g 0 i ∙ rw (zero-add i))
    where
      by : (a b : Bool) {c : Bool} → b ≡ c → cond a true b ≡ cond c true a
      by true true e = rw (← e)
      by true false e = rw (← e)
      by false true e = rw (← e)
      by false false e = rw (← e)

  -- pick i is not
  same_no : (before : List OutPoint) (i : ℕ) → Same before i → is_first f g i ≡ false → Same before (suc i)
  unfolding is_first
  same_no before i s n q t = s q t ∙ by (eq_point q (g i)) refl ∙ sym (has_last q g 0 i ∙ rw (zero-add i))
    where
      stands : (a b : Bool) → a ≡ true → cond a (not b) false ≡ false → b ≡ true
      stands true true e h = refl
      stands true false e h = absurd (false≢true (sym h))
      stands false b e h = absurd (false≢true e)

      or_false : (b : Bool) → b ≡ cond b true false
      or_false true = refl
      or_false false = refl

      by : (b : Bool) → eq_point q (g i) ≡ b → has q (span g 0 i) ≡ cond (has q (span g 0 i)) true b
      by false e = or_false (has q (span g 0 i))
      by true e =
          let p : q ≡ g i = point-same q (g i) e in
          let h : has (g i) (span g 0 i) ≡ true = stands (f (g i)) (has (g i) (span g 0 i)) (ap f (sym p) ∙ t) n in
          rw (ap (λ (x : OutPoint). has x (span g 0 i)) p ∙ h)

  -- the test by what came before, and by index: `new` and `old` are what is chosen where it passes, and where it does not
  goes : (i : ℕ) {new₁ new₂ old₁ old₂ : List OutPoint} (b : Bool) → is_first f g i ≡ b → new₁ ≡ new₂ → (is_first f g i ≡ false → old₁ ≡ old₂) → cond b new₁ old₁ ≡ cond b new₂ old₂
  goes i true e y n = y
  goes i false e y n = n e

  firsts-from : (before : List OutPoint) (i k : ℕ) → Same before i → firsts f before (span g i k) ≡ select (is_first f g) g i k
  unfolding firsts select span
  firsts-from before i zero s = refl
  firsts-from before i (suc k) s =
      rw (new_is before i s)
      (goes i (is_first f g i) refl (ap (λ (l : List OutPoint). g i ∷ l) (firsts-from (g i ∷ before) (suc i) k (same_yes before i s)))
      (λ n. firsts-from before (suc i) k (same_no before i s n)))

  pub firsts-select : (n : ℕ) → firsts f [] (span g 0 n) ≡ select (is_first f g) g 0 n
  unfolding has span
  firsts-select n = firsts-from [] 0 n (λ q t. refl)

  abbrev pub is_other : ℕ → Bool
  is_other i = not (is_first f g i)

  goes_other : (i : ℕ) {new₁ new₂ old₁ old₂ : List OutPoint} (b : Bool) → is_first f g i ≡ b → new₁ ≡ new₂ → (is_first f g i ≡ false → old₁ ≡ old₂)
      → cond b new₁ old₁ ≡ cond (not b) old₂ new₂
  goes_other i true e y n = y
  goes_other i false e y n = n e

  others-from : (before : List OutPoint) (i k : ℕ) → Same before i → others f before (span g i k) ≡ select is_other g i k
  unfolding others select span
  others-from before i zero s = refl
  others-from before i (suc k) s =
      rw (new_is before i s)
      (goes_other i (is_first f g i) refl (others-from (g i ∷ before) (suc i) k (same_yes before i s))
      (λ n. ap (λ (l : List OutPoint). g i ∷ l) (others-from before (suc i) k (same_no before i s n))))

  pub others-select : (n : ℕ) → others f [] (span g 0 n) ≡ select is_other g 0 n
  unfolding has span
  others-select n = others-from [] 0 n (λ q t. refl)
