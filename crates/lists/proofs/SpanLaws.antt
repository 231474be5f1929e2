-- Laws of `span`: its first value, its end, a part of it, in two.
use mathlib.Core.Path.{◌≡◌, sym, ap, ap₂, ◌∙◌}
use Prim.Native.Nat.{ℕ, zero, suc, ◌+◌, ◌-◌, ◌≤◌, ◌<◌}
use mathlib.Core.List.{[], ◌∷◌, ◌++◌}
use native.Mathlib.Omega.{arith}
use lib.ListN.{drop}
use Rattle.molecule.specs.Layout.{span}

module _ {A : Type 0} (f : ℕ → A) where
  pub span-on : (i n : ℕ) → i < n → span f i (n - i) ≡ f i ∷ span f (i + 1) (n - (i + 1))
  unfolding span
  span-on i n h =
      let e : n - i ≡ suc (n - (i + 1)) = omega arith in
      let z : suc i ≡ i + 1 = omega arith in
      ap (span f i) e ∙ ap (λ (j : ℕ). f i ∷ span f j (n - (i + 1))) z

  pub span-end : (i n : ℕ) → n ≤ i → span f i (n - i) ≡ []
  unfolding span
  span-end i n h = let e : n - i ≡ 0 = omega arith in ap (span f i) e

  pub span-drop : (j i k : ℕ) → drop j (span f i k) ≡ span f (i + j) (k - j)
  unfolding span
  span-drop zero i k =
      let e : k ≡ k - 0 = omega arith in
      let z : i ≡ i + 0 = omega arith in
      ap₂ (span f) z e
  span-drop (suc j) i zero = let e : 0 - suc j ≡ 0 = omega arith in sym (ap (span f (i + suc j)) e)
  span-drop (suc j) i (suc k) =
      let e : k - j ≡ suc k - suc j = omega arith in
      let z : suc i + j ≡ i + suc j = omega arith in
      span-drop j (suc i) k ∙ ap₂ (span f) z e

  -- in two
  pub span-split : (i m k : ℕ) → span f i (m + k) ≡ span f i m ++ span f (i + m) k
  unfolding span
  span-split i zero k =
      let e : i ≡ i + 0 = omega arith in
      let z : 0 + k ≡ k = omega arith in
      ap₂ (span f) e z
  span-split i (suc m) k =
      let e : suc i + m ≡ i + suc m = omega arith in
      let z : suc m + k ≡ suc (m + k) = omega arith in
      ap (span f i) z ∙ ap (λ l. f i ∷ l) (span-split (suc i) m k ∙ ap (λ n. span f (suc i) m ++ span f n k) e)

  pub span-whole : (n : ℕ) → span f 0 n ≡ span f 0 (n - 0)
  span-whole n = let e : n ≡ n - 0 = omega arith in ap (span f 0) e
