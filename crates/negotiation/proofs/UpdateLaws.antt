-- Laws of what stands in a list of updates, one for each way out of the functions that read it.
use mathlib.Core.Path.{◌≡◌, refl, ap, ◌∙◌}
use Prim.Native.Nat.{ℕ, zero, suc, ◌+◌, ◌-◌}
use mathlib.Core.List.{List}
use native.Mathlib.Omega.{arith}
use Rattle.arithmetic.specs.LittleEndian.{u64_at}
use Rattle.molecule.specs.Layout.{inside, field_of, field_start, item_of, item_start, content, content_start}
use Rattle.molecule.proofs.LayoutLaws.{inside-twice}
use Rattle.negotiation.specs.Updates.{field_bytes, bytes_start, rate_of, transaction_at, transaction_place}

-- x is item i, and f its field j
module _ (s : List ℕ) (i : ℕ) {x : List ℕ} (ex : x ≡ item_of s i) where
  module _ (j : ℕ) {f : List ℕ} (ef : f ≡ field_of x 4 j) where
    pub bytes_are : {r : List ℕ} → r ≡ content f → r ≡ field_bytes s i j
    unfolding field_bytes
    bytes_are h = h ∙ ap content (ef ∙ ap (λ (u : List ℕ). field_of u 4 j) ex)

    pub bytes-place : (p : ℕ × ℕ) {q r t : ℕ × ℕ} → q ≡ inside p (item_start s i) → r ≡ inside q (field_start x 4 j) → t ≡ inside r (content_start f)
        → t ≡ inside p (bytes_start s i j)
    unfolding bytes_start
    bytes-place p {q} {r} {t} g h k =
        let a : t ≡ inside q (field_start x 4 j + content_start f) = inside-twice q (field_start x 4 j) (content_start f) h k in
        inside-twice p (item_start s i) (field_start (item_of s i) 4 j + content_start (field_of (item_of s i) 4 j)) g (rw (ef, ex) at a)

  pub rate-is : {f : List ℕ} {r : ℕ} → f ≡ field_of x 4 3 → r ≡ u64_at f 0 → r ≡ rate_of s i
  unfolding rate_of
  rate-is ef h = h ∙ ap (λ (u : List ℕ). u64_at u 0) (ef ∙ ap (λ (u : List ℕ). field_of u 4 3) ex)

-- ---- a transaction by its index

module _ (start s : List ℕ) (at : ℕ) where
  pub at-start : at ≡ 0 → start ≡ transaction_at start s at
  unfolding transaction_at
  at-start h = rw h

  pub at_update : {r : List ℕ} → (at ≡ 0 → ⊥) → r ≡ field_bytes s (at - 1) 0 → r ≡ transaction_at start s at
  unfolding transaction_at
  at_update {r} h e = by at h e
    where
      by : (n : ℕ) → (n ≡ 0 → ⊥) → r ≡ field_bytes s (n - 1) 0 → r ≡ transaction_at start s n
      by zero h e = absurd (h refl)
      by (suc n) h e = let z : suc n - 1 ≡ n = omega arith in rw z at e

module _ (p q : ℕ × ℕ) (s : List ℕ) (at : ℕ) where
  pub start-place : at ≡ 0 → p ≡ transaction_place p q s at
  unfolding transaction_place
  start-place h = rw h

  pub update_place : {r : ℕ × ℕ} → (at ≡ 0 → ⊥) → r ≡ inside q (bytes_start s (at - 1) 0) → r ≡ transaction_place p q s at
  unfolding transaction_place
  update_place {r} h e = by at h e
    where
      by : (n : ℕ) → (n ≡ 0 → ⊥) → r ≡ inside q (bytes_start s (n - 1) 0) → r ≡ transaction_place p q s n
      by zero h e = absurd (h refl)
      by (suc n) h e = let z : suc n - 1 ≡ n = omega arith in rw z at e
