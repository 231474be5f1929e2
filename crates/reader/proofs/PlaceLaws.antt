-- A stretch that ends where a sum would pass the last number.
use mathlib.Core.Path.{◌≡◌, refl, sym, ◌∙◌}
use Prim.Native.Nat.{ℕ, ◌+◌, ◌≤◌, min}
use mathlib.Core.List.{List}
use native.Mathlib.Omega.{arith}
use lib.ListN.{length}
use Rattle.molecule.specs.Layout.{part, part_start, inside}
use Rattle.molecule.proofs.LayoutLaws.{part-is}

-- e is the end, or what a sum that would pass the last number stops at
module _ (s : List ℕ) (at k : ℕ) {e : ℕ} (h : e ≡ min (at + k) 18446744073709551615) (l : length s ≤ 18446744073709551615) where
  pub stretch_is : {f : List ℕ} → f ≡ part s at e → f ≡ part s at (at + k)
  stretch_is g =
      let z : min e (length s) ≡ min (at + k) (length s) = omega arith in
      g ∙ sym (part-is s at e refl refl) ∙ rw z (part-is s at (at + k) refl refl)

  pub stretch_place : (p : ℕ × ℕ) {q : ℕ × ℕ} → q ≡ inside p (part_start s at e) → q ≡ inside p (part_start s at (at + k))
  unfolding part_start
  stretch_place p g = let z : min e (length s) ≡ min (at + k) (length s) = omega arith in rw (← z) g
