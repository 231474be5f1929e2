-- A place read and written: one law for each way out of the functions.
use mathlib.Core.Path.{◌≡◌, refl}
use Prim.Native.Nat.{ℕ, ◌-◌, ◌≤◌, ◌<◌}
use mathlib.Core.List.{List}
use native.Mathlib.Omega.{arith}
use lib.ListN.{length, length-append}
use Rattle.arithmetic.specs.LittleEndian.{to_le, u32_at, u64_at}
use Rattle.arithmetic.proofs.LittleEndianLaws.{length-to_le}
use Rattle.molecule.specs.Layout.{fix_item}
use Rattle.molecule.specs.Write.{put_at, put_end, Put}
use Rattle.molecule.proofs.WriteLaws.{put_short, end_short, did, and_put}
use Rattle.out_points.specs.declared.{OutPoint.OutPoint}
use Rattle.out_points.specs.OutPoints.{out_point_at, point_bytes}
use Rattle.out_points.proofs.PointLaws.{length-point, put_of, end_of}
use Rattle.table_bytes.specs.declared.{Place.Place}
use Rattle.table_bytes.specs.Places.{place_at, place_of, place_bytes}

pub place_is : (s : List ℕ) (i : ℕ) {x : List ℕ} {p : OutPoint} {k n : ℕ} → x ≡ fix_item s 48 i → p ≡ out_point_at x 0 → k ≡ u32_at x 36 → n ≡ u64_at x 40
    → ◌≡◌ {A = Place} (record { point = p; kind = k; number = n }) (place_of s i)
unfolding place_of place_at
place_is s i e ep ek en = rw (ep, ek, en, e)

pub length-place : (p : Place) → length (place_bytes p) ≡ 48
unfolding place_bytes
length-place p = simp (length-append, length-to_le, length-point)

module _ (out : List ℕ) (at : ℕ) (p : Place) (l : at ≤ length out) where
  pub place_short : length out - at < 48 → out ≡ put_at out at (place_bytes p)
  place_short k = put_short out at (place_bytes p) l (omega (arith, length-place p))

  pub place_short_end : length out - at < 48 → at ≡ put_end out at (place_bytes p)
  place_short_end k = end_short out at (place_bytes p) l (omega (arith, length-place p))

  module _ {o₁ o₂ : List ℕ} {n₁ n₂ n₃ : ℕ} (k : 48 ≤ length out - at) (e₁ : o₁ ≡ put_at out at (point_bytes p.point)) (f₁ : n₁ ≡ put_end out at (point_bytes p.point))
      (e₂ : o₂ ≡ put_at o₁ n₁ (to_le 4 p.kind)) (f₂ : n₂ ≡ put_end o₁ n₁ (to_le 4 p.kind)) (f₃ : n₃ ≡ put_end o₂ n₂ (to_le 8 p.number)) where
    place_did : {o₃ : List ℕ} → o₃ ≡ put_at o₂ n₂ (to_le 8 p.number) → Put out at (place_bytes p) o₃ n₃
    unfolding place_bytes
    place_did e₃ =
        let a = length-point p.point in
        let b = length-to_le 4 p.kind in
        let c = length-to_le 8 p.number in
        let p₁ = did (point_bytes p.point) e₁ f₁ (omega arith) in
        let p₂ = and_put (to_le 4 p.kind) p₁ e₂ f₂ (omega arith) in
        and_put (to_le 8 p.number) p₂ e₃ f₃ (omega (arith, length-append (point_bytes p.point) (to_le 4 p.kind)))

    pub place_put : {o₃ : List ℕ} → o₃ ≡ put_at o₂ n₂ (to_le 8 p.number) → o₃ ≡ put_at out at (place_bytes p)
    place_put e₃ = put_of (place_did e₃)

    pub place_end : n₃ ≡ put_end out at (place_bytes p)
    place_end = end_of (place_did refl)
