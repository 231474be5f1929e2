-- Lists of out points: how long they are, as lists and in bytes.
use Rattle.std.proofs.Common.{◌≡◌, ℕ, ◌+◌, ◌*◌, ◌^◌, ◌<◌, ◌≤◌, min, Bool, true, false, not, ◌&&◌, eqb, ltb, leb, List, [], ◌∷◌, length, sym, refl, ◌∙◌, arith, length-append, eqb-true, le-leb, leb-false, leb-true}
use borrow.Author.Tests.{lt-leb, not-true, not-false}
use Rattle.arithmetic.proofs.LittleEndianLaws.{length-to_le}
use Rattle.molecule.specs.Layout.{fix_count}
use Rattle.molecule.specs.Molecule.{readable, size}
use Rattle.molecule.proofs.Offsets.{span-length}
use Rattle.molecule.proofs.Valid.{fixed}
use Rattle.molecule.proofs.HeaderLaws.{fixvec-readable}
use Rattle.transaction.specs.Ckb.{OutPoints as OutPointsForm, OutPoint as OutPointForm}
use Rattle.out_points.specs.declared.{OutPoint.OutPoint}
use Rattle.out_points.specs.OutPoints.{point_of, points, points_bytes, point_list}
use Rattle.out_points.proofs.PointLaws.{length-point}
use Rattle.out_points.proofs.EqualLaws.{and_both}

pub length-points : (s : List ℕ) → length (points s) ≡ fix_count s
length-points s = span-length (point_of s) 0 (fix_count s)

pub length-bytes : (l : List OutPoint) → length (points_bytes l) ≡ 36 * length l
unfolding points_bytes
length-bytes [] = refl
length-bytes (p ∷ l) = simp length-append (omega (arith, length-point p, length-bytes l))

pub length_list : (l : List OutPoint) → length (point_list l) ≡ 4 + 36 * length l
unfolding point_list
length_list l = simp length-append (omega (arith, length-to_le 4 (length l), length-bytes l))

-- ---- whether a list may be written

pub fits-over : (n m : ℕ) {z : ℕ} → z ≡ 4 + 36 * n → 133116 < z → false ≡ leb (4 + 36 * n) (min m 133116)
fits-over n m e h = sym (lt-leb (4 + 36 * n) (min m 133116) (omega arith))

pub fits-is : (n m : ℕ) {z : ℕ} → z ≡ 4 + 36 * n → z ≤ 133116 → leb z m ≡ leb (4 + 36 * n) (min m 133116)
fits-is n m {z} e h = by (leb z m) refl
  where
    by : (b : Bool) → leb z m ≡ b → b ≡ leb (4 + 36 * n) (min m 133116)
    by true t = let l = leb-true z m t in sym (le-leb (4 + 36 * n) (min m 133116) (omega arith))
    by false t = let l = leb-false z m t in sym (lt-leb (4 + 36 * n) (min m 133116) (omega arith))

module _ (n m : ℕ) {r : Bool} (e : r ≡ leb (4 + 36 * n) (min m 133116)) where
  pub fits_not : not r ≡ true → min m 133116 < 4 + 36 * n
  fits_not t = leb-false (4 + 36 * n) (min m 133116) (sym e ∙ not-true r t)

  module _ (t : not r ≡ false) where
    pub fits_both : 4 + 36 * n ≤ min m 133116
    fits_both = leb-true (4 + 36 * n) (min m 133116) (sym e ∙ not-false r t)

    pub fits-room : 4 + 36 * n ≤ m
    fits-room = let l = fits_both in omega arith

-- what is readable has its length
module _ (s : List ℕ) (h : readable OutPointsForm s ≡ true) where
  tests : (ltb (length s) (2 ^ 32) && leb 4 (length s) && eqb (length s) (4 + 36 * fix_count s)) ≡ true
  unfolding size fixed
  tests = sym (fixvec-readable OutPointForm tt s) ∙ h

  pub readable-length : length s ≡ 4 + 36 * fix_count s
  readable-length = eqb-true _ _ (and_both (ltb (length s) (2 ^ 32) && leb 4 (length s)) (eqb (length s) (4 + 36 * fix_count s)) tests).1
