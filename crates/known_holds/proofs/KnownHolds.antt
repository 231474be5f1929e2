-- Every row is what the definitions compute.
use mathlib.Core.Path.{◌≡◌, refl, ap, ap₂, ◌∙◌}
use Prim.Native.Nat.{ℕ, ◌+◌, ◌*◌, ◌≤◌, ◌^◌}
use mathlib.Core.Bool.{Bool, false, ◌&&◌}
use mathlib.Core.List.{List, [], ◌++◌}
use native.Mathlib.Omega.{arith}
use borrow.Author.Tests.{le-ltb}
use lib.Dec.{leb, eqb}
use lib.ListN.{length, replicate, length-append, length-replicate}
use Rattle.arithmetic.specs.LittleEndian.{to_le}
use Rattle.arithmetic.proofs.LittleEndianLaws.{length-to_le}
use Rattle.molecule.specs.Molecule.{size, readable}
use Rattle.molecule.specs.Layout.{fix_count}
use Rattle.molecule.proofs.Valid.{fixed}
use Rattle.molecule.proofs.HeaderLaws.{fixvec-readable}
use Rattle.transaction.specs.Ckb.{OutPoint, OutPoints}
use Rattle.error.specs.Outcome.{refused, check, check_with, ◌>>◌}
use Rattle.hold_records.specs.declared.{Hold.Hold}
use Rattle.hold_records.specs.Holds.{hold_funding}
use Rattle.case_parts.specs.Rows.{AllRight}
use Rattle.case_parts.proofs.Rows.{◌and◌, done}
use Rattle.known_holds.specs.Holds.{returning, long, locking, taking, longest, naming}
use Rattle.known_holds.proofs.Computing.{computing}
use Rattle.known_holds.proofs.LongLaws.{spent-fit, spent-over}

pub known_returning : AllRight returning
unfolding computing
known_returning =
    refl and refl and refl and refl and refl and refl and refl and refl and refl
    and refl and refl and refl and refl and refl and refl and refl and refl and refl and refl and refl and done

-- by its length, since no proof goes over so many bytes
long-refused : (l : List Hold) (holder n k : ℕ) → 2 ^ 32 ≤ 4 + k → hold_funding l holder (to_le 4 n ++ replicate k 0) ≡ refused 3 []
unfolding hold_funding fixed check check_with ◌>>◌
long-refused l holder n k long =
    let s : List ℕ = to_le 4 n ++ replicate k 0 in
    let e : length s ≡ 4 + k = length-append (to_le 4 n) (replicate k 0) ∙ ap₂ ◌+◌ (length-to_le 4 n) (length-replicate k 0) in
    let r : readable OutPoints s ≡ false =
    fixvec-readable OutPoint tt s ∙ ap (λ (b : Bool). b && leb 4 (length s) && eqb (length s) (4 + size OutPoint * fix_count s)) (le-ltb (length s) (2 ^ 32) (omega (arith, long, e))) in
    rw r

pub known_long : AllRight long
known_long = long-refused [] 1 119304647 (36 * 119304647) (omega arith) and done

pub known_locking : AllRight locking
unfolding computing
known_locking = refl and refl and refl and refl and done

pub known_taking : AllRight taking
unfolding computing
known_taking =
    refl and refl and refl and refl and refl and refl and refl and refl and refl and refl and refl and refl and refl
    and refl and refl and refl and refl and refl and refl and refl and refl and done

pub known_longest : AllRight longest
known_longest = spent-fit 3697 133096 (omega arith) (omega arith) and spent-over 3698 133132 (omega arith) (omega arith) (omega arith) and done

pub known_naming : AllRight naming
unfolding computing
known_naming = refl and refl and refl and refl and refl and done
