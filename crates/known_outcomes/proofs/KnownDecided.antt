-- The cases on which readings differ.
use mathlib.Core.Path.{◌≡◌, refl, ap₂}
use mathlib.Core.Bool.{Bool}
use Prim.Native.Nat.{ℕ}
use mathlib.Core.List.{List, []}
use Rattle.molecule.specs.Molecule.{option, readable}
use Rattle.transaction.specs.Ckb.{Transaction}
use Rattle.transaction.specs.Tx.{Tx, tx_at}
use Rattle.rules.specs.Judge.{Call, ruling, ruling_against, judge}
use Rattle.rules.specs.Lines.{line, verdict, ◌>>◌}
use Rattle.known_outcomes.specs.Outcomes.{empty_tx}
use Rattle.known_outcomes.specs.Decided.{decided}
use Rattle.known_outcomes.proofs.Computing.{computing}
use Rattle.case_parts.specs.Rows.{AllRight}
use Rattle.case_parts.proofs.Rows.{◌and◌, done}

pub known_decided : AllRight decided
unfolding computing
known_decided =
    refl and refl and refl and refl and refl and refl and refl and refl and refl and refl and refl and refl and refl
    and refl and refl and refl and refl and refl and refl and refl and refl and refl and refl and refl and refl and refl
    and refl and refl and refl and refl and refl and done

-- None and the 68-byte transaction are judged alike, whatever the call brings.
readable_alike : readable (option Transaction) [] ≡ readable (option Transaction) empty_tx
unfolding computing
readable_alike = refl

read_alike : tx_at [] ≡ tx_at empty_tx
unfolding computing
read_alike = refl

pub judged_alike : (lock type : List ℕ) (call : Call) → judge lock type [] call ≡ judge lock type empty_tx call
unfolding judge ruling
judged_alike lock type call = ap₂ (λ (b : Bool) (t : Tx). verdict (line 1 "our bytes unreadable" b >> ruling_against lock type t call)) readable_alike read_alike
