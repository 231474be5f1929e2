use Rattle.molecule.proofs.Ways.{ways}
use Rattle.molecule.proofs.is_dynvec_of.Goals as goal
use Rattle.molecule.proofs.is_dynvec_of.Goals.{then-to-from-2-via-then-to-from-2, then-to-from-2-via-else-to-from-2+then-to-s, then-to-from-2-via-else-to-from-2+else-to-s+then-not-is-2}
use Rattle.molecule.proofs.is_dynvec_of.Goals.{then-to-from+else-not-is, else-to-from+else-to-from-2+else-to-s+else-not-is-2}

pub returns-then-not-is : goal.returns-then-not-is
returns-then-not-is g c = search ways

pub returns-then-to-from-2 : goal.returns-then-to-from-2
returns-then-to-from-2 g c =
    elim c.then-to-from-2.branch [
      | then-to-from-2-via-then-to-from-2 w ↦ search ways
      | then-to-from-2-via-else-to-from-2+then-to-s w ↦ search ways
      | then-to-from-2-via-else-to-from-2+else-to-s+then-not-is-2 w ↦ search ways
    ]

pub loop-i-preserved : goal.loop-i-preserved
loop-i-preserved g c =
    elim c.if-to-from.branch [
      | then-to-from+else-not-is w ↦ search ways
      | else-to-from+else-to-from-2+else-to-s+else-not-is-2 w ↦ search ways
    ]
