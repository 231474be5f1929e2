-- Every row is what the definitions compute.
use mathlib.Core.Path.{refl}
use Rattle.case_parts.specs.Rows.{AllRight}
use Rattle.case_parts.proofs.Rows.{◌and◌, done}
use Rattle.known_bases.specs.Bases.{rows}
use Rattle.known_bases.proofs.Computing.{computing}
use Rattle.known_bases.proofs.WidthLaws.{width_passes, width_over, width_leaves}

pub known_bases : AllRight rows
unfolding computing
known_bases =
    refl and refl and refl and refl and refl and refl and refl and refl and refl and refl and refl and refl and refl and refl and refl
    and refl and refl and refl and refl and refl and refl and refl and refl and refl and refl and refl and refl and refl and refl and refl
    and width_passes and width_over and width_leaves and done
