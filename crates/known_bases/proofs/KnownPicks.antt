-- Every row is what the definitions compute.
use mathlib.Core.Path.{refl}
use Rattle.udt_cells.specs.Change.{with_output, with_change, lent, udt_made, udt_inputs_outputs}
use Rattle.case_parts.specs.Rows.{AllRight}
use Rattle.case_parts.proofs.Rows.{◌and◌, done}
use Rattle.known_bases.specs.Picks.{picks, sizes, changes}
use Rattle.known_bases.proofs.Computing.{computing}

pub known_picks : AllRight picks
unfolding computing
known_picks = refl and refl and refl and refl and refl and refl and refl and refl and refl and refl and refl and refl and refl and done

pub known_sizes : AllRight sizes
unfolding computing
known_sizes = refl and done

pub known_changes : AllRight changes
unfolding computing with_output with_change lent udt_made udt_inputs_outputs
known_changes = refl and refl and refl and refl and refl and refl and refl and refl and done
