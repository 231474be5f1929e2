-- Every row is what the definitions compute.
use mathlib.Core.Path.{refl}
use Rattle.funding_cell.specs.FundingCell.{build_funding_cell}
use Rattle.udt_cells.specs.Change.{with_output, with_change, lent, udt_made, udt_inputs_outputs}
use Rattle.transaction_writer.specs.Written.{in_form, bytes_if}
use Rattle.case_parts.specs.Rows.{AllRight}
use Rattle.case_parts.proofs.Rows.{◌and◌, done}
use Rattle.known_bases.specs.Parts.{parts}
use Rattle.known_bases.proofs.Computing.{computing}

pub known_parts : AllRight parts
unfolding computing build_funding_cell with_output with_change lent udt_made udt_inputs_outputs in_form bytes_if
known_parts =
    refl and refl and refl and refl and refl and refl and refl and refl and refl and refl and refl and refl and refl and refl and refl
    and refl and refl and refl and refl
    and refl and refl and refl and refl and refl and refl and refl and refl and done
