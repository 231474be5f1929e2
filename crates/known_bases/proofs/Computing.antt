-- All that the rows compute with: a proof that unfolds `computing` unfolds every definition on its line.
use mathlib.Core.List.{flatten}
use Rattle.units.specs.Fee.{change_capacity}
use Rattle.error.specs.Outcome.{answer_by}
use Rattle.transaction.specs.Tx.{args_of}
use Rattle.funding_cell.specs.FundingCell.{cell_of, cell_of_sums, funding_cell}
use Rattle.cell_output.specs.CellOutput.{cell_output}
use Rattle.udt_cells.specs.Pick.{plus_cell, enough_or, pick_from, pick_typed}
use Rattle.molecule.specs.Items.{fix_list}
use Rattle.list_writer.specs.ListWriter.{bytes_item, item_or, items_after_first, if_any, if_positive}
use Rattle.transaction_writer.specs.Written.{raw_bytes, tx_bytes, fits, in_room}
use Rattle.base_inputs.specs.BaseInputs.{picked_input, picked, input_list}
use Rattle.base_lists.specs.BaseLists.{placeholder, output_list, data_list, witness_list}
use Rattle.cell_deps.specs.CellDeps.{dep_pushed, push_all, cell_deps}
use Rattle.funding_builder.specs.Base as base
use Rattle.funding_builder.specs.Base.{packed, base_tx, lists, supplied, with_pick, with_cell, with_request, build_base}
use Rattle.case_parts.proofs.Computing.{computing_parts}

unfoldable pub computing : Unit {0}
unfolding computing_parts flatten change_capacity args_of cell_of cell_of_sums funding_cell cell_output plus_cell enough_or pick_from pick_typed bytes_item fix_list item_or items_after_first if_any if_positive raw_bytes tx_bytes fits picked_input picked input_list placeholder output_list data_list witness_list dep_pushed push_all cell_deps in_room answer_by base.change_output_capacity packed base_tx lists supplied with_pick with_cell with_request build_base
computing = tt
