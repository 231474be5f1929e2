-- All that the cases compute with: a proof that unfolds `computing` unfolds every definition on its line.
use Rattle.units.specs.Fee.{change_capacity}
use Rattle.units.specs.Units.{later}
use Rattle.transaction.specs.Tx.{previous_output_of, args_of}
use Rattle.out_points.specs.OutPoints.{eq_hash, eq_point, has, byte32_at, out_point_at, point_of, hash_bytes, point_bytes, points_bytes, point_list}
use Rattle.out_points.specs.Tables.{renew, has_room, with_list}
use Rattle.hold_records.specs.Holds.{records_of, by_owner, at_most_256, is_live, is_tower_on, renew_all, hold_for_watchtower, is_busy, is_new, firsts, others, unavailable, owner_for, take_these, take_free, take_cells}
use Rattle.error.specs.Outcome.{number_of, answer_by}
use Rattle.transaction_writer.specs.Written.{fits}
use Rattle.verdict_line.specs.VerdictLine.{digit, hex, digits, decimal, spaced, accepted, refused_with, line_of}
use Rattle.funding_cell.specs.FundingCell.{cell_of, cell_of_sums, funding_cell, build_funding_cell}
use Rattle.cell_output.specs.CellOutput.{cell_output}
use Rattle.udt_cells.specs.Pick.{plus_cell, enough_or, pick_from, pick_typed}
use Rattle.udt_cells.specs.Change.{with_output, with_change, lent, udt_made, udt_inputs_outputs}
use Rattle.case_file.specs.CaseFile as case
use Rattle.case_file.specs.CaseFile.{kind_at, length_at, all_zero, item_at, optional_at, rate_at, dead_at, cell_at, records_from, record_bytes, read_case, case_of, verdict_of, case_line}
use Rattle.known_cases.proofs.Computing.{computing_updates}

unfoldable pub computing : Unit {0}
unfolding computing_updates previous_output_of args_of cell_of cell_of_sums funding_cell build_funding_cell plus_cell enough_or pick_from pick_typed cell_output answer_by fits with_output with_change lent udt_made udt_inputs_outputs later eq_hash eq_point has byte32_at out_point_at point_of hash_bytes point_bytes points_bytes point_list renew has_room with_list records_of by_owner at_most_256 is_live is_tower_on renew_all hold_for_watchtower is_busy is_new firsts others unavailable owner_for take_these take_free take_cells number_of change_capacity digit hex digits decimal spaced accepted refused_with line_of case.◌>>=◌ kind_at length_at all_zero item_at optional_at rate_at dead_at cell_at case.resolved_at records_from record_bytes read_case case_of verdict_of case_line
computing = tt
