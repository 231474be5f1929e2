-- All that the worked calls compute with: a proof that unfolds `computing` unfolds every definition on its line.
use Rattle.units.specs.Units.{is_at_least}
use Rattle.transaction.specs.Tx.{previous_output_of}
use Rattle.molecule.specs.Write.{splice, put_at}
use Rattle.out_points.specs.OutPoints.{eq_hash, byte32_at, out_point_at, point_of, hash_bytes, point_bytes, points_bytes, point_list}
use Rattle.out_points.specs.Tables.{renew, has_room, with_list}
use Rattle.table_bytes.specs.Lent.{on_table}
use Rattle.error.specs.Outcome.{check, check_with, number_of, ◌>>◌}
use Rattle.exclusion_entries.specs.Exclusions.{has_hash, committed_at, commit_on, without, remove_on, is_recent, truncated, truncate_on, excluded, apply_on, pending, fitting, entering, add_on, entered, migrate_on}
use Rattle.exclusion_entries.specs.Entries.{state_kind, block_of, state_bytes, entry_bytes, entries_bytes, map_bytes, state_of, map_entry_of, entries_in, excluded_at, is_entry, are_entries, is_map}
use Rattle.exclusion_entries.specs.Calls.{with_tx}
use Rattle.case_parts.proofs.Computing.{computing_parts}

unfoldable pub computing : Unit {0}
unfolding computing_parts is_at_least previous_output_of splice put_at eq_hash byte32_at out_point_at point_of hash_bytes point_bytes points_bytes point_list renew has_room with_list on_table check check_with number_of ◌>>◌ has_hash committed_at commit_on without remove_on is_recent truncated truncate_on excluded apply_on pending fitting entering add_on entered migrate_on state_kind block_of state_bytes entry_bytes entries_bytes map_bytes state_of map_entry_of entries_in excluded_at is_entry are_entries is_map with_tx
computing = tt
