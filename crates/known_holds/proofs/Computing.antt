-- All that the rows compute with: a proof that unfolds `computing` unfolds every definition on its line.
use mathlib.Core.List.{flatten}
use Rattle.units.specs.Units.{later}
use Rattle.error.specs.Outcome.{check, check_with, number_of, ◌>>=◌, ◌>>◌}
use Rattle.molecule.specs.Write.{splice, put_at}
use Rattle.out_points.specs.OutPoints.{eq_hash, eq_point, has, byte32_at, out_point_at, point_of, hash_bytes, point_bytes, points_bytes, point_list}
use Rattle.out_points.specs.Tables.{renew, has_room, with_list}
use Rattle.hold_records.specs.Holds.{records_of, by_owner, at_most_256, is_not_of, hold_funding, is_unnamed, release_for_watchtower, is_tower_on, renew_all, hold_for_watchtower, is_live, lock_held, is_busy, is_new, firsts, others, unavailable, owner_for, take_these, take_free, take_cells}
use Rattle.table_bytes.specs.Places.{place_at, place_of, place_bytes, places_bytes, table_bytes}
use Rattle.table_bytes.specs.Lent.{on_table}
use Rattle.held_bytes.specs.HeldBytes.{owner_of, hold_of, held_of, held_at, owner_kind, owner_number, place_for, held_bytes}
use Rattle.case_parts.proofs.Computing.{computing_parts}

unfoldable pub computing : Unit {0}
unfolding computing_parts check check_with number_of ◌>>=◌ ◌>>◌ flatten later splice put_at eq_hash eq_point has byte32_at out_point_at point_of hash_bytes point_bytes points_bytes point_list renew has_room with_list records_of by_owner at_most_256 is_not_of hold_funding is_unnamed release_for_watchtower is_tower_on renew_all hold_for_watchtower is_live lock_held is_busy is_new firsts others unavailable owner_for take_these take_free take_cells place_at place_of place_bytes places_bytes table_bytes on_table owner_of hold_of held_of held_at owner_kind owner_number place_for held_bytes
computing = tt
