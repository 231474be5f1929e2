-- What closes the needs of this crate's functions: `search ways`.
use borrow.Author.Rules.{rules}
use Rattle.hold_records.proofs.ListLaws.{length_mapped}
use Rattle.hold_records.proofs.WriteLaws.{behind-length, list_put}
use Rattle.unavailable_picks.proofs.PickLaws.{name-end, name-long}
use Rattle.picks.proofs.TakeLaws.{free_is, kinds_in, tally-start, tally_no, tally-full, tally_yes, tally-end, leave_start, leave_put, leave_taken}
use Rattle.picks.proofs.TakenLaws.{left-fits, left_is, both-room, take_short, take-full, take_done, take_count, take_many, take_known}

pub ruleset ways = (rules, length_mapped, behind-length, list_put, name-end, name-long, free_is, kinds_in, tally-start, tally_no, tally-full, tally_yes, tally-end, leave_start, leave_put, leave_taken, left-fits, left_is, both-room, take_short, take-full, take_done, take_count, take_many, take_known)
