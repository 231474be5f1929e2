-- What closes the needs of this crate's functions: `search ways`.
use borrow.Author.Rules.{rules}
use Rattle.out_points.proofs.ListLaws.{fits_not, fits_both, fits-room}
use Rattle.hold_records.proofs.WriteLaws.{behind-length, room_no, room_yes}
use Rattle.pick_kinds.proofs.KindLaws.{kinds_none}
use Rattle.unavailable_picks.proofs.MarkLaws.{mark_out, mark_in, mark_start, mark_more, mark_long, mark_end, mark_two, marks_are, mark_stands, busy_unmarked}
use Rattle.unavailable_picks.proofs.PickLaws.{busy_held, busy_spent, first_no, first_yes, kind_repeat, kind_busy, kind_free, busy_is, kinds_front, pick-below, fill_start, fill_long, fill_more, fill_end, busy_start, count_yes, count_no, count-end, put_start, name_yes, name_no, name-end, name-long, named-kept, named-written, held-room, held_put}

pub ruleset ways = (rules, fits_not, fits_both, fits-room, behind-length, room_no, room_yes, kinds_none, mark_out, mark_in, mark_start, mark_more, mark_long, mark_end, mark_two, marks_are, mark_stands, busy_unmarked, busy_held, busy_spent, first_no, first_yes, kind_repeat, kind_busy, kind_free, busy_is, kinds_front, pick-below, fill_start, fill_long, fill_more, fill_end, busy_start, count_yes, count_no, count-end, put_start, name_yes, name_no, name-end, name-long, named-kept, named-written, held-room, held_put)
