-- What closes the goals of this crate's functions.
use Rattle.std.proofs.Common.{rules}
use Rattle.exclusion_marks.proofs.MarkLaws.{mark_next, mark_other, mark_room, mark_put, mark_start, marking_room, marking_more, marked_put, marked_means}
use Rattle.exclusion_marks.proofs.ApplyLaws.{list_start, list_at, list_more, list_end}
use Rattle.exclusion_marks.proofs.CallLaws.{commit_bad, commit-done, points-fit, apply_bad, apply_short, apply-room, apply-done}
use Rattle.exclusion_entries.proofs.LentLaws.{lent_bad}
use Rattle.exclusion_entries.proofs.StayLaws.{told_good}

pub ruleset ways = (rules, mark_next, mark_other, mark_room, mark_put, mark_start, marking_room, marking_more, marked_put, marked_means, list_start, list_at, list_more, list_end, commit_bad, commit-done, points-fit, apply_bad, apply_short, apply-room, apply-done, lent_bad, told_good)
