-- What closes the needs of this crate's functions: `search ways`.
use borrow.Author.Rules.{rules}
use Rattle.hold_records.proofs.ListLaws.{length_mapped}
use Rattle.hold_records.proofs.LoopLaws.{trim_is, keep-none, keep-end}
use Rattle.hold_records.proofs.LimitLaws.{over-is, under-is}
use Rattle.watchtower_holds.proofs.TestLaws.{off-word, on-funding, on-tower, is-tower}
use Rattle.watchtower_holds.proofs.RenewLaws.{place-start, place_in, place-more, place_found, place_end}
use Rattle.watchtower_holds.proofs.HintLaws.{first-is, next-is, other_low, other_high, note_first, note_again, note_other, note_start, note_enough, note_long, note_in, note_yes, note_no, note_end, go_trimmed, go_enough, go_long, go_below, go_count, go_end, go_short, go_full, go_on, go_none, go_last, go_there, go_search}
use Rattle.watchtower_holds.proofs.MarkLaws.{mark_yes, mark_no, marks_none, free_start, free_in, free_room, free_long, free_other, free_none, free_first, free_next, free_end, stay_yes, stay_no}
use Rattle.watchtower_holds.proofs.CallLaws.{tower-unread, tower-done, release-unread, release-done, renewed-on}

pub ruleset ways = (rules, length_mapped, trim_is, keep-none, keep-end, over-is, under-is, off-word, on-funding, on-tower, is-tower, place-start, place_in, place-more, place_found, place_end, first-is, next-is, other_low, other_high, note_first, note_again, note_other, note_start, note_enough, note_long, note_in, note_yes, note_no, note_end, go_trimmed, go_enough, go_long, go_below, go_count, go_end, go_short, go_full, go_on, go_none, go_last, go_there, go_search, mark_yes, mark_no, marks_none, free_start, free_in, free_room, free_long, free_other, free_none, free_first, free_next, free_end, stay_yes, stay_no, tower-unread, tower-done, release-unread, release-done, renewed-on)
