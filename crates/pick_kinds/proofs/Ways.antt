-- What closes the needs of this crate's functions: `search ways`.
use borrow.Author.Rules.{rules}
use Rattle.pick_kinds.proofs.PlaceLaws.{places_whole, places_held, places_gone, places_below, first-is, first_in, places_are, whole-all}
use Rattle.pick_kinds.proofs.KindLaws.{kind_first, kind_again, set-start, set_in, set_long, set_more, set-end, mark_start, mark_below, mark_long, mark_some, mark_none, mark_end, kinds_both, kinds_none}

pub ruleset ways = (rules, places_whole, places_held, places_gone, places_below, first-is, first_in, places_are, whole-all, kind_first, kind_again, set-start, set_in, set_long, set_more, set-end, mark_start, mark_below, mark_long, mark_some, mark_none, mark_end, kinds_both, kinds_none)
