-- What closes the needs of this crate's functions: `search ways`.
use borrow.Author.Rules.{rules}
use Rattle.distinct_deps.proofs.DistinctLaws.{has_is, first_is, listed_made, last_first, last_lock_again, last_extra_new, own_new, own_again, own_past, own_rest, dep_new, dep_again, dep_past, dep-rest, gather_start, gather_in, gather_end, gather_old, gather_new, gather_room, gather_full}
use Rattle.distinct_deps.proofs.ChooseLaws.{choose_start, choose_room, choose_order, choose_end}

pub ruleset ways = (rules, has_is, first_is, listed_made, last_first, last_lock_again, last_extra_new, own_new, own_again, own_past, own_rest, dep_new, dep_again, dep_past, dep-rest, gather_start, gather_in, gather_end, gather_old, gather_new, gather_room, gather_full, choose_start, choose_room, choose_order, choose_end)
