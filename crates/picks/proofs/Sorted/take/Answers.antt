use Rattle.std.proofs.Common.{rules}
use Rattle.picks.proofs.TakenLaws.{both-room, left_is}
use Rattle.picks.proofs.Ways.{ways}
use Rattle.picks.proofs.Sorted.take.Goals as goal

pub returns-then-not-both_fit-clause-after : goal.returns-then-not-both_fit-clause-after
returns-then-not-both_fit-clause-after c = search ways

pub returns-then-from-count-clause-after : goal.returns-then-from-count-clause-after
returns-then-from-count-clause-after c = search ways

pub put_both-requires-clause-n_value : goal.put_both-requires-clause-n_value
put_both-requires-clause-n_value c = search (rules, left_is)

pub put_both-requires-clause-in_bounds : goal.put_both-requires-clause-in_bounds
put_both-requires-clause-in_bounds c = search (rules, both-room)

pub returns-clause-after : goal.returns-clause-after
returns-clause-after c = search ways
