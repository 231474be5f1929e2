use Rattle.std.proofs.Common.{arith}
use Rattle.unavailable_picks.proofs.PickLaws.{held_put}
use Rattle.unavailable_picks.proofs.put_unavailable.Goals as goal

pub returns-clause-out_after : goal.returns-clause-out_after
returns-clause-out_after c = held_put _ _ _ _ _ c.list_cells.ensures.out_after_2 (omega arith) c.put_among.ensures.out_after
