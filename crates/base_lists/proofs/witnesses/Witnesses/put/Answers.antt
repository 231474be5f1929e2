use Rattle.base_lists.proofs.Ways.{ways}
use Rattle.base_lists.proofs.witnesses.Witnesses.put.Goals as goal

pub returns-in-Some-clause-out_after : goal.returns-in-Some-clause-out_after
returns-in-Some-clause-out_after c = search (ways, c.in-Some.ensures)

pub returns-in-Some-clause-value : goal.returns-in-Some-clause-value
returns-in-Some-clause-value c = search (ways, c.in-Some.ensures)
