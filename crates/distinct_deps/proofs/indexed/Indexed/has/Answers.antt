use Rattle.distinct_deps.proofs.DistinctLaws.{has_is}
use Rattle.distinct_deps.proofs.indexed.Indexed.has.Goals as goal

pub returns : goal.returns
returns c = has_is _ _ _ c.args.self.is_index (rw c.keys.ensures at c.has.ensures)
