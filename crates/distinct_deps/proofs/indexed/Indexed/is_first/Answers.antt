use Rattle.distinct_deps.proofs.DistinctLaws.{first_is}
use Rattle.distinct_deps.proofs.indexed.Indexed.is_first.Goals as goal

pub returns : goal.returns
returns c = first_is _ _ _ c.args.self.is_index c.args.i c.requires (rw c.keys.ensures at c.place_of.ensures) c.eq.ensures
