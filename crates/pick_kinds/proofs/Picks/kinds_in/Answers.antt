use Rattle.std.proofs.Common.{arith}
use Rattle.pick_kinds.proofs.PlaceLaws.{places_are}
use Rattle.pick_kinds.proofs.Picks.kinds_in.Goals as goal

pub invariant_of-indexed : goal.invariant_of-indexed
invariant_of-indexed g c = record { are_places = places_are _ _ _ c.build.new.s c.args.n _ _ c.requires.are_whole c.requires.n_bound c.build.ensures (omega arith) (omega arith) }
