use Rattle.std.proofs.Common.{◌-◌}
use Rattle.item_index.specs.Keys.{keys_of}
use Rattle.item_index.proofs.FindLaws.{Halving}
use Rattle.item_index.proofs.Keys.has.Given as goal

abbrev pub invariant-loop-low : goal.invariant-loop-low
invariant-loop-low l = Halving (keys_of l.self) l.s l.x l.low l.high

abbrev pub decreases-loop-low : goal.decreases-loop-low
decreases-loop-low l = l.high - l.low
