use Rattle.std.proofs.Common.{◌+◌, ◌-◌, ◌/◌, arith}
use Rattle.item_index.proofs.FindLaws.{halves_less, halves_more, halves_met, halves_end}
use Rattle.item_index.proofs.Keys.has.Goals as goal

pub loop-low-preserved-in-Less : goal.loop-low-preserved-in-Less
loop-low-preserved-in-Less c = halves_less c.loop-low.invariant (c.loop-low.low + (c.loop-low.high - c.loop-low.low) / 2) (omega arith) c.in-Less.ensures

pub returns-in-Equal : goal.returns-in-Equal
returns-in-Equal c = halves_met c.loop-low.invariant (c.loop-low.low + (c.loop-low.high - c.loop-low.low) / 2) (omega arith) c.in-Equal.ensures

pub loop-low-preserved : goal.loop-low-preserved
loop-low-preserved c = halves_more c.loop-low.invariant (c.loop-low.low + (c.loop-low.high - c.loop-low.low) / 2) (omega arith) c.in-Greater.ensures

pub returns : goal.returns
returns c = halves_end c.loop-low.invariant (omega arith)
