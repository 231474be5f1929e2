use Rattle.std.proofs.Common.{◌-◌, length}
use Rattle.lists.proofs.BlockLaws.{Agreed}
use Rattle.lists.proofs.same_by_blocks.Given as goal

abbrev pub invariant-loop-i : goal.invariant-loop-i
invariant-loop-i g l = Agreed l.a l.b l.i

abbrev pub decreases-loop-i : goal.decreases-loop-i
decreases-loop-i g l = length l.a - l.i
