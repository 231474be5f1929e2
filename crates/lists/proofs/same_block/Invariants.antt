use Rattle.std.proofs.Common.{◌≡◌, take, drop}
use Rattle.lists.specs.Lists.{eq_bytes}
use Rattle.lists.proofs.same_block.Given as goal

abbrev pub invariant-loop-i : goal.invariant-loop-i
invariant-loop-i g l = l.ok ≡ eq_bytes (take l.i (drop l.at l.a)) (take l.i (drop l.at l.b))
