use Rattle.std.proofs.Common.{length, ◌-◌}
use Rattle.recorded_calls.proofs.readers.fill.Given as goal

abbrev pub decreases-loop-at : goal.decreases-loop-at
decreases-loop-at g l = length l.initial.buf - l.at
