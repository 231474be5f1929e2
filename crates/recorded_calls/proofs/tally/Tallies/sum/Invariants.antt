use Rattle.std.proofs.Common.{◌≡◌, drop}
use Rattle.recorded_calls.specs.Tally.{total}
use Rattle.recorded_calls.proofs.tally.Tallies.sum.Given as goal

abbrev pub invariant-loop-tally : goal.invariant-loop-tally
invariant-loop-tally g l = total l.sum (drop l.tally-index l.tally-items) ≡ total (record { all = 0; wrong = 0 }) l.fn.self.of
