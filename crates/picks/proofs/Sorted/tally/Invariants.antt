use Rattle.picks.proofs.TakeLaws.{Tallying}
use Rattle.picks.proofs.Sorted.tally.Given as goal

abbrev pub invariant-loop-i : goal.invariant-loop-i
invariant-loop-i l = Tallying l.owner l.self.picked.now l.self.kinds.now l.initial.g l.g l.n l.i l.count
