use Rattle.records.proofs.GatherLaws.{Gathering}
use Rattle.records.proofs.gather.Given as goal

abbrev pub invariant-loop-i : goal.invariant-loop-i
invariant-loop-i l = Gathering l.source l.udt l.records l.first l.n l.i l.from l.capacity l.token
