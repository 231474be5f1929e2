use Rattle.exclusions.proofs.PutLaws.{Spending}
use Rattle.exclusions.proofs.entry.NewEntry.put_points.Given as goal

abbrev pub invariant-loop : goal.invariant-loop
invariant-loop l = Spending l.self.inputs.now l.n l.initial.out l.at l.out l.to l.from l.counter
