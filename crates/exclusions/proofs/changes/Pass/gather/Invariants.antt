use Rattle.exclusions.proofs.SiftLaws.{Sifting}
use Rattle.exclusions.proofs.changes.Pass.gather.Given as goal

abbrev pub invariant-loop : goal.invariant-loop
invariant-loop l = Sifting l.self.rule l.initial.s l.n l.s l.c l.counter
