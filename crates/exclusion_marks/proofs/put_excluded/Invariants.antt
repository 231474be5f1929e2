use Rattle.exclusion_marks.proofs.ApplyLaws.{Listing}
use Rattle.exclusion_marks.proofs.put_excluded.Given as goal

abbrev pub invariant-loop : goal.invariant-loop
invariant-loop l = Listing l.s l.n l.initial.out l.out l.to l.at l.counter
