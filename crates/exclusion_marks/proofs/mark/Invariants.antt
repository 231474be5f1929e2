use Rattle.exclusion_marks.proofs.MarkLaws.{Marking}
use Rattle.exclusion_marks.proofs.mark.Given as goal

abbrev pub invariant-loop : goal.invariant-loop
invariant-loop l = Marking l.hash l.block l.initial.s l.n l.s l.at l.counter
