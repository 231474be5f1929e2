use Rattle.unavailable_picks.proofs.MarkLaws.{Marking}
use Rattle.unavailable_picks.proofs.mark_list.Given as goal

abbrev pub invariant-loop-i : goal.invariant-loop-i
invariant-loop-i l = Marking l.s l.n l.i l.initial.marks l.marks
