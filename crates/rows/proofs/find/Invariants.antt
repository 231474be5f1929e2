use Rattle.rows.specs.Rows.{find}
use Rattle.rows.proofs.RowLaws.{Seeking}
use Rattle.rows.proofs.find.Given as goal

abbrev pub invariant-loop-i : goal.invariant-loop-i
invariant-loop-i l = Seeking l.k l.at l.key l.s l.i-end l.i (find l.k l.at l.key l.s)
