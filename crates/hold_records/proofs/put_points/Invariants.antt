use Rattle.hold_records.proofs.WriteLaws.{Cells}
use Rattle.hold_records.proofs.put_points.Given as goal

abbrev pub invariant-loop-i : goal.invariant-loop-i
invariant-loop-i l = Cells l.h l.from l.n l.i l.initial.out l.at l.out l.to
