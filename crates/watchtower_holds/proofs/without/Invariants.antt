use Rattle.out_points.specs.OutPoints.{points}
use Rattle.hold_records.specs.Holds.{is_unnamed}
use Rattle.hold_records.proofs.LoopLaws.{Keeping}
use Rattle.watchtower_holds.proofs.without.Given as goal

abbrev pub invariant-loop-i : goal.invariant-loop-i
invariant-loop-i l = Keeping (is_unnamed (points l.cells)) l.h l.g l.n l.to l.i
