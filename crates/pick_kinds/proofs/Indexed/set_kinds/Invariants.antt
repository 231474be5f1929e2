use Rattle.std.proofs.Common.{length}
use Rattle.out_points.specs.OutPoints.{point_of}
use Rattle.pick_kinds.proofs.KindLaws.{Setting}
use Rattle.pick_kinds.proofs.Indexed.set_kinds.Given as goal

abbrev pub invariant-loop-i : goal.invariant-loop-i
invariant-loop-i l = Setting (point_of l.self.picks.picked.now) (length l.self.places.now) l.i l.initial.kinds l.kinds
