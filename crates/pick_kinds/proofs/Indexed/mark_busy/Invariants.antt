use Rattle.std.proofs.Common.{length}
use Rattle.out_points.specs.OutPoints.{point_of}
use Rattle.pick_kinds.proofs.KindLaws.{Marking}
use Rattle.pick_kinds.proofs.Indexed.mark_busy.Given as goal

abbrev pub invariant-loop-k : goal.invariant-loop-k
invariant-loop-k l = Marking (point_of l.self.picks.picked.now) (length l.self.places.now) l.list l.k-end l.k l.initial.kinds l.kinds
