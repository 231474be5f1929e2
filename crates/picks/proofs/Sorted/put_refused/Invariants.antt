use Rattle.out_points.specs.OutPoints.{point_of}
use Rattle.unavailable_picks.proofs.PickLaws.{Naming}
use Rattle.picks.specs.Inner.{is_left, left_of}
use Rattle.picks.proofs.Sorted.put_refused.Given as goal

abbrev pub invariant-loop-i : goal.invariant-loop-i
invariant-loop-i l = Naming (is_left l.self.kinds.now) (point_of l.self.picked.now) (left_of l.self.picked.now l.self.kinds.now) l.n l.i l.initial.out l.at l.out l.to
