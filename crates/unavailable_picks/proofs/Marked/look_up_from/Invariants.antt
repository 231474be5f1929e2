use Rattle.out_points.specs.OutPoints.{point_of}
use Rattle.pick_kinds.specs.Picks.{among_of}
use Rattle.unavailable_picks.proofs.PickLaws.{Filling}
use Rattle.unavailable_picks.proofs.Marked.look_up_from.Given as goal

abbrev pub invariant-loop-i : goal.invariant-loop-i
invariant-loop-i l = Filling (among_of l.self.picks) (point_of l.self.picks.picked.now) l.n l.i l.initial.kinds l.kinds
