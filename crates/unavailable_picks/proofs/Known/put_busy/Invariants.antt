use Rattle.out_points.specs.OutPoints.{point_of}
use Rattle.pick_kinds.specs.Picks.{among_of}
use Rattle.unavailable_picks.specs.Inner.{is_first, named_of}
use Rattle.unavailable_picks.proofs.PickLaws.{Naming}
use Rattle.unavailable_picks.proofs.Known.put_busy.Given as goal

abbrev pub invariant-loop-i : goal.invariant-loop-i
invariant-loop-i l = Naming (is_first (among_of l.self.marked.picks) (point_of l.self.marked.picks.picked.now)) (point_of l.self.marked.picks.picked.now) (named_of l.self.marked.picks) l.i-end l.i l.initial.out l.at l.out l.to
