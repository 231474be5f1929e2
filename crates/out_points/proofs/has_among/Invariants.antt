use Rattle.molecule.specs.Layout.{span}
use Rattle.out_points.specs.OutPoints.{point_of, has}
use Rattle.out_points.proofs.EqualLaws.{Seek}
use Rattle.out_points.proofs.has_among.Given as goal

abbrev pub invariant-loop-i : goal.invariant-loop-i
invariant-loop-i l = Seek l.p (point_of l.s) l.n l.i (has l.p (span (point_of l.s) 0 l.n))

abbrev pub invariant-loop-j : goal.invariant-loop-j
invariant-loop-j l = Seek l.p (point_of l.s) l.n l.j (has l.p (span (point_of l.s) 0 l.n))
