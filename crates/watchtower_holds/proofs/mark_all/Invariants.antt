use Rattle.std.proofs.Common.{◌+◌, ◌<◌}
use Rattle.out_points.specs.OutPoints.{point_of}
use Rattle.watchtower_holds.proofs.MarkLaws.{Releasing}
use Rattle.watchtower_holds.proofs.mark_all.Given as goal

-- no cell's other records are still to be looked at
abbrev pub invariant-loop-i : goal.invariant-loop-i
invariant-loop-i l = Releasing l.cells l.h l.hints l.count l.n (point_of l.cells 0) l.i l.count l.initial.marks l.marks

abbrev pub invariant-loop-j : goal.invariant-loop-j
invariant-loop-j l = (l.i < l.n) × Releasing l.cells l.h l.hints l.count l.n l.p (l.i + 1) l.j l.fn.marks l.marks
