-- The picks with the lists of busy cells, as functions are lent them.
use Rattle.std.specs.Prelude.{ℕ, List, Bool}
use Rattle.out_points.specs.declared.{OutPoint.OutPoint}
use Rattle.out_points.specs.OutPoints.{point_of, points}
use Rattle.pick_kinds.specs.declared.{Kind.Kind, Picks.Picks}
use Rattle.pick_kinds.specs.Kinds.{is_held_or_spent, Kinds}
use Rattle.pick_kinds.specs.Indexed.{AllWhole}

-- p is on a cell that is held, or spent
abbrev pub among_of : Picks → OutPoint → Bool
among_of p = is_held_or_spent (points p.cells.now) (points p.spent.now)

-- what the first n picks are
abbrev pub KindsOf : Picks → ℕ → List Kind → Type 0
KindsOf p n kinds = Kinds (among_of p) (point_of p.picked.now) n kinds

-- all three lists have their items whole
abbrev pub AreWhole : Picks → Type 0
AreWhole p = AllWhole p.cells.now p.picked.now p.spent.now
