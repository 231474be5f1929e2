use Rattle.units.specs.Units.{token_count}
use Rattle.molecule.specs.Layout.{items_of}
use Rattle.udt_cells.specs.Pick.{pick_from}
use Rattle.udt_cells.proofs.PickLaws.{Picking}
use Rattle.udt_cells.proofs.pick.Given as goal

abbrev pub invariant-loop-taken : goal.invariant-loop-taken
invariant-loop-taken l = Picking l.wanted l.cells l.n l.taken l.total (pick_from (token_count l.wanted) 0 0 (items_of l.cells))
