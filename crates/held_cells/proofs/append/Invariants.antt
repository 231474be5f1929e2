use Rattle.hold_records.specs.declared.{Owner.Owner}
use Rattle.hold_records.specs.Holds.{held_by}
use Rattle.held_cells.proofs.AddLaws.{Adding}
use Rattle.held_cells.proofs.append.Given as goal

abbrev pub invariant-loop-i : goal.invariant-loop-i
invariant-loop-i l = Adding (held_by (Owner.Funding l.holder)) l.cells l.initial.g l.g l.i-end l.i
