use Rattle.held_cells.proofs.Ways.{ways}
use Rattle.held_cells.proofs.hold_funding.Goals as goal

pub returns-clause-held_value : goal.returns-clause-held_value
returns-clause-held_value c = search ways
