use Rattle.hold_records.proofs.Ways.{ways}
use Rattle.hold_records.proofs.put_cells.Goals as goal

pub returns-clause-out_after : goal.returns-clause-out_after
returns-clause-out_after c = search ways
