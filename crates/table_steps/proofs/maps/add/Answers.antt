use Rattle.table_steps.proofs.Ways.{ways}
use Rattle.table_steps.proofs.maps.add.Goals as goal

pub returns-clause-called : goal.returns-clause-called
returns-clause-called c = search ways
