use Rattle.table_steps.proofs.Ways.{ways}
use Rattle.table_steps.proofs.maps.migrate_funding_tx.Goals as goal

pub returns-clause-called : goal.returns-clause-called
returns-clause-called c = search ways
