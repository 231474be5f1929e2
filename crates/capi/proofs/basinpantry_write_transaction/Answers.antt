use Rattle.capi.proofs.Ways.{ways}
use Rattle.capi.proofs.basinpantry_write_transaction.Goals as goal

pub returns : goal.returns
returns c = search ways
