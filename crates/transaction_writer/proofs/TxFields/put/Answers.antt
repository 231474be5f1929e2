use Rattle.transaction_writer.proofs.Ways.{ways}
use Rattle.transaction_writer.proofs.TxFields.put.Goals as goal

pub returns : goal.returns
returns c = search ways
