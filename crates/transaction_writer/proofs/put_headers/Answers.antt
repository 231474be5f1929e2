use Rattle.transaction_writer.proofs.Ways.{ways}
use Rattle.transaction_writer.proofs.put_headers.Goals as goal

pub returns : goal.returns
returns c = search ways
