use Rattle.list_writer.proofs.Ways.{ways}
use Rattle.list_writer.proofs.Lengths.put_head.Goals as goal

pub returns-clause-put : goal.returns-clause-put
returns-clause-put c = search ways
