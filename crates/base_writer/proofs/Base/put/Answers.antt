use Rattle.base_writer.proofs.Ways.{ways}
use Rattle.base_writer.proofs.Base.put.Goals as goal

pub returns : goal.returns
returns c = search ways
