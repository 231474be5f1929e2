use Rattle.list_writer.proofs.Ways.{ways}
use Rattle.list_writer.proofs.Parts.put_whole.Goals as goal

pub returns : goal.returns
returns c = search ways
