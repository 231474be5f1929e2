use Rattle.list_writer.proofs.Ways.{ways}
use Rattle.list_writer.proofs.put_all.Goals as goal

pub loop-part-preserved : goal.loop-part-preserved
loop-part-preserved c = search ways
