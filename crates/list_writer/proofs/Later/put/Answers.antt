use Rattle.list_writer.proofs.Ways.{ways}
use Rattle.list_writer.proofs.Later.put.Goals as goal

pub loop-i-preserved : goal.loop-i-preserved
loop-i-preserved c = search ways
