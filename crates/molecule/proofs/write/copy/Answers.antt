use Rattle.molecule.proofs.Ways.{ways}
use Rattle.molecule.proofs.write.copy.Goals as goal

pub loop-i-preserved : goal.loop-i-preserved
loop-i-preserved c = search ways

pub returns : goal.returns
returns c = search ways
