use Rattle.molecule.proofs.Ways.{ways}
use Rattle.molecule.proofs.has_items.Goals as goal

pub returns-then-to-from : goal.returns-then-to-from
returns-then-to-from c = search ways

pub loop-i-preserved : goal.loop-i-preserved
loop-i-preserved c = search ways

pub returns : goal.returns
returns c = search ways
