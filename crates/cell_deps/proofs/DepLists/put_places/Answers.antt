use Rattle.cell_deps.proofs.Ways.{ways}
use Rattle.cell_deps.proofs.DepLists.put_places.Goals as goal

pub loop-place-preserved : goal.loop-place-preserved
loop-place-preserved c = search ways
