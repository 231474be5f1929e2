use Rattle.cell_output.proofs.Ways.{ways}
use Rattle.cell_output.proofs.output_head.Goals as goal

pub returns : goal.returns
returns c = search ways
