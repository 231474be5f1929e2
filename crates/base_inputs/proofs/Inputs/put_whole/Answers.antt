use Rattle.base_inputs.proofs.Ways.{ways}
use Rattle.base_inputs.proofs.Inputs.put_whole.Goals as goal

pub overflow_cast-n : goal.overflow_cast-n
overflow_cast-n c = search ways

pub returns : goal.returns
returns c = search ways
