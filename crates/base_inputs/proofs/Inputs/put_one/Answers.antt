use Rattle.base_inputs.proofs.Ways.{ways}
use Rattle.base_inputs.proofs.Inputs.put_one.Goals as goal

pub returns : goal.returns
returns c = search ways
