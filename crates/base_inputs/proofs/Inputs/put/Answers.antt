use Rattle.base_inputs.proofs.Ways.{ways}
use Rattle.base_inputs.proofs.Inputs.put.Goals as goal

pub returns-clause-out_after : goal.returns-clause-out_after
returns-clause-out_after c = search ways

pub returns-clause-value : goal.returns-clause-value
returns-clause-value c = search ways
