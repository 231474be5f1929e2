use Rattle.base_lists.proofs.Ways.{ways}
use Rattle.base_lists.proofs.outputs_data.OutputsData.put.Goals as goal

pub returns-in-Some-clause-out_after : goal.returns-in-Some-clause-out_after
returns-in-Some-clause-out_after c = search ways
