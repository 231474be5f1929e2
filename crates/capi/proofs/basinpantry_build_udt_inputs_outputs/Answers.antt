use Rattle.capi.proofs.Ways.{ways}
use Rattle.capi.proofs.basinpantry_build_udt_inputs_outputs.Goals as goal

pub returns : goal.returns
returns c = search ways
