use Rattle.base_inputs.proofs.Ways.{ways}
use Rattle.base_inputs.proofs.Inputs.put_picked.Goals as goal

pub put_one-next-requires : goal.put_one-next-requires
put_one-next-requires c = search ways

pub loop-i-preserved : goal.loop-i-preserved
loop-i-preserved c = search ways
