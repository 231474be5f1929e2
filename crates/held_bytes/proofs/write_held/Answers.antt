use Rattle.held_bytes.proofs.Ways.{ways}
use Rattle.held_bytes.proofs.write_held.Goals as goal

pub loop-i-init : goal.loop-i-init
loop-i-init c = search ways

pub loop-i-preserved : goal.loop-i-preserved
loop-i-preserved c = search ways

pub returns-clause-s_after : goal.returns-clause-s_after
returns-clause-s_after c = search ways
