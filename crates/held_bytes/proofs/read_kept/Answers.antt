use Rattle.held_bytes.proofs.Ways.{ways}
use Rattle.held_bytes.proofs.read_kept.Goals as goal

pub loop-i-init : goal.loop-i-init
loop-i-init c = search ways
