use Rattle.verdict_line.proofs.Ways.{ways}
use Rattle.verdict_line.proofs.put_values.Goals as goal

pub loop-i-init : goal.loop-i-init
loop-i-init c = search ways

pub loop-i-preserved : goal.loop-i-preserved
loop-i-preserved c = search ways
