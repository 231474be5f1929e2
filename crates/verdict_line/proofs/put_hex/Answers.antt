use Rattle.verdict_line.proofs.Ways.{ways}
use Rattle.verdict_line.proofs.put_hex.Goals as goal

pub loop-i-preserved : goal.loop-i-preserved
loop-i-preserved c = search ways

pub returns-clause-out_after : goal.returns-clause-out_after
returns-clause-out_after c = search ways
