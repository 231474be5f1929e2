use Rattle.verdict_line.proofs.Ways.{ways}
use Rattle.verdict_line.proofs.put_decimal.Goals as goal

pub loop-i-init : goal.loop-i-init
loop-i-init c = search ways

pub returns-then-left-lt10-clause-out_after : goal.returns-then-left-lt10-clause-out_after
returns-then-left-lt10-clause-out_after c = search ways

pub returns-then-left-lt10-clause-value : goal.returns-then-left-lt10-clause-value
returns-then-left-lt10-clause-value c = search ways

pub loop-i-preserved : goal.loop-i-preserved
loop-i-preserved c = search ways

pub returns-clause-out_after : goal.returns-clause-out_after
returns-clause-out_after c = search ways

pub returns-clause-value : goal.returns-clause-value
returns-clause-value c = search ways
