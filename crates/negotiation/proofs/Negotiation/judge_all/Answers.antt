use Rattle.negotiation.proofs.Ways.{ways}
use Rattle.negotiation.proofs.Negotiation.judge_all.Goals as goal

pub loop-i-preserved : goal.loop-i-preserved
loop-i-preserved c = search ways

pub returns : goal.returns
returns c = search ways
