use Rattle.accounts.proofs.Ways.{ways}
use Rattle.accounts.proofs.Added.capacity.Goals as goal

pub loop-i-preserved : goal.loop-i-preserved
loop-i-preserved c = search ways

pub returns : goal.returns
returns c = search ways
