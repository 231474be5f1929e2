use Rattle.picks.proofs.Ways.{ways}
use Rattle.picks.proofs.Sorted.put_refused.Goals as goal

pub returns : goal.returns
returns c = search ways
