use Rattle.unavailable_picks.proofs.Ways.{ways}
use Rattle.unavailable_picks.proofs.Known.put_busy.Goals as goal

pub returns : goal.returns
returns c = search ways
