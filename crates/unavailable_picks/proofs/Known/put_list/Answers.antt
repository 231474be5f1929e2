use Rattle.unavailable_picks.proofs.Ways.{ways}
use Rattle.unavailable_picks.proofs.Known.put_list.Goals as goal

pub returns-clause-out_after : goal.returns-clause-out_after
returns-clause-out_after c = search ways
