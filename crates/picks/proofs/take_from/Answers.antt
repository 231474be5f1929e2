use Rattle.picks.proofs.Ways.{ways}
use Rattle.picks.proofs.take_from.Goals as goal

pub returns-then-n-gt-MOST_PICKS-clause-after : goal.returns-then-n-gt-MOST_PICKS-clause-after
returns-then-n-gt-MOST_PICKS-clause-after c = search ways

pub returns-clause-after : goal.returns-clause-after
returns-clause-after c = search ways
