use Rattle.capi.proofs.Ways.{ways}
use Rattle.capi.proofs.replay.basinpantry_replay.Goals as goal

pub returns-clause-answers_after : goal.returns-clause-answers_after
returns-clause-answers_after c = search ways

pub returns-clause-lawful : goal.returns-clause-lawful
returns-clause-lawful c = search ways
