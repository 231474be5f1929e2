use Rattle.verdict_line.proofs.Ways.{ways}
use Rattle.verdict_line.proofs.write_line.Goals as goal

pub returns-in-Ok-clause-line_after : goal.returns-in-Ok-clause-line_after
returns-in-Ok-clause-line_after c = search ways

pub returns-in-Ok-clause-value : goal.returns-in-Ok-clause-value
returns-in-Ok-clause-value c = search ways

pub returns-in-Err-clause-line_after : goal.returns-in-Err-clause-line_after
returns-in-Err-clause-line_after c = search ways

pub returns-in-Err-clause-value : goal.returns-in-Err-clause-value
returns-in-Err-clause-value c = search ways
