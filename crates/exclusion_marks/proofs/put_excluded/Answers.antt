use Rattle.exclusion_marks.proofs.Ways.{ways}
use Rattle.exclusion_marks.proofs.put_excluded.Goals as goal

pub returns : goal.returns
returns c = search ways
