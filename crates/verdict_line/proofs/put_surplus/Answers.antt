use Rattle.verdict_line.proofs.Ways.{ways}
use Rattle.verdict_line.proofs.put_surplus.Goals as goal

pub returns : goal.returns
returns c = search ways
