use Rattle.verdict_line.proofs.Ways.{ways}
use Rattle.verdict_line.proofs.put_refusal.Goals as goal

pub put_values-at-requires : goal.put_values-at-requires
put_values-at-requires c = search ways

pub returns : goal.returns
returns c = search ways
