use Rattle.out_points.proofs.Ways.{ways}
use Rattle.out_points.proofs.put_words.Goals as goal

pub returns-clause-put : goal.returns-clause-put
returns-clause-put c = search ways
