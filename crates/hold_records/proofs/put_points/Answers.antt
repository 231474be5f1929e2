use Rattle.hold_records.proofs.Ways.{ways}
use Rattle.hold_records.proofs.put_points.Goals as goal

pub loop-i-preserved : goal.loop-i-preserved
loop-i-preserved c = search ways

pub returns-clause-put : goal.returns-clause-put
returns-clause-put c = search ways

pub returns-clause-all : goal.returns-clause-all
returns-clause-all c = search ways
