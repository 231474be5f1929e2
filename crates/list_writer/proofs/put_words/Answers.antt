use Rattle.list_writer.proofs.Ways.{ways}
use Rattle.list_writer.proofs.put_words.Goals as goal

pub loop-x-init : goal.loop-x-init
loop-x-init c = search ways

pub loop-x-preserved : goal.loop-x-preserved
loop-x-preserved c = search ways

pub returns-clause-out_after : goal.returns-clause-out_after
returns-clause-out_after c = search ways

pub returns-clause-value : goal.returns-clause-value
returns-clause-value c = search ways
