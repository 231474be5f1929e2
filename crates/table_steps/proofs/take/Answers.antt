use Rattle.table_steps.proofs.Ways.{ways}
use Rattle.table_steps.proofs.StepLaws.{take_done}
use Rattle.table_steps.proofs.take.Goals as goal

pub returns-clause-took : goal.returns-clause-took
returns-clause-took c = take_done c.args.held c.take.result c.args.picked.now c.args.spent.now c.args.taker c.args.time c.args.taken.now c.args.refused.now c.take.new.taken c.take.new.refused c.take.ensures.after c.are_bytes.ensures

pub returns-clause-called : goal.returns-clause-called
returns-clause-called c = search ways
