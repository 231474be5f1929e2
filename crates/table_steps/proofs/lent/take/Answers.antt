use Rattle.table_laws.specs.Holds as holds
use Rattle.table_steps.proofs.LentSteps.{take-lent-done}
use Rattle.table_steps.proofs.lent.take.Goals as goal

pub returns-clause-called : goal.returns-clause-called
returns-clause-called c =
    holds.take c.take.result c.args.picked.now c.args.spent.now c.args.taker c.args.time c.args.taken.now c.args.refused.now c.take.new.taken c.take.new.refused c.take.ensures

pub returns-clause-took : goal.returns-clause-took
returns-clause-took c =
    take-lent-done c.args.held.now c.take.new.held c.take.result c.args.picked.now c.args.spent.now c.args.taker c.args.time c.args.taken.now c.args.refused.now c.take.new.taken c.take.new.refused c.take.ensures c.are_bytes.ensures
