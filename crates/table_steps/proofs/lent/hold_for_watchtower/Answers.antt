use Rattle.table_laws.specs.Holds as holds
use Rattle.table_steps.proofs.lent.hold_for_watchtower.Goals as goal

pub returns-clause-called : goal.returns-clause-called
returns-clause-called c = holds.watch c.hold_for_watchtower.result c.args.cells.now c.args.time c.hold_for_watchtower.ensures
