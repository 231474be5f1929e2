use Rattle.table_laws.specs.Holds as holds
use Rattle.table_steps.proofs.lent.release_for_watchtower.Goals as goal

pub returns-clause-called : goal.returns-clause-called
returns-clause-called c = holds.release c.release_for_watchtower.result c.args.cells.now c.release_for_watchtower.ensures
