use Rattle.table_laws.specs.Holds as holds
use Rattle.table_steps.proofs.lent.hold_funding.Goals as goal

pub returns-clause-called : goal.returns-clause-called
returns-clause-called c = holds.hold c.hold_funding.result c.args.holder c.args.cells.now c.hold_funding.ensures
