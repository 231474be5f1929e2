use Rattle.table_laws.specs.Holds as holds
use Rattle.table_steps.proofs.Ways.{ways}
use Rattle.table_steps.proofs.LentSteps.{lock-lent-done}
use Rattle.table_steps.proofs.lent.lock_held.Goals as goal

pub returns-clause-called : goal.returns-clause-called
returns-clause-called c = holds.locked c.lock_held.result c.args.time c.args.out.now c.lock_held.new.out c.lock_held.ensures

pub returns-clause-in_range : goal.returns-clause-in_range
returns-clause-in_range c = search ways

pub returns-clause-locked : goal.returns-clause-locked
returns-clause-locked c = lock-lent-done c.args.held.now c.lock_held.new.held c.lock_held.result c.args.time c.args.out.now c.lock_held.new.out c.lock_held.ensures
