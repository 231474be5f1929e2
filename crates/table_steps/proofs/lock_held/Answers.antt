use Rattle.table_steps.proofs.Ways.{ways}
use Rattle.table_steps.proofs.StepLaws.{lock-done}
use Rattle.table_steps.proofs.lock_held.Goals as goal

pub returns-clause-locked : goal.returns-clause-locked
returns-clause-locked c = lock-done c.args.held c.lock_held.result c.args.time c.args.out.now c.lock_held.new.out c.lock_held.ensures.out_after

pub returns-clause-called : goal.returns-clause-called
returns-clause-called c = search ways
