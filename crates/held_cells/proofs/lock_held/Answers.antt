use Rattle.held_cells.proofs.CallLaws.{lock_short, lock-done}
use Rattle.held_cells.proofs.lock_held.Goals as goal

pub returns-then-not-put_cells-clause-out_after : goal.returns-then-not-put_cells-clause-out_after
returns-then-not-put_cells-clause-out_after c = lock_short c.args.held c.args.time c.args.out.now c.keep-left.result c.keep-left.ensures.result_value c.put_cells.ensures.value c.put_cells.ensures.out_after c.if-not-put_cells.true

pub returns-clause-out_after : goal.returns-clause-out_after
returns-clause-out_after c = lock-done c.args.held c.args.time c.args.out.now c.keep-left.result c.keep-left.ensures.result_value c.put_cells.ensures.value c.put_cells.ensures.out_after c.if-not-put_cells.false
