use Rattle.std.proofs.Common.{arith}
use Rattle.held_bytes.proofs.CallLaws.{lock_bad, lock-refused, lock-left}
use Rattle.held_bytes.proofs.calls.lock_held.Goals as goal

pub returns-then-not-put_cells : goal.returns-then-not-put_cells
returns-then-not-put_cells c = lock-refused c.args.held.now c.args.time c.args.out.now c.read_kept-left.result (omega arith) c.read_kept-left.ensures.result_value c.put_cells.ensures.value c.put_cells.ensures.out_after c.if-not-put_cells.true

pub returns : goal.returns
returns c = lock-left c.args.held.now c.args.time c.args.out.now c.read_kept-left.result (omega arith) c.read_kept-left.ensures.result_value c.put_cells.ensures.value c.put_cells.ensures.out_after c.if-not-put_cells.false c.leave.ensures

pub returns-then-held-ne-HELD_BYTES : goal.returns-then-held-ne-HELD_BYTES
returns-then-held-ne-HELD_BYTES c = lock_bad c.args.held.now (omega arith) c.args.time c.args.out.now
