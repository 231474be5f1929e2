use Rattle.std.proofs.Common.{arith}
use Rattle.held_bytes.proofs.CallLaws.{take_bad, take-call}
use Rattle.held_bytes.proofs.calls.take.Goals as goal

pub returns : goal.returns
returns c = take-call c.args.held.now c.take-r.result (omega arith) c.read_held-h.ensures c.args.picked.now c.args.spent.now c.args.taker c.args.time c.args.taken.now c.args.refused.now c.take-r.ensures.after c.leave.ensures

pub returns-then-held-ne-HELD_BYTES : goal.returns-then-held-ne-HELD_BYTES
returns-then-held-ne-HELD_BYTES c = take_bad c.args.held.now (omega arith) c.args.picked.now c.args.spent.now c.args.taker c.args.time c.args.taken.now c.args.refused.now
