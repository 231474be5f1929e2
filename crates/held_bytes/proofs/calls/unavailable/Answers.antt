use Rattle.std.proofs.Common.{arith}
use Rattle.held_bytes.proofs.CallLaws.{named-call}
use Rattle.held_bytes.proofs.calls.unavailable.Goals as goal

pub returns : goal.returns
returns c = named-call c.args.held.now c.args.picked.now c.args.spent.now c.args.time c.args.out.now (omega arith) c.read_held-h.ensures c.unavailable.ensures
