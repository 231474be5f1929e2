use Rattle.std.proofs.Common.{arith}
use Rattle.held_bytes.proofs.CallLaws.{held-on, lent_bad}
use Rattle.held_bytes.proofs.calls.on_table.Goals as goal

pub returns : goal.returns
returns g c = λ o k. rw (held-on c.args.s.now o (omega arith), ← k c.call-r.result (rw c.read_held.ensures at c.call-r.ensures)) c.leave.ensures

pub returns-then-s-ne-HELD_BYTES : goal.returns-then-s-ne-HELD_BYTES
returns-then-s-ne-HELD_BYTES g c = λ o k. lent_bad c.args.s.now (omega arith) o
