use Rattle.std.proofs.Common.{arith}
use Rattle.watchtower_holds.proofs.MarkLaws.{free_none, free_first, free_next, free_other}
use Rattle.watchtower_holds.proofs.Ways.{ways}
use Rattle.watchtower_holds.proofs.mark_all.Goals as goal

pub loop-i-preserved-then-count-k : goal.loop-i-preserved-then-count-k
loop-i-preserved-then-count-k c = free_next (free_none c.loop-i.invariant (omega arith) c.loop-i-test.true c.point_of-p.ensures c.first-k.ensures c.if-count-k.true) _ (omega arith)

pub loop-j-init : goal.loop-j-init
loop-j-init c = (c.loop-i-test.true, free_first c.loop-i.invariant (omega arith) c.loop-i-test.true c.point_of-p.ensures c.first-k.ensures _ c.if-count-k.false c.tower_on.ensures c.mark.ensures c.next-others.ensures)

pub loop-j-preserved : goal.loop-j-preserved
loop-j-preserved c = (c.loop-j.invariant.0, free_other c.loop-j.invariant.1 _ c.loop-j-test.true c.tower_on-in-loop-j.ensures c.mark-in-loop-j.ensures)

pub loop-i-init : goal.loop-i-init
loop-i-init c = search ways
