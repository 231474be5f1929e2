use Rattle.pick_kinds.proofs.KindLaws.{mark_some, mark_none}
use Rattle.pick_kinds.proofs.Ways.{ways}
use Rattle.pick_kinds.proofs.Indexed.mark_busy.Goals as goal

pub loop-k-preserved-in_default : goal.loop-k-preserved-in_default
loop-k-preserved-in_default c = mark_none c.loop-k.invariant c.loop-k-test.true c.in_default.ensures

pub loop-k-preserved : goal.loop-k-preserved
loop-k-preserved c = mark_some c.loop-k.invariant c.loop-k-test.true c.in-Some.ensures

pub loop-k-init : goal.loop-k-init
loop-k-init c = search ways
