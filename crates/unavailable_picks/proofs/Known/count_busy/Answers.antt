use Rattle.unavailable_picks.proofs.Ways.{ways}
use Rattle.unavailable_picks.proofs.Known.count_busy.Goals as goal
use Rattle.unavailable_picks.proofs.Known.count_busy.Goals.{then-is_first, else-is_first}

pub loop-i-preserved : goal.loop-i-preserved
loop-i-preserved c = elim c.if-is_first.branch [ then-is_first w ↦ rw w.count-is (search ways) | else-is_first w ↦ rw w.count-is (search ways) ]

pub returns : goal.returns
returns c = search ways
