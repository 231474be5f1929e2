use Rattle.watchtower_holds.proofs.Ways.{ways}
use Rattle.watchtower_holds.proofs.note_all.Goals as goal
use Rattle.watchtower_holds.proofs.note_all.Goals.{then-is_tower, else-is_tower}

pub loop-i-preserved : goal.loop-i-preserved
loop-i-preserved c = elim c.if-is_tower.branch [ then-is_tower w ↦ rw w.hints-is (search ways) | else-is_tower w ↦ rw w.hints-is (search ways) ]
