use Rattle.watchtower_holds.proofs.RenewLaws.{Placing}
use Rattle.watchtower_holds.proofs.tower_place.Given as goal

abbrev pub invariant-loop-i : goal.invariant-loop-i
invariant-loop-i l = Placing l.p l.h l.n l.i
