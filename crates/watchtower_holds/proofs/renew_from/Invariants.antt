use Rattle.watchtower_holds.proofs.HintLaws.{Going}
use Rattle.watchtower_holds.proofs.renew_from.Given as goal

abbrev pub invariant-loop-i : goal.invariant-loop-i
invariant-loop-i l = Going l.end l.cells l.h l.g l.n l.i l.initial.hints l.hints
