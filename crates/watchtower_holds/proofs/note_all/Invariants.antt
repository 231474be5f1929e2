use Rattle.watchtower_holds.proofs.HintLaws.{Noting}
use Rattle.watchtower_holds.proofs.note_all.Given as goal

abbrev pub invariant-loop-i : goal.invariant-loop-i
invariant-loop-i l = Noting l.h l.n l.i l.initial.hints l.hints
