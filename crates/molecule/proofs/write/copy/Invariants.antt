use Rattle.molecule.proofs.WriteLaws.{Copying}
use Rattle.molecule.proofs.write.copy.Given as goal

abbrev pub invariant-loop-i : goal.invariant-loop-i
invariant-loop-i l = Copying l.initial.out l.at l.src l.out l.i
