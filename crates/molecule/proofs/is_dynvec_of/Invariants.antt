use Rattle.molecule.proofs.TestLaws.{Walked}
use Rattle.molecule.proofs.is_dynvec_of.Given as goal

abbrev pub invariant-loop-i : goal.invariant-loop-i
invariant-loop-i g l = Walked g.T.Entity.ty l.s l.n l.i l.from
