use Rattle.molecule.proofs.TestLaws.{Ordered}
use Rattle.molecule.proofs.has_items.Given as goal

abbrev pub invariant-loop-i : goal.invariant-loop-i
invariant-loop-i l = Ordered l.s l.n l.i l.from
