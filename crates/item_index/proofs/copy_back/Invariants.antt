use Rattle.item_index.proofs.SortLaws.{Copying}
use Rattle.item_index.proofs.copy_back.Given as goal

abbrev pub invariant-loop-i : goal.invariant-loop-i
invariant-loop-i l = Copying l.t l.s l.i
