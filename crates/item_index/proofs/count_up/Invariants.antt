use Rattle.std.proofs.Common.{length}
use Rattle.item_index.proofs.SortLaws.{Numbering}
use Rattle.item_index.proofs.count_up.Given as goal

abbrev pub invariant-loop-i : goal.invariant-loop-i
invariant-loop-i l = Numbering (length l.initial.s) l.s l.i
