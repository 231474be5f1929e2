use Rattle.std.proofs.Common.{◌*◌}
use Rattle.item_index.proofs.OrderLaws.{Alike}
use Rattle.item_index.proofs.ordering.compare_words.Given as goal

abbrev pub invariant-loop-k : goal.invariant-loop-k
invariant-loop-k l = Alike l.a l.b (8 * l.k)
