use Rattle.std.proofs.Common.{length}
use Rattle.item_index.proofs.Keys.+sort.Given as goal

abbrev pub decreases-sort : goal.decreases-sort
decreases-sort l = length l.s.now
