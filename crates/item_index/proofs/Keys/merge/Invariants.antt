use Rattle.item_index.specs.Keys.{keys_of}
use Rattle.item_index.proofs.MergeLaws.{Merging}
use Rattle.item_index.proofs.Keys.merge.Given as goal

abbrev pub invariant-loop-place : goal.invariant-loop-place
invariant-loop-place l = Merging (keys_of l.self) l.left l.right l.out l.i l.j l.place-index
