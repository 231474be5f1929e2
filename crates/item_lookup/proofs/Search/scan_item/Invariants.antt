use Rattle.molecule.specs.Layout.{fix_item}
use Rattle.lists.proofs.LoopLaws.{Seek}
use Rattle.item_lookup.specs.Lookup.{item_among}
use Rattle.item_lookup.proofs.Search.scan_item.Given as goal

abbrev pub invariant-loop-j : goal.invariant-loop-j
invariant-loop-j l = Seek l.x (fix_item l.self.theirs.now l.self.size) l.self.n l.j (item_among l.self l.i)
