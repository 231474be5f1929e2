use Rattle.molecule.specs.Layout.{fix_item, span}
use Rattle.lists.proofs.LoopLaws.{Among}
use Rattle.item_lookup.specs.Lookup.{rest_among}
use Rattle.item_lookup.proofs.Search.index_all.Given as goal

abbrev pub invariant-loop-i : goal.invariant-loop-i
invariant-loop-i l = Among (fix_item l.self.ours.now l.self.size) (span (fix_item l.self.theirs.now l.self.size) 0 l.self.n) l.self.m l.i (rest_among l.self l.from)
