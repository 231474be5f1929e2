use Rattle.std.proofs.Common.{length}
use Rattle.cell_deps.specs.DepLists.{distinct_of}
use Rattle.distinct_deps.specs.Indexed.{deps_in}
use Rattle.distinct_deps.proofs.DistinctLaws.{Gathering}
use Rattle.distinct_deps.proofs.IndexedLists.gather.Given as goal

abbrev pub invariant-loop-i : goal.invariant-loop-i
invariant-loop-i l = Gathering l.self.present.list.now l.self.udt.list.now l.self.lock.now l.self.extra.list.now (length l.initial.places) l.places l.count l.i-end l.i (distinct_of (deps_in l.self))
