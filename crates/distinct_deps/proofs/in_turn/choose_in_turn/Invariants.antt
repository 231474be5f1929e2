use Rattle.std.proofs.Common.{length}
use Rattle.cell_deps.specs.DepLists.{distinct_of}
use Rattle.distinct_deps.proofs.ChooseLaws.{Choosing}
use Rattle.distinct_deps.proofs.in_turn.choose_in_turn.Given as goal

abbrev pub invariant-loop-i : goal.invariant-loop-i
invariant-loop-i l = Choosing l.lists.present.now l.lists.udt.now l.lists.lock.now l.lists.extra.now (length l.initial.places) (length l.initial.sorted) l.places l.sorted l.count l.i-end l.i (distinct_of l.lists)
