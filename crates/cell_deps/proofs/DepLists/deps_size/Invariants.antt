use Rattle.std.proofs.Common.{length}
use Rattle.list_writer.proofs.LoopLaws.{Sizing}
use Rattle.cell_deps.specs.DepLists.{placed_of}
use Rattle.cell_deps.proofs.DepLists.deps_size.Given as goal

abbrev pub invariant-loop-place : goal.invariant-loop-place
invariant-loop-place l = Sizing (placed_of l.self l.chosen) 0 (length l.chosen) l.place-index l.size
