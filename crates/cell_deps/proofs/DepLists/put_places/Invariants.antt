use Rattle.std.proofs.Common.{length}
use Rattle.list_writer.proofs.LoopLaws.{Writing}
use Rattle.cell_deps.specs.DepLists.{placed_of}
use Rattle.cell_deps.proofs.DepLists.put_places.Given as goal

abbrev pub invariant-loop-place : goal.invariant-loop-place
invariant-loop-place l = Writing (placed_of l.self l.chosen) 0 l.initial.out l.at (length l.chosen) l.place-index l.out l.to
