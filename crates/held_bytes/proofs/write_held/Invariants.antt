use Rattle.table_bytes.proofs.LoopLaws.{Putting}
use Rattle.held_bytes.specs.HeldBytes.{place_for}
use Rattle.held_bytes.proofs.write_held.Given as goal

abbrev pub invariant-loop-i : goal.invariant-loop-i
invariant-loop-i l = Putting place_for l.h.records l.h.count l.n l.initial.s l.initial.to l.i l.s l.to
