use Rattle.table_bytes.proofs.LoopLaws.{Reading}
use Rattle.held_bytes.specs.HeldBytes.{hold_of}
use Rattle.held_bytes.proofs.read_held.Given as goal

abbrev pub invariant-loop-i : goal.invariant-loop-i
invariant-loop-i l = Reading hold_of l.s 256 l.g.records l.i
