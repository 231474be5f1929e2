use Rattle.hold_records.specs.Inner.{is_kept}
use Rattle.hold_records.proofs.LoopLaws.{Keeping}
use Rattle.held_bytes.specs.HeldBytes.{held_of}
use Rattle.held_bytes.proofs.read_kept.Given as goal

abbrev pub invariant-loop-i : goal.invariant-loop-i
invariant-loop-i l = Keeping (is_kept l.rule) (held_of l.s) l.g l.n l.to l.i
