use Rattle.hold_records.specs.Inner.{is_kept}
use Rattle.hold_records.proofs.LoopLaws.{Keeping}
use Rattle.hold_records.proofs.keep.Given as goal

abbrev pub invariant-loop-i : goal.invariant-loop-i
invariant-loop-i l = Keeping (is_kept l.rule) l.h l.g l.n l.to l.i
