use Rattle.std.proofs.Common.{◌≡◌}
use Rattle.verdict_line.specs.VerdictLine.{digits, decimal}
use Rattle.verdict_line.proofs.DigitLaws.{Filling}
use Rattle.verdict_line.proofs.put_decimal.Given as goal

abbrev pub invariant-loop-i : goal.invariant-loop-i
invariant-loop-i l = (l.out ≡ l.initial.out) × Filling 20 (decimal l.x) (digits l.i l.left) l.bytes l.i
