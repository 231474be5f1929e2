use Rattle.verdict_line.specs.VerdictLine.{hex}
use Rattle.verdict_line.proofs.DigitLaws.{Filling}
use Rattle.verdict_line.proofs.put_hex.Given as goal

abbrev pub invariant-loop-i : goal.invariant-loop-i
invariant-loop-i l = Filling 16 (hex 16 l.x) (hex l.i l.left) l.bytes l.i
