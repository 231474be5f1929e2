use Rattle.std.proofs.Common.{◌-◌}
use Rattle.verdict_line.proofs.LineLaws.{Spacing}
use Rattle.verdict_line.proofs.put_values.Given as goal

abbrev pub invariant-loop-i : goal.invariant-loop-i
invariant-loop-i l = Spacing l.refusal l.initial.out l.at l.out l.to l.i
