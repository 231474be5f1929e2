use Rattle.std.proofs.Common.{◌-◌}
use mathlib.Core.List.{flatten}
use Rattle.case_file.specs.Walk.{walk}
use Rattle.case_file.proofs.ListLaws.{Entering}
use Rattle.case_file.proofs.items.CaseFile.put_entries.Given as goal

abbrev pub invariant-loop-i : goal.invariant-loop-i
invariant-loop-i l = Entering (flatten (walk l.n l.self.bytes.now l.from)) l.initial.out l.to l.self.bytes.now l.out l.end l.at (l.n - l._i)
