use Rattle.std.proofs.Common.{◌-◌}
use Rattle.molecule.specs.Items.{unwords, offsets}
use Rattle.case_file.specs.Walk.{walk}
use Rattle.case_file.proofs.ListLaws.{Offsetting}
use Rattle.case_file.proofs.items.CaseFile.put_offsets.Given as goal

abbrev pub invariant-loop-i : goal.invariant-loop-i
invariant-loop-i l = Offsetting (unwords (offsets l.first (walk l.n l.self.bytes.now l.from))) l.initial.out l.to l.self.bytes.now l.out l.end l.at (l.n - l._i) l.offset
