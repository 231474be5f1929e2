use Rattle.std.proofs.Common.{◌-◌}
use Rattle.std.proofs.Common.{length}
use Rattle.case_file.proofs.RecordLaws.{Scanning}
use Rattle.case_file.proofs.items.CaseFile.measure.Given as goal

abbrev pub invariant-loop-at : goal.invariant-loop-at
invariant-loop-at l = Scanning l.self.bytes.now l.from l.at l.count l.size

abbrev pub decreases-loop-at : goal.decreases-loop-at
decreases-loop-at l = length l.self.bytes.now - l.at
