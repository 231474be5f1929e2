use Rattle.std.proofs.Common.{arith}
use Rattle.std.proofs.lemmas.Grind.{common_steps}
use Rattle.case_file.proofs.RecordLaws.{scan_stop, scan_end, scan_less}
use Rattle.case_file.proofs.items.CaseFile.measure.Goals as goal

pub returns-in_err-next-clause-value : goal.returns-in_err-next-clause-value
returns-in_err-next-clause-value c = grind (arith, common_steps, scan_stop c.loop-at.invariant c.loop-at-test.true)

pub loop-at-smaller : goal.loop-at-smaller
loop-at-smaller c = scan_less c.loop-at.invariant c.loop-at-test.true c.in_ok-next.ensures

pub returns-clause-value : goal.returns-clause-value
returns-clause-value c = scan_end c.loop-at.invariant c.loop-at-test.false
