use Rattle.std.proofs.Common.{◌≡◌, ◌-◌, arith}
use Rattle.case_file.proofs.ListLaws.{offset_none, offset_end}
use Rattle.case_file.proofs.items.CaseFile.put_offsets.Goals as goal

pub loop-i-init : goal.loop-i-init
loop-i-init c = let e : c.args.n - 0 ≡ c.args.n = omega arith in rw e (offset_none _ _ _ _ _ _ c.requires)

pub returns : goal.returns
returns c = offset_end c.loop-i.invariant (omega arith)
