use Rattle.std.proofs.Common.{rules}
use Rattle.case_file.proofs.ItemLaws.{zeros-is}
use Rattle.case_file.proofs.items.all_zero.Goals as goal

pub returns : goal.returns
returns c = zeros-is c.args.s.now c.all.result (search rules)
