use Rattle.std.proofs.Common.{rules}
use Rattle.hold_records.proofs.WriteLaws.{all_listed}
use Rattle.hold_records.proofs.list_cells.Goals as goal

pub returns-clause-out_after_2 : goal.returns-clause-out_after_2
returns-clause-out_after_2 c = all_listed c.args.h c.args.out.now (search rules) c.put_cells.ensures.value c.put_cells.ensures.listed
