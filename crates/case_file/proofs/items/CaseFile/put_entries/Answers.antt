use Rattle.std.proofs.Common.{arith}
use Rattle.case_file.proofs.ListLaws.{enter_room, enter_end}
use Rattle.case_file.proofs.items.CaseFile.put_entries.Goals as goal

pub put_entry-end-requires : goal.put_entry-end-requires
put_entry-end-requires c = enter_room c.loop-i.invariant (omega arith)

pub returns : goal.returns
returns c = enter_end c.loop-i.invariant (omega arith)
