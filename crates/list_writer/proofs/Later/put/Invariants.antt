use Rattle.list_writer.specs.ListWriter.{item_or}
use Rattle.list_writer.proofs.LoopLaws.{Writing}
use Rattle.list_writer.proofs.Later.put.Given as goal

abbrev pub invariant-loop-i : goal.invariant-loop-i
invariant-loop-i l = Writing (item_or l.self.list.now) 1 l.initial.out l.initial.next l.self.count l.i l.out l.next
