use Rattle.list_writer.specs.ListWriter.{item_or}
use Rattle.list_writer.proofs.LoopLaws.{Sizing}
use Rattle.list_writer.proofs.Later.len.Given as goal

abbrev pub invariant-loop-i : goal.invariant-loop-i
invariant-loop-i l = Sizing (item_or l.self.list.now) 1 l.self.count l.i l.n
