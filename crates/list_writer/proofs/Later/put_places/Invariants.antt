use Rattle.list_writer.specs.ListWriter.{item_or}
use Rattle.list_writer.proofs.LoopLaws.{Placing}
use Rattle.list_writer.proofs.Later.put_places.Given as goal

abbrev pub invariant-loop-i : goal.invariant-loop-i
invariant-loop-i l = Placing (item_or l.self.list.now) 1 l.initial.place l.initial.out l.initial.next l.self.count l.i l.out l.next l.place
