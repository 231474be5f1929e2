use Rattle.list_writer.proofs.JoinLaws.{Fitted}
use Rattle.list_writer.proofs.has_room.Given as goal

abbrev pub invariant-loop-part : goal.invariant-loop-part
invariant-loop-part l = Fitted l.parts l.room l.part-index l.left
