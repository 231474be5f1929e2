use Rattle.arithmetic.specs.LittleEndian.{to_le}
use Rattle.list_writer.proofs.JoinLaws.{Each}
use Rattle.list_writer.proofs.put_words.Given as goal

abbrev pub invariant-loop-x : goal.invariant-loop-x
invariant-loop-x l = Each (to_le 4) l.words l.initial.out l.at l.x-index l.out l.next
