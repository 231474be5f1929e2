use Rattle.list_writer.proofs.JoinLaws.{Each}
use Rattle.list_writer.proofs.put_all.Given as goal

abbrev pub invariant-loop-part : goal.invariant-loop-part
invariant-loop-part l = Each (λ p. p.now) l.parts l.initial.out l.at l.part-index l.out l.next
