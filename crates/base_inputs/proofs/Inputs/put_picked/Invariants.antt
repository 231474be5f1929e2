use Rattle.base_inputs.specs.BaseInputs.{picked}
use Rattle.list_writer.proofs.LoopLaws.{Writing}
use Rattle.base_inputs.proofs.Inputs.put_picked.Given as goal

abbrev pub invariant-loop-i : goal.invariant-loop-i
invariant-loop-i l = Writing (picked l.self.cells.now) 0 l.initial.out l.initial.next l.self.taken l.i l.out l.next
