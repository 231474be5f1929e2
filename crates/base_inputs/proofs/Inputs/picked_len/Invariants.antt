use Rattle.base_inputs.specs.BaseInputs.{picked}
use Rattle.list_writer.proofs.LoopLaws.{Sizing}
use Rattle.base_inputs.proofs.Inputs.picked_len.Given as goal

abbrev pub invariant-loop-i : goal.invariant-loop-i
invariant-loop-i l = Sizing (picked l.self.cells.now) 0 l.self.taken l.i l.n
