use Rattle.rules.specs.Surplus.{total, cell_capacity}
use Rattle.accounts.specs.Added.{cell_in, added_cells}
use Rattle.accounts.proofs.CapacityLaws.{Sums}
use Rattle.accounts.proofs.Added.capacity.Given as goal

abbrev pub invariant-loop-i : goal.invariant-loop-i
invariant-loop-i l = Sums (cell_in l.self.outputs.now l.self.entries.now) l.n l.i l.sum (total cell_capacity (added_cells l.self))
