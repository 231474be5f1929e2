use Rattle.rules.specs.Judge.{of_outputs, tally}
use Rattle.rules.specs.Lines.{verdict}
use Rattle.accounts.specs.Added.{cell_in, added_cells}
use Rattle.accounts.proofs.TokenLaws.{Tally}
use Rattle.accounts.proofs.Added.tokens.Given as goal

abbrev pub invariant-loop-i : goal.invariant-loop-i
invariant-loop-i l = Tally l.udt (cell_in l.self.outputs.now l.self.entries.now) l.n l.i l.sum (verdict (tally of_outputs l.udt 0 (added_cells l.self)))
