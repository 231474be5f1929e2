-- The lines of an update, in the order of the rules' table (crates/rules/specs/Judge.antt), and what an update that passes them all carries.
-- proofs/LinesLaw.antt proves that `judge` refuses with the first line that fails, and accepts with these surpluses where none does.
use Rattle.std.specs.Prelude.{ℕ, ◌+◌, ◌-◌, cond, List}
use Rattle.units.specs.Units.{Figures}
use Rattle.lists.specs.Lists.{is_empty}
use Rattle.transaction.specs.Tx.{Tx}
use Rattle.transaction.specs.Cells.{Cell}
use Rattle.rules.specs.Surplus.{total, added, cell_capacity, amount_of, token_of}
use Rattle.rules.specs.Lines.{Line}
use Rattle.rules.specs.Judge.{Call, growth, ruling}

unfoldable pub lines : List ℕ → List ℕ → List ℕ → Call → List Line
lines lock type ours call = (ruling lock type ours call).lines

-- what an acceptance carries
abbrev pub surpluses : List ℕ → Tx → Tx → List Cell → Figures
surpluses type ours peer records = record {
  capacity = total cell_capacity records - (growth cell_capacity ours peer + total cell_capacity (added ours peer));
  token = cond (is_empty type) 0 (total (token_of type) records - (growth amount_of ours peer + total (token_of type) (added ours peer)));
}
