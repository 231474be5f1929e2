-- What the records bring in (docs/RULES.md, "A peer's update arrives", the row "records", and "What the peer put in").
use Rattle.std.specs.Prelude.{ℕ, List}
use Rattle.units.specs.Units.{shannon_count, token_count}
use Rattle.error.specs.Outcome.{Outcome, fine, ◌>>=◌, told_by}
use Rattle.transaction.specs.Tx.{Tx}
use Rattle.transaction.specs.Cells.{Cell}
use Rattle.rules.specs.Records.{LentRecords}
use Rattle.rules.specs.Surplus.{total, cell_capacity}
use Rattle.rules.specs.Lines.{verdict}
use Rattle.rules.specs.Judge.{of_records, tally, spent}
use Rattle.accounts.specs.declared.Brought as accounts

-- the sum of capacities, and that of tokens, if there is one
pub record Brought : Type 0 where
  pub capacity : ℕ
  pub token : Outcome ℕ

-- what cells bring in, in capacity and in the expected token; untyped, the latter means nothing
abbrev pub brought : List ℕ → List Cell → Brought
brought type cells = record { capacity = total cell_capacity cells; token = verdict (tally of_records type 0 cells) }

-- the same in numbers
abbrev pub brought_by : accounts.Brought → Brought
brought_by b = record { capacity = shannon_count b.capacity; token = told_by token_count b.token }

-- what the cells that the added inputs spend bring in
unfoldable pub brings : List ℕ → List ℕ → Tx → Tx → LentRecords → Outcome Brought
brings source type ours peer lent = do
  cells ← verdict (spent source ours peer lent)
  fine (brought type cells)
