-- What is read of output 0, in the rules' numbers (docs/RULES.md, the table's row "contribution").
use Rattle.std.specs.Prelude.{ℕ, [], Option, Some, None}
use Rattle.units.specs.declared.Tokens.{Tokens}
use Rattle.units.specs.Units.{token_count}
use Rattle.error.specs.Outcome.{Outcome, fine, refused, check, ◌>>◌}
use Rattle.transaction.specs.Tx.{Tx}
use Rattle.transaction.specs.Cells.{cells}
use Rattle.rules.specs.Surplus.{first, amount_of, has_amount}
use Rattle.rules.specs.Judge.{at_first}

-- an amount, or none that can be read
abbrev pub amount : Option Tokens → Outcome ℕ
amount (Some t) = fine (token_count t)
amount None = refused 5 []

-- the amount at output 0
unfoldable pub first_amount : Tx → Outcome ℕ
first_amount t = do
  check 5 (at_first has_amount (cells t))
  fine (first amount_of (cells t))
