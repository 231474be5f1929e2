-- Outputs with their data.
use Rattle.std.specs.Prelude.{ℕ, List, [], ◌∷◌, get_or, drop}
use Rattle.transaction.specs.Tx.{Tx}

-- an output's bytes with its data: a resolved record, or an output of a transaction with its data entry
pub record Cell : Type 0 where
  pub output : List ℕ
  pub cell_data : List ℕ

-- each output with its data; a missing data entry is empty
abbrev pub pair : List (List ℕ) → List (List ℕ) → List Cell
pair [] ds = []
pair (o ∷ os) ds = record { output = o; cell_data = get_or ds 0 [] } ∷ pair os (drop 1 ds)

abbrev pub cells : Tx → List Cell
cells t = pair t.outputs t.outputs_data
