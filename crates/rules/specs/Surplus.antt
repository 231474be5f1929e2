-- Figures of cells, added outputs, and the surplus in whole numbers (docs/RULES.md, "What the peer put in").
use Rattle.std.specs.Prelude.{ℕ, ◌+◌, max, Bool, cond, List, [], ◌∷◌, length, take, drop, leb, ℤ, pos, ◌-ℤ◌}
use Rattle.arithmetic.specs.LittleEndian.{le}
use Rattle.lists.specs.Lists.{eq_bytes, is_empty}
use Rattle.transaction.specs.Tx.{Tx, type_of}
use Rattle.transaction.specs.Tx as tx
use Rattle.transaction.specs.Cells.{Cell, cells}

-- the sum of a figure over cells
unfoldable pub total : (Cell → ℕ) → List Cell → ℕ
total f [] = 0
total f (c ∷ cs) = f c + total f cs

-- a figure at output 0; absent counts 0
unfoldable pub first : (Cell → ℕ) → List Cell → ℕ
first f [] = 0
first f (c ∷ cs) = f c

-- Added outputs are those from our output count on, never index 0.
abbrev pub added : Tx → Tx → List Cell
added ours peer = drop (max 1 (length ours.outputs)) (cells peer)

-- What is counted: at output 0, and of a record or an added output.
pub record Measure : Type 0 where
  pub at_zero : Cell → ℕ
  pub of : Cell → ℕ

-- The surplus of a later transaction against an earlier one over records, in whole numbers.
unfoldable pub surplus : Measure → Tx → Tx → List Cell → ℤ
surplus m earlier later records =
    pos (total m.of records) -ℤ (pos (first m.at_zero (cells later)) -ℤ pos (first m.at_zero (cells earlier))) -ℤ pos (total m.of (added earlier later))

-- ---- capacity

unfoldable pub cell_capacity : Cell → ℕ
cell_capacity c = tx.capacity_of c.output

abbrev pub capacities : Measure
capacities = record { at_zero = cell_capacity; of = cell_capacity }

-- ---- tokens

unfoldable pub has_amount : Cell → Bool
has_amount c = leb 16 (length c.cell_data)

-- a missing or short amount counts 0
unfoldable pub amount_of : Cell → ℕ
amount_of c = cond (has_amount c) (le (take 16 c.cell_data)) 0

unfoldable pub is_of : List ℕ → Cell → Bool
is_of type c = eq_bytes type (type_of c.output)

abbrev pub token_of : List ℕ → Cell → ℕ
token_of type c = cond (is_of type c) (amount_of c) 0

-- the amount at output 0 is read whatever its type is
abbrev pub tokens : List ℕ → Measure
tokens type = record { at_zero = amount_of; of = token_of type }

abbrev pub nothing : Measure
nothing = record { at_zero = λ _. 0; of = λ _. 0 }

-- all is 0 when untyped
abbrev pub expected : List ℕ → Measure
expected type = cond (is_empty type) nothing (tokens type)
