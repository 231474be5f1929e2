-- What an entry owes for each acceptance, so that the law over lists of updates (docs/RULES.md, "The three demands", 3) holds of it: a step (ours:
-- docs/DECISIONS.md, "A peer's update").
use Rattle.std.specs.Prelude.{◌≡◌, ℕ, ◌+◌, List, [], length, drop}
use Rattle.lists.specs.Prefix.{Prefix}
use Rattle.transaction.specs.Tx.{Tx}
use Rattle.transaction.specs.Cells.{Cell, cells}
use Rattle.molecule.specs.Partial.{All}
use Rattle.rules.specs.Surplus.{total, first, added, Measure}

abbrev pub with_data : List ℕ → List ℕ → Cell
with_data o d = record { output = o; cell_data = d }

-- A cell without data counts the same whatever data entry comes to it later.
abbrev pub Settled : (Cell → ℕ) → Cell → Type 0
Settled f c = c.cell_data ≡ [] → (d : List ℕ) → f (with_data c.output d) ≡ f c

-- inputs, outputs after 0 and their data stand as they were, and more may follow
pub record Extends (a b : Tx) : Type 0 where
  pub inputs : Prefix a.inputs b.inputs
  pub rest : Prefix (drop 1 a.outputs) (drop 1 b.outputs)
  pub entries : Prefix (drop 1 a.outputs_data) (drop 1 b.outputs_data)

-- The account of one measure of an accepted update from a to b over its records, where `paid` is the surplus that it carries.
pub record Balanced (m : Measure) (a b : Tx) (records : List Cell) (paid : ℕ) : Type 0 where
  pub settled : All (Settled m.of) (added a b)
  pub balance : total m.of records + first m.at_zero (cells a) ≡ paid + first m.at_zero (cells b) + total m.of (added a b)

-- What such an update brings.
pub record Step (m : Measure) (a b : Tx) (records : List Cell) (paid : ℕ) : Type 0 where
  pub extends : Extends a b
  pub inputs : length b.inputs ≡ length a.inputs + length records
  pub account : Balanced m a b records paid
