-- The lent records (docs/RULES.md, "A peer's update arrives").
use Rattle.std.specs.Prelude.{ℕ, Bool, cond, List, length, eqb}
use Rattle.std.proofs.Math.Option.{Option, none, some}
use Rattle.molecule.specs.Molecule.{readable}
use Rattle.molecule.specs.Layout.{span, item_count, item_of}
use Rattle.transaction.specs.Ckb.{Records}
use Rattle.transaction.specs.Tx.{first_of, data_of}
use Rattle.transaction.specs.Cells.{Cell}

-- the cell of a record's bytes
abbrev pub record_cell : List ℕ → Cell
record_cell r = record { output = first_of r; cell_data = data_of r }

-- a cell, or none where it is not live
unfoldable pub record_at : List ℕ → ℕ → Option Cell
record_at s i = cond (eqb (length (item_of s i)) 0) none (some (record_cell (item_of s i)))

-- the lent records: whether all can be read, and what is read of them
pub record LentRecords : Type 0 where
  pub readable : Bool
  pub records : List (Option Cell)

unfoldable pub lent_at : List ℕ → LentRecords
lent_at s = record { readable = readable Records s; records = span (record_at s) 0 (item_count s) }
