-- Outputs with their data, from an index on (docs/RULES.md, "What the peer put in": "Added outputs are those from our output count on, never index 0").
use Rattle.std.specs.Prelude.{ℕ, ◌-◌, List}
use Rattle.molecule.specs.Layout.{span, item_count, item_of, entry_of}
use Rattle.transaction.specs.Cells.{Cell}
use Rattle.accounts.specs.declared.Added.{Added}

-- output i of a list of outputs, with its entry in a list of data
unfoldable pub cell_in : List ℕ → List ℕ → ℕ → Cell
cell_in outputs entries i = record { output = item_of outputs i; cell_data = entry_of entries i }

-- those from index k on
abbrev pub cells_from : List ℕ → List ℕ → ℕ → List Cell
cells_from outputs entries k = span (cell_in outputs entries) k (item_count outputs - k)

abbrev pub added_cells : Added → List Cell
added_cells a = cells_from a.outputs.now a.entries.now a.first
