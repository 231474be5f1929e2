-- The inputs of a base transaction, item by item and in bytes (docs/RULES.md, "Our own side": "present inputs then picked, with since 0"; the Rust's
-- `assemble_base_tx`).
use Rattle.std.specs.Prelude.{ℕ, ◌+◌, List, ◌++◌, length}
use mathlib.Core.List.{flatten}
use Rattle.arithmetic.specs.LittleEndian.{to_le}
use Rattle.molecule.specs.Layout.{span, item_of, fix_items}
use Rattle.transaction.specs.Tx.{first_of}
use Rattle.molecule.specs.Items.{fix_list}
use Rattle.base_inputs.specs.declared.Inputs.{Inputs}

-- the input that spends a picked cell: since 0, and its out point
unfoldable pub picked_input : List ℕ → List ℕ
picked_input cell = to_le 8 0 ++ first_of cell

unfoldable pub picked : List ℕ → ℕ → List ℕ
picked cells i = picked_input (item_of cells i)

-- the present inputs, then those of the first k cells
unfoldable pub input_list : List ℕ → List ℕ → ℕ → List (List ℕ)
input_list present cells k = fix_items 44 present ++ span (picked cells) 0 k

-- how long the inputs are: their count, the present ones, and the picked ones
abbrev pub inputs_size : List ℕ → List ℕ → ℕ → ℕ
inputs_size present cells k = 4 + length (flatten (fix_items 44 present)) + length (flatten (span (picked cells) 0 k))

-- the inputs as the code is lent them, in bytes
abbrev pub inputs_bytes : Inputs → List ℕ
inputs_bytes x = fix_list (input_list x.present.now x.cells.now x.taken)
