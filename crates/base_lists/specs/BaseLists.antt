-- The lists of a base transaction, item by item and in bytes (docs/RULES.md, "Our own side"; the Rust's `assemble_base_tx`). Items are packed, as
-- they stand in a transaction.
use Rattle.std.specs.Prelude.{ℕ, zero, suc, Bool, cond, List, [], ◌∷◌, ◌++◌, replicate}
use Rattle.arithmetic.specs.LittleEndian.{to_le}
use Rattle.molecule.specs.Items.{join}
use Rattle.cell_output.specs.CellOutput.{cell_output}
use Rattle.list_writer.specs.ListWriter.{bytes_item, items_after_first, if_any, if_positive}

-- ---- items

-- a token amount as a cell's data
abbrev pub amount_item : ℕ → List ℕ
amount_item n = bytes_item (to_le 16 n)

-- the placeholder of a signature: witness args, 85 bytes, whose lock has 65 zero bytes, and which have nothing else
unfoldable pub placeholder : List ℕ
placeholder = bytes_item (join (bytes_item (replicate 65 0) ∷ [] ∷ [] ∷ []))

-- ---- lists

-- the funding cell, k present outputs after the first, and the change, if it has a capacity
unfoldable pub output_list : ℕ → List ℕ → List ℕ → List ℕ → ℕ → ℕ → List ℕ → List (List ℕ)
output_list capacity lock udt present k change source =
    cell_output capacity lock udt ∷ items_after_first present k ++ if_any (if_positive change (cell_output change source udt))

-- the data of each: the funding cell's tokens, if it is typed; "each output's data, empty if missing"; the change, if any
unfoldable pub data_list : Bool → ℕ → List ℕ → ℕ → ℕ → List (List ℕ)
data_list typed tokens present k change =
    cond typed (amount_item tokens) (bytes_item []) ∷ items_after_first present k ++ if_any (if_positive change (amount_item change))

-- "Witness 0 is the placeholder; if tokens were picked behind present inputs, empty witnesses follow up to the first picked input, which has the
-- placeholder too"
unfoldable pub witness_list : ℕ → ℕ → List (List ℕ)
witness_list zero k = placeholder ∷ []
witness_list (suc n) zero = placeholder ∷ []
witness_list (suc n) (suc k) = placeholder ∷ replicate n (bytes_item []) ++ (placeholder ∷ [])
