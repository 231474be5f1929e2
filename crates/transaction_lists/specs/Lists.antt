-- The six lists of a transaction (RFC 0019) by number (ours: docs/DECISIONS.md, "The C interface", "Reading by number"): of bytes that are no transaction, and
-- of a list that there is not, there is nothing.
use Rattle.std.specs.Prelude.{ℕ, ◌+◌, cond, List, [], ◌∷◌}
use lib.{Dec.ltb, ListN.length, ListN.get_or}
use Rattle.molecule.specs.Layout.{field_start, fix_start, item_start, entry_start}
use Rattle.molecule.specs.Molecule.{readable}
use Rattle.transaction.specs.Ckb.{Transaction}
use Rattle.transaction.specs.Tx.{Tx, tx_at, raw_field, raw_start, witnesses_of}

unfoldable pub list_of : Tx → ℕ → List (List ℕ)
list_of tx list = get_or (tx.cell_deps ∷ tx.header_deps ∷ tx.inputs ∷ tx.outputs ∷ tx.outputs_data ∷ tx.witnesses ∷ []) list []

unfoldable pub list_in : List ℕ → ℕ → List (List ℕ)
list_in s list = cond (readable Transaction s) (list_of (tx_at s) list) []

-- the item at a place, and no bytes past the last
abbrev pub item_in : List ℕ → ℕ → ℕ → List ℕ
item_in s list i = get_or (list_in s list) i []

-- where in s it starts; where there is none, at the start
unfoldable pub start_in : List ℕ → ℕ → ℕ → ℕ
start_in s list i =
    get_or
    ((raw_start s 1 + fix_start (raw_field s 1) 37 i)
    ∷ (raw_start s 2 + fix_start (raw_field s 2) 32 i)
    ∷ (raw_start s 3 + fix_start (raw_field s 3) 44 i)
    ∷ (raw_start s 4 + item_start (raw_field s 4) i)
    ∷ (raw_start s 5 + entry_start (raw_field s 5) i)
    ∷ (field_start s 2 1 + entry_start (witnesses_of s) i)
    ∷ [])
    list 0

unfoldable pub place_in_bytes : List ℕ → ℕ → ℕ → ℕ
place_in_bytes s list i = cond (ltb i (length (list_in s list))) (start_in s list i) 0
