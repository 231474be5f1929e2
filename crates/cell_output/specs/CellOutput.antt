-- An output (RFC 0019): the table of capacity, lock, and type or nothing.
use Rattle.std.specs.Prelude.{ℕ, ◌+◌, List, [], ◌∷◌, ◌++◌}
use Rattle.arithmetic.specs.LittleEndian.{to_le}
use Rattle.molecule.specs.Items.{join, unwords}

unfoldable pub cell_output : ℕ → List ℕ → List ℕ → List ℕ
cell_output capacity lock type = join (to_le 8 capacity ∷ lock ∷ type ∷ [])

-- what stands before the lock, by the lengths of lock and type: the size of the whole, where each field starts, and the capacity
unfoldable pub output_head : ℕ → ℕ → ℕ → List ℕ
output_head capacity lock type = unwords ((24 + lock + type) ∷ 16 ∷ 24 ∷ (24 + lock) ∷ []) ++ to_le 8 capacity
