-- What stands at a place of bytes (RFC 0008). Everything here is total: of bytes that are in no form it says what the readers answer.
use Rattle.std.specs.Prelude.{ℕ, ◌+◌, ◌*◌, min, List, length}
use Rattle.arithmetic.specs.LittleEndian.{u32_at}
use Rattle.molecule.specs.Layout.{part, part_start, word}

-- the table or dynvec at a place, by the number of bytes that it says it has, and where it starts
unfoldable pub table_at : List ℕ → ℕ → List ℕ
table_at s at = part s at (at + u32_at s at)

unfoldable pub table_start : List ℕ → ℕ → ℕ
table_start s at = part_start s at (at + u32_at s at)

-- the fixvec of items of k bytes at a place, by the number of items that it says it has, and where it starts
unfoldable pub fixvec_at : List ℕ → ℕ → ℕ → List ℕ
fixvec_at s at k = part s at (at + (4 + k * u32_at s at))

unfoldable pub fixvec_start : List ℕ → ℕ → ℕ → ℕ
fixvec_start s at k = part_start s at (at + (4 + k * u32_at s at))

-- where field i of the table at a place starts: its offset on from there, and nowhere past the end
unfoldable pub field_at : List ℕ → ℕ → ℕ → ℕ
field_at s at i = min (length s) (at + word (table_at s at) (i + 1))

-- where field i of the raw transaction starts, and where the witnesses
abbrev pub raw_at : List ℕ → ℕ → ℕ
raw_at s i = field_at s (field_at s 0 0) i

abbrev pub witnesses_at : List ℕ → ℕ
witnesses_at s = field_at s 0 1
