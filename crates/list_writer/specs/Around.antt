-- A list of unsized items (RFC 0008: a dynvec), as it is sized and written: an item of its own, the later items of another list, and a last one (docs/RULES.md,
-- "Our own side": "funding cell, present outputs after 0, change; each output's data").
use Rattle.std.specs.Prelude.{ℕ, ◌+◌, ◌*◌, ◌≤◌, min, Bool, ◌&&◌, length, leb}
use mathlib.Core.List.{List, ◌∷◌, ◌++◌, flatten}
use Rattle.arithmetic.specs.LittleEndian.{to_le}
use Rattle.molecule.specs.Items.{join, unwords, offsets}
use Rattle.list_writer.specs.ListWriter.{items_after_first, if_any, if_positive}

-- the list in bytes; no last one where `last` is empty
unfoldable pub around : List ℕ → List ℕ → ℕ → List ℕ → List ℕ
around first s k last = join (first ∷ items_after_first s k ++ if_any last)

-- its length and that of its header, by the lengths of its first item and its last
abbrev pub head_size : ℕ → ℕ → ℕ
head_size k last = 8 + 4 * k + min (4 * last) 4

abbrev pub list_size : ℕ → List ℕ → ℕ → ℕ → ℕ
list_size first s k last = head_size k last + first + length (flatten (items_after_first s k)) + last

-- where each of the items xs begins, the first at o, as four bytes each
unfoldable pub offset_words : ℕ → List (List ℕ) → List ℕ
offset_words o xs = unwords (offsets o xs)

-- its header: the size of the whole, and where each item begins
unfoldable pub head_of : ℕ → List ℕ → ℕ → ℕ → List ℕ
head_of first s k last =
    to_le 4 (list_size first s k last)
    ++ to_le 4 (head_size k last)
    ++ offset_words (head_size k last + first) (items_after_first s k)
    ++ if_positive last (to_le 4 (head_size k last + first + length (flatten (items_after_first s k))))

-- n bytes fit a transaction, and a buffer of `len` bytes from `at` on
unfoldable pub fits_at : ℕ → ℕ → ℕ → Bool
fits_at n at len = leb n 133116 && leb (at + n) len

abbrev pub Room : List ℕ → ℕ → ℕ → Type 0
Room out at n = (at + n ≤ length out) × (n ≤ 133116)
