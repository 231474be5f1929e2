-- A flat table in lent bytes (ours: docs/DECISIONS.md, "A lent table is bytes of a fixed form"): its count in four bytes, then rows of k bytes each.
-- It has room for n rows. Bytes behind the last row mean nothing and keep their value. A table that is full of rows is a list of sized items (RFC 0008),
-- so its rows are read as that list's items are.
use Rattle.std.specs.Prelude.{Option, Some, None, ℕ, suc, ◌+◌, ◌-◌, ◌*◌, Bool, cond, ◌&&◌, List, [], ◌∷◌, ◌++◌}
use mathlib.Core.List.{flatten}
use lib.{Dec.eqb, Dec.leb, Dec.ltb, ListN.length, ListN.take, ListN.drop}
use Rattle.arithmetic.specs.LittleEndian.{to_le}
use Rattle.molecule.specs.Layout.{part, word, fix_count, fix_item, fix_start, fix_items}
use Rattle.molecule.specs.Write.{put_at}
use Rattle.lists.specs.Lists.{eq_bytes}

-- ---- what lent bytes mean

-- a table with room for n rows of k bytes: exactly as long, and with a count of at most n
unfoldable pub is_table : ℕ → ℕ → List ℕ → Bool
is_table k n s = eqb (length s) (4 + k * n) && leb (word s 0) n

-- how many rows it says it has, but no more than it has bytes
abbrev pub row_count : List ℕ → ℕ
row_count s = fix_count s

-- the bytes of row i; of none past the last
abbrev pub row_at : ℕ → List ℕ → ℕ → List ℕ
row_at k s i = fix_item s k i

-- and where they start
abbrev pub row_start : ℕ → List ℕ → ℕ → ℕ
row_start k s i = fix_start s k i

abbrev pub rows_of : ℕ → List ℕ → List (List ℕ)
rows_of k s = fix_items k s

-- ---- a row looked for by some of its bytes

-- its bytes from `at` on begin with the key
unfoldable pub has_key : ℕ → List ℕ → List ℕ → Bool
has_key at key row = eq_bytes (take (length key) (drop at row)) key

-- the place of the first such row, where the first of them all has place i
unfoldable pub first_with : ℕ → List ℕ → ℕ → List (List ℕ) → Option ℕ
first_with at key i [] = None
first_with at key i (row ∷ rows) = cond (has_key at key row) (Some i) (first_with at key (suc i) rows)

unfoldable pub find : ℕ → ℕ → List ℕ → List ℕ → Option ℕ
find k at key s = first_with at key 0 (rows_of k s)

-- ---- what a call leaves of the lent bytes; all of them as they were where it has nothing to do

-- there is room for rows of k bytes at the first m places
unfoldable pub room_for : ℕ → List ℕ → ℕ → Bool
room_for k s m = leb (4 + k * m) (length s)

-- the bytes of row i put at its place
unfoldable pub with_row : ℕ → ℕ → List ℕ → List ℕ → List ℕ
with_row k i row s = put_at s (4 + k * i) row

unfoldable pub with_count : ℕ → List ℕ → List ℕ
with_count m s = put_at s 0 (to_le 4 m)

-- a row behind the last: it has k bytes, and there is room for it
unfoldable pub pushed : ℕ → List ℕ → List ℕ → List ℕ
pushed k row s = cond (eqb (length row) k && room_for k s (row_count s + 1)) (with_count (row_count s + 1) (with_row k (row_count s) row s)) s

-- another row in place of row i
unfoldable pub replaced : ℕ → ℕ → List ℕ → List ℕ → List ℕ
replaced k i row s = cond (ltb i (row_count s) && eqb (length row) k) (with_row k i row s) s

-- the rows behind row i
unfoldable pub rows_behind : ℕ → ℕ → List ℕ → List ℕ
rows_behind k i s = part s (4 + k * i + k) (4 + k * row_count s)

-- row i gone, and the rows behind it one place further up, in their order
unfoldable pub removed : ℕ → ℕ → List ℕ → List ℕ
removed k i s = cond (ltb i (row_count s) && room_for k s (row_count s)) (with_count (row_count s - 1) (with_row k i (rows_behind k i s) s)) s
