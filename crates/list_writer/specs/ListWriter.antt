-- What a writer of lists puts (RFC 0008): items of another list, empty bytes for each that it lacks, and a last one where there is one.
use Rattle.std.specs.Prelude.{ℕ, zero, suc, cond, length, leb, ltb, flat_map}
use Rattle.std.specs.Borrow.{Bor}
use mathlib.Core.List.{List, [], ◌∷◌, ◌++◌, flatten}
use Rattle.arithmetic.specs.LittleEndian.{to_le}
use Rattle.molecule.specs.Layout.{span, item_of, item_count}
use Rattle.molecule.specs.Write.{put_at, put_end}

-- the bytes of stretches, one after the other
abbrev pub joined : List (Bor (List ℕ)) → List ℕ
joined parts = flat_map (λ p. p.now) parts

-- a fixvec of bytes
unfoldable pub bytes_item : List ℕ → List ℕ
bytes_item s = to_le 4 (length s) ++ s

-- item i of a list of unsized ones; empty bytes where it has fewer
unfoldable pub item_or : List ℕ → ℕ → List ℕ
item_or s i = cond (ltb i (item_count s)) (item_of s i) (bytes_item [])

-- k items, from the second on
unfoldable pub items_after_first : List ℕ → ℕ → List (List ℕ)
items_after_first s k = span (item_or s) 1 k

-- an item where there is one; none is empty
unfoldable pub if_any : List ℕ → List (List ℕ)
if_any [] = []
if_any (b ∷ s) = (b ∷ s) ∷ []

-- something where it is above 0
unfoldable pub if_positive : ℕ → List ℕ → List ℕ
if_positive zero s = []
if_positive (suc n) s = s

-- what a writer of a list does: all of it, where it fits a transaction (133,116 bytes) and the buffer, or nothing
unfoldable pub put_list : List ℕ → ℕ → List ℕ → List ℕ
put_list out at xs = cond (leb (length xs) 133116) (put_at out at xs) out

unfoldable pub put_list_end : List ℕ → ℕ → List ℕ → ℕ
put_list_end out at xs = cond (leb (length xs) 133116) (put_end out at xs) at
