-- Where the parts of a dynvec, a table or a fixvec stand in its bytes (RFC 0008). Everything here is total: of bytes that are in no form it says
-- what the readers answer.
use Rattle.std.specs.Prelude.{ℕ, zero, suc, ◌+◌, ◌-◌, ◌*◌, ◌/◌, min, List, [], ◌∷◌, Bool, false, cond, ◌&&◌, length, take, drop, ltb, eqb}
use Rattle.std.proofs.Math.Option.{Option, none, some}
use Rattle.arithmetic.specs.LittleEndian.{u32_at}
use Rattle.molecule.specs.Items.{split}

-- the bytes from `from` up to `to`, as many of them as there are
unfoldable pub part : List ℕ → ℕ → ℕ → List ℕ
part s from to = take (to - from) (drop from s)

-- where in s they start, which is nowhere past its end
unfoldable pub part_start : List ℕ → ℕ → ℕ → ℕ
part_start s from to = min from (min to (length s))

-- k bytes on from the pointer p, in the same object
unfoldable pub inside : ℕ × ℕ → ℕ → ℕ × ℕ
inside p k = (p.0, p.1 + k)

-- the i-th number of four bytes
unfoldable pub word : List ℕ → ℕ → ℕ
word s i = u32_at s (4 * i)

-- k values of f from i on
unfoldable pub span : {A : Type 0} → (ℕ → A) → ℕ → ℕ → List A
span f i zero = []
span f i (suc k) = f i ∷ span f (suc i) k

-- ---- a dynvec or table of n items

unfoldable pub splits_into : Option (List (List ℕ)) → ℕ → Bool
splits_into none n = false
splits_into (some xs) n = eqb (length xs) n

-- s is a header and n items without gaps
unfoldable pub has_items : List ℕ → ℕ → Bool
has_items s n = splits_into (split s) n

-- where item i of n starts, which is where the one before it ends; the last ends with the bytes
unfoldable pub start : List ℕ → ℕ → ℕ → ℕ
start s n i = cond (ltb i n) (word s (i + 1)) (length s)

-- a header of n items: its size, and n starts, of which the first follows the header
unfoldable pub has_header : List ℕ → ℕ → Bool
has_header s n = ltb n (length s / 4) && eqb (word s 0) (length s) && eqb (start s n 0) (4 + 4 * n)

unfoldable pub field_of : List ℕ → ℕ → ℕ → List ℕ
field_of s n i = part s (start s n i) (start s n (i + 1))

unfoldable pub field_start : List ℕ → ℕ → ℕ → ℕ
field_start s n i = part_start s (start s n i) (start s n (i + 1))

-- how many items a dynvec says it has in its first offset (an empty one is its size alone, and has none), but no more than it has numbers of four
-- bytes: so a count that bytes only claim is no longer than they are, and one that is cut off here has no header
unfoldable pub item_count : List ℕ → ℕ
item_count s = min (word s 1 / 4 - 1) (length s / 4)

unfoldable pub item_of : List ℕ → ℕ → List ℕ
item_of s i = field_of s (item_count s) i

unfoldable pub item_start : List ℕ → ℕ → ℕ
item_start s i = field_start s (item_count s) i

abbrev pub items_of : List ℕ → List (List ℕ)
items_of s = span (item_of s) 0 (item_count s)

-- ---- a fixvec of items of k bytes

-- how many items it says it has, but no more than it has bytes
unfoldable pub fix_count : List ℕ → ℕ
fix_count s = min (word s 0) (length s)

-- past the bytes an item is empty (`fix_past`)
unfoldable pub fix_item : List ℕ → ℕ → ℕ → List ℕ
fix_item s k i = cond (ltb i (word s 0)) (part s (4 + k * i) (4 + k * i + k)) []

unfoldable pub fix_start : List ℕ → ℕ → ℕ → ℕ
fix_start s k i = cond (ltb i (word s 0)) (part_start s (4 + k * i) (4 + k * i + k)) 0

abbrev pub fix_items : ℕ → List ℕ → List (List ℕ)
fix_items k s = span (fix_item s k) 0 (fix_count s)

-- ---- a fixvec of bytes, and a dynvec of such

unfoldable pub content : List ℕ → List ℕ
content s = part s 4 (length s)

unfoldable pub content_start : List ℕ → ℕ
content_start s = part_start s 4 (length s)

unfoldable pub entry_of : List ℕ → ℕ → List ℕ
entry_of s i = content (item_of s i)

unfoldable pub entry_start : List ℕ → ℕ → ℕ
entry_start s i = item_start s i + content_start (item_of s i)

abbrev pub entries_of : List ℕ → List (List ℕ)
entries_of s = span (entry_of s) 0 (item_count s)
