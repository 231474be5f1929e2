-- The items of a dynvec or a table (RFC 0008): the size of the whole, the offset of each item, and the items without gaps; each number is
-- four bytes, the lowest first. `join xs` writes the items xs so, and `split s` are the items of s if s is so written.
use Rattle.std.specs.Prelude.{ℕ, zero, suc, ◌+◌, ◌-◌, ◌*◌, ◌/◌, ◌%◌, length, take, drop, leb, eqb}
use mathlib.Core.List.{List, [], ◌∷◌, ◌++◌, flatten}
use Rattle.std.proofs.Math.Option.{Option, some, map}
use Rattle.arithmetic.specs.LittleEndian.{le, to_le}
use Rattle.molecule.specs.Partial.{only, pick}

-- the numbers ns, four bytes each; and n such numbers read
unfoldable pub unwords : List ℕ → List ℕ
unwords [] = []
unwords (n ∷ ns) = to_le 4 n ++ unwords ns

unfoldable pub words : ℕ → List ℕ → List ℕ
words zero s = []
words (suc n) s = le (take 4 s) ∷ words n (drop 4 s)

-- where each of the items xs begins, the first at o
unfoldable pub offsets : ℕ → List (List ℕ) → List ℕ
offsets o [] = []
offsets o (x ∷ xs) = o ∷ offsets (o + length x) xs

-- the length of the header of n items
abbrev pub header : ℕ → ℕ
header n = 4 * suc n

unfoldable pub join : List (List ℕ) → List ℕ
join xs =
    let h = header (length xs) in
    unwords ((h + length (flatten xs)) ∷ offsets h xs) ++ flatten xs

-- items of one size need no offsets (a fixvec): how many there are, and the items
unfoldable pub fix_list : List (List ℕ) → List ℕ
fix_list xs = to_le 4 (length xs) ++ flatten xs

-- body, which begins at o, cut at each of the offsets ps: none may be before the one in front of it, or past the end
unfoldable pub cuts : ℕ → List ℕ → List ℕ → Option (List (List ℕ))
cuts o [] body = some (body ∷ [])
cuts o (p ∷ ps) body =
    only (leb o p)
    (only (leb (p - o) (length body))
    (map (λ xs. take (p - o) body ∷ xs) (cuts p ps (drop (p - o) body))))

-- the items of s, whose first begins at h, where the header ends: that says how many there are
unfoldable pub items : ℕ → List ℕ → Option (List (List ℕ))
items h s =
    only (leb 8 h)
    (only (eqb (h % 4) 0)
    (only (leb h (length s))
    (cuts h (words (h / 4 - 2) (drop 8 s)) (drop h s))))

unfoldable pub split : List ℕ → Option (List (List ℕ))
split s =
    only (leb 4 (length s))
    (only (eqb (le (take 4 s)) (length s))
    (pick (eqb (length s) 4) (some []) (items (le (take 4 (drop 4 s))) s)))
