-- Numbers as bytes, the lowest byte first (RFC 0008: all numbers are little-endian).
use Rattle.std.specs.Prelude.{ℕ, zero, suc, ◌+◌, ◌*◌, ◌/◌, ◌%◌, ◌<◌, cond, List, [], ◌∷◌, length, take, drop, nat_le, slice_index}

-- the number that bytes stand for
unfoldable pub le : List ℕ → ℕ
le [] = 0
le (b ∷ s) = b + 256 * le s

-- the w lowest bytes of a number
unfoldable pub to_le : ℕ → ℕ → List ℕ
to_le zero n = []
to_le (suc w) n = n % 256 ∷ to_le w (n / 256)

-- each element is a byte: what every lent slice of bytes has
abbrev pub AllBytes : List ℕ → Type 0
AllBytes s = (i : ℕ) → slice_index s i < 256

-- the number of k bytes at `at`, and 0 where fewer stand there
unfoldable pub num_at : ℕ → List ℕ → ℕ → ℕ
num_at k s at = cond (nat_le (at + k) (length s)) (le (take k (drop at s))) 0

abbrev pub u32_at : List ℕ → ℕ → ℕ
u32_at = num_at 4

abbrev pub u64_at : List ℕ → ℕ → ℕ
u64_at = num_at 8
