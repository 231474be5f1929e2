-- An amount is a number of 128 bits (docs/RULES.md, "The bytes underneath"), in 16 bytes (RFC 0025: the first 16 of a token cell's data).
use Rattle.std.specs.Prelude.{ℕ, ◌+◌, ◌-◌, ◌^◌, cond, List, length, take, nat_le, nat_lt, Option, Some, None}
use Rattle.arithmetic.specs.LittleEndian.{le}

-- the sum, where it is below 2^128
unfoldable pub sum : ℕ → ℕ → Option ℕ
sum a b = cond (nat_lt (a + b) (2 ^ 128)) (Some (a + b)) None

-- the difference, where it is not below 0
unfoldable pub difference : ℕ → ℕ → Option ℕ
difference a b = cond (nat_le b a) (Some (a - b)) None

-- the amount of the first 16 bytes
unfoldable pub amount_at : List ℕ → Option ℕ
amount_at s = cond (nat_le 16 (length s)) (Some (le (take 16 s))) None
