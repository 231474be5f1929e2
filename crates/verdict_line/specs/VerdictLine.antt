-- The line that the check program prints (docs/RULES.md, "Case file and known outcomes"): 0 and the capacity surplus as 32 lowercase hex digits, or the
-- refusal's number and its decimals; then a newline. All of it is ASCII.
use Rattle.std.specs.Prelude.{ℕ, zero, suc, ◌+◌, ◌/◌, ◌%◌, cond, List, [], ◌∷◌, ◌++◌, ltb}
use Rattle.molecule.specs.Partial.{pick}
use Rattle.error.specs.Outcome.{Outcome, fine, refused}
use Rattle.units.specs.Units.{Figures}

-- a digit below 16: 48 is 0, and 97 is a
unfoldable pub digit : ℕ → ℕ
digit d = cond (ltb d 10) (48 + d) (87 + d)

-- w hex digits of a number, its lowest
unfoldable pub hex : ℕ → ℕ → List ℕ
hex zero n = []
hex (suc w) n = hex w (n / 16) ++ digit (n % 16) ∷ []

-- the decimal digits of a number, w of them at most
unfoldable pub digits : ℕ → ℕ → List ℕ
digits zero n = []
digits (suc w) n = pick (ltb n 10) (digit n ∷ []) (digits w (n / 10) ++ digit (n % 10) ∷ [])

-- every value is a number of 64 bits, which has 20 at most
unfoldable pub decimal : ℕ → List ℕ
decimal n = digits 20 n

-- a space and a decimal for each value
unfoldable pub spaced : List ℕ → List ℕ
spaced [] = []
spaced (v ∷ vs) = 32 ∷ decimal v ++ spaced vs

-- 0 and the surplus
unfoldable pub accepted : ℕ → List ℕ
accepted surplus = 48 ∷ 32 ∷ hex 32 surplus ++ 10 ∷ []

-- the number and the values
unfoldable pub refused_with : ℕ → List ℕ → List ℕ
refused_with number values = decimal number ++ spaced values ++ 10 ∷ []

unfoldable pub line_of : Outcome Figures → List ℕ
line_of (fine surplus) = accepted surplus.capacity
line_of (refused number values) = refused_with number values
