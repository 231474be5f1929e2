-- Worked lines of specs/VerdictLine.antt.
use mathlib.Core.Path.{◌≡◌, refl}
use mathlib.Core.List.{[], ◌∷◌}
use Prim.Native.Nat.{◌-◌, ◌^◌}
use Rattle.molecule.specs.Partial.{pick}
use Rattle.error.specs.Outcome.{fine, refused}
use Rattle.verdict_line.specs.VerdictLine.{digit, hex, digits, decimal, spaced, accepted, refused_with, line_of}

-- 0, 10, and the greatest number of 64 bits
zero : decimal 0 ≡ 48 ∷ []
unfolding decimal digits digit pick
zero = refl

ten : decimal 10 ≡ 49 ∷ 48 ∷ []
unfolding decimal digits digit pick
ten = refl

greatest : decimal (2 ^ 64 - 1) ≡ 49 ∷ 56 ∷ 52 ∷ 52 ∷ 54 ∷ 55 ∷ 52 ∷ 52 ∷ 48 ∷ 55 ∷ 51 ∷ 55 ∷ 48 ∷ 57 ∷ 53 ∷ 53 ∷ 49 ∷ 54 ∷ 49 ∷ 53 ∷ []
unfolding decimal digits digit pick
greatest = refl

-- 16 + 15 is 1f
hex_four : hex 4 31 ≡ 48 ∷ 48 ∷ 49 ∷ 102 ∷ []
unfolding hex digit
hex_four = refl

-- "6 2": an input's index follows the number
our_lock_lem : line_of (refused 6 (2 ∷ [])) ≡ 54 ∷ 32 ∷ 50 ∷ 10 ∷ []
unfolding line_of refused_with spaced decimal digits digit pick
our_lock_lem = refl

-- "8 204 205 1000 205"
low-fee : line_of (refused 8 (204 ∷ 205 ∷ 1000 ∷ 205 ∷ []))
    ≡ 56 ∷ 32 ∷ 50 ∷ 48 ∷ 52 ∷ 32 ∷ 50 ∷ 48 ∷ 53 ∷ 32 ∷ 49 ∷ 48 ∷ 48 ∷ 48 ∷ 32 ∷ 50 ∷ 48 ∷ 53 ∷ 10 ∷ []
unfolding line_of refused_with spaced decimal digits digit pick
low-fee = refl

-- "0 000000000000000000000000000000cd"
surplus : line_of (fine (record { capacity = 205; token = 7 }))
    ≡ 48 ∷ 32 ∷ 48 ∷ 48 ∷ 48 ∷ 48 ∷ 48 ∷ 48 ∷ 48 ∷ 48 ∷ 48 ∷ 48 ∷ 48 ∷ 48 ∷ 48 ∷ 48 ∷ 48 ∷ 48 ∷ 48 ∷ 48 ∷ 48 ∷ 48 ∷ 48 ∷ 48 ∷ 48 ∷ 48 ∷ 48 ∷ 48 ∷ 48 ∷ 48 ∷ 48 ∷ 48 ∷ 99 ∷ 100 ∷ 10 ∷ []
unfolding line_of accepted hex digit
surplus = refl
