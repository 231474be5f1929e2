-- Worked examples, by computation of the definitions.
use Rattle.std.proofs.Common.{◌≡◌, ◌-◌, ◌^◌, [], ◌∷◌, refl, Some, None}
use Rattle.arithmetic.specs.LittleEndian.{le, to_le}
use Rattle.arithmetic.specs.Amount.{sum, difference, amount_at}

-- 2^128 - 1 and 1
pub max_and_one : sum (2 ^ 128 - 1) 1 ≡ None
unfolding sum
max_and_one = refl

-- 2^64 - 1 and 1 carry into the high half, and back
pub carries : sum (2 ^ 64 - 1) 1 ≡ Some (2 ^ 64)
unfolding sum
carries = refl

pub borrows : difference (2 ^ 64) 1 ≡ Some (2 ^ 64 - 1)
unfolding difference
borrows = refl

-- an amount of 2^64 as bytes, and 15 bytes are none
pub bytes : to_le 16 (2 ^ 64) ≡ 0 ∷ 0 ∷ 0 ∷ 0 ∷ 0 ∷ 0 ∷ 0 ∷ 0 ∷ 1 ∷ 0 ∷ 0 ∷ 0 ∷ 0 ∷ 0 ∷ 0 ∷ 0 ∷ []
unfolding to_le
bytes = refl

pub whole : amount_at (0 ∷ 0 ∷ 0 ∷ 0 ∷ 0 ∷ 0 ∷ 0 ∷ 0 ∷ 1 ∷ 0 ∷ 0 ∷ 0 ∷ 0 ∷ 0 ∷ 0 ∷ 0 ∷ 7 ∷ []) ≡ Some (2 ^ 64)
unfolding amount_at le
whole = refl

pub short : amount_at (0 ∷ 0 ∷ 0 ∷ 0 ∷ 0 ∷ 0 ∷ 0 ∷ 0 ∷ 1 ∷ 0 ∷ 0 ∷ 0 ∷ 0 ∷ 0 ∷ 0 ∷ []) ≡ None
unfolding amount_at
short = refl
