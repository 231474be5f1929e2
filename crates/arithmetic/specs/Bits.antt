-- Shifts and masks, by bits: bit i of x is `bit_at x i`, 0 or 1. The laws are of any number, those of 32 bits among them (proofs/BitLaws.antt).
use Rattle.std.specs.Prelude.{◌≡◌, ℕ, ◌+◌, ◌-◌, ◌/◌, ◌%◌, ◌^◌, ◌↔◌, bit_and, min}
use Rattle.std.specs.Int.{bit_at}

-- y has the bits of x, each k places lower: what `x >> k` is
abbrev pub Shifted : ℕ → ℕ → ℕ → Type 0
Shifted x k y = (i : ℕ) → bit_at y i ≡ bit_at x (i + k)

-- y has the bits that are 1 in x and in m: what `x & m` is
abbrev pub Masked : ℕ → ℕ → ℕ → Type 0
Masked x m y = (i : ℕ) → bit_at y i ≡ min (bit_at x i) (bit_at m i)

-- the `&` of code, as proofs read it (they read `x >> k` as `x / 2 ^ k`)
abbrev pub AndIsMasked : Type 0
AndIsMasked = (x m : ℕ) → Masked x m (bit_and x m)

-- a shift by k keeps the places from k on, and a mask with k ones those below: a rotation puts the two together
abbrev pub ShiftedIsQuotient : Type 0
ShiftedIsQuotient = (x k y : ℕ) → Shifted x k y ↔ (y ≡ x / 2 ^ k)

abbrev pub MaskedIsRemainder : Type 0
MaskedIsRemainder = (x k y : ℕ) → Masked x (2 ^ k - 1) y ↔ (y ≡ x % 2 ^ k)

-- two places, by which the items of a list are counted
abbrev pub ShiftedIsQuarter : Type 0
ShiftedIsQuarter = (x y : ℕ) → Shifted x 2 y ↔ (y ≡ x / 4)

abbrev pub MaskedIsRemainderOfFour : Type 0
MaskedIsRemainderOfFour = (x y : ℕ) → Masked x 3 y ↔ (y ≡ x % 4)
