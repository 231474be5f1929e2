-- The required fee and the capacity of token change (docs/RULES.md, "What the peer put in" and "Our own side").
use Rattle.std.specs.Prelude.{ℕ, ◌+◌, ◌-◌, ◌*◌, ◌/◌, ◌^◌, min, cond, ltb, Option, Some, None}
use Rattle.units.specs.declared.{Shannons.Shannons}
use Rattle.units.specs.Units.{in_shannons}

-- rate times size, capped at 2^64 - 1, divided by 1,000, rounded down
abbrev pub fee_shannons : ℕ → ℕ → ℕ
fee_shannons rate size = min (rate * size) (2 ^ 64 - 1) / 1000

unfoldable pub required_fee : ℕ → ℕ → Shannons
required_fee rate size = in_shannons (fee_shannons rate size)

-- 100,000,000 for each byte: capacity 8, lock 33 and args, type 33 and args, amount 16
abbrev pub change_shannons : ℕ → ℕ → ℕ
change_shannons lockArgs typeArgs = 100000000 * (8 + 33 + lockArgs + 33 + typeArgs + 16)

-- the change's capacity, where it is a number of 64 bits
unfoldable pub change_capacity : ℕ → ℕ → Option Shannons
change_capacity lockArgs typeArgs =
    let n = change_shannons lockArgs typeArgs in
    cond (ltb n (2 ^ 64)) (Some (in_shannons n)) None
