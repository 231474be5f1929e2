-- Shannons, tokens, milliseconds, block numbers (docs/RULES.md, "The bytes underneath", and "Holds and exclusions" for the last two).
use Rattle.std.specs.Prelude.{ℕ, ◌+◌, ◌-◌, ◌^◌, min, Bool, ltb, leb}
use Rattle.units.specs.declared.{Shannons.Shannons, Tokens.Tokens, Millis.Millis, BlockNumber.BlockNumber}

abbrev pub in_shannons : ℕ → Shannons
in_shannons n = record { 0 = n }

abbrev pub in_tokens : ℕ → Tokens
in_tokens n = record { 0 = n }

-- how many they are
abbrev pub shannon_count : Shannons → ℕ
shannon_count s = s.0

abbrev pub token_count : Tokens → ℕ
token_count t = t.0

-- a figure in shannons and one in tokens
pub record Figures : Type 0 where
  pub capacity : ℕ
  pub token : ℕ

-- a sum of shannons, capped
unfoldable pub capped_sum : Shannons → Shannons → Shannons
capped_sum a b = in_shannons (min (a.0 + b.0) (2 ^ 128 - 1))

-- the time after a wait, capped
unfoldable pub later : Millis → Millis → Millis
later t wait = record { 0 = min (t.0 + wait.0) (2 ^ 64 - 1) }

abbrev pub is_before : Millis → Millis → Bool
is_before t other = ltb t.0 other.0

-- at least so many blocks above another
unfoldable pub is_at_least : BlockNumber → BlockNumber → ℕ → Bool
is_at_least b start blocks = leb (start.0 + blocks) b.0
