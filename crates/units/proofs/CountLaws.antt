-- What the answers in shannons and in tokens tell a caller, in numbers.
use Rattle.std.proofs.Common.{◌≡◌, ℕ, ◌+◌, ◌-◌, ◌^◌, ◌≤◌, ◌<◌, min, List, length, take, ap, ◌∙◌, refl, arith, Option, Some, None}
use Rattle.std.specs.Option.{option_map}
use Rattle.arithmetic.specs.LittleEndian.{le}
use Rattle.arithmetic.specs.Amount.{sum, difference, amount_at}
use Rattle.arithmetic.proofs.AmountLaws.{sum_is, sum_below, sum_over, difference-is, difference-within, difference-over, read_amount, read_long, read_under}
use Rattle.units.specs.declared.{Shannons.Shannons, Tokens.Tokens}
use Rattle.units.specs.Units.{in_shannons, in_tokens, shannon_count, token_count, capped_sum}

-- a sum that is far from the cap
pub capped_near : (a b : Shannons) {r : Shannons} → r ≡ capped_sum a b → shannon_count a + shannon_count b < 2 ^ 128 → shannon_count r ≡ shannon_count a + shannon_count b
unfolding capped_sum
capped_near a b e h = ap shannon_count e ∙ omega arith

-- an answer in a unit and its number
pub shannons-some : (o : Option ℕ) {r : Option Shannons} {t : Shannons} → r ≡ option_map in_shannons o → r ≡ Some t → o ≡ Some t.0
shannons-some None e f = cc
shannons-some (Some n) {r} {t} e f = let k : in_shannons n ≡ t = cc in ap (λ (u : Shannons). Some u.0) k

pub shannons-none : (o : Option ℕ) {r : Option Shannons} → r ≡ option_map in_shannons o → r ≡ None → o ≡ None
shannons-none None e f = refl
shannons-none (Some n) e f = cc

pub tokens-some : (o : Option ℕ) {r : Option Tokens} {t : Tokens} → r ≡ option_map in_tokens o → r ≡ Some t → o ≡ Some t.0
tokens-some None e f = cc
tokens-some (Some n) {r} {t} e f = let k : in_tokens n ≡ t = cc in ap (λ (u : Tokens). Some u.0) k

pub tokens-none : (o : Option ℕ) {r : Option Tokens} → r ≡ option_map in_tokens o → r ≡ None → o ≡ None
tokens-none None e f = refl
tokens-none (Some n) e f = cc

module _ (a b : Shannons) {r : Option Shannons} (e : r ≡ option_map in_shannons (difference a.0 b.0)) where
  pub shannons-left : {d : Shannons} → r ≡ Some d → shannon_count d ≡ shannon_count a - shannon_count b
  shannons-left f = difference-is a.0 b.0 refl (shannons-some (difference a.0 b.0) e f)

  pub shannons-enough : {d : Shannons} → r ≡ Some d → shannon_count b ≤ shannon_count a
  shannons-enough f = difference-within a.0 b.0 refl (shannons-some (difference a.0 b.0) e f)

  pub shannons_lacking : r ≡ None → shannon_count a < shannon_count b
  shannons_lacking f = difference-over a.0 b.0 refl (shannons-none (difference a.0 b.0) e f)

module _ (a b : Tokens) {r : Option Tokens} where
  pub tokens-sum : {t : Tokens} → r ≡ option_map in_tokens (sum a.0 b.0) → r ≡ Some t → token_count t ≡ token_count a + token_count b
  tokens-sum e f = sum_is a.0 b.0 refl (tokens-some (sum a.0 b.0) e f)

  pub tokens-below : {t : Tokens} → r ≡ option_map in_tokens (sum a.0 b.0) → r ≡ Some t → token_count a + token_count b < 2 ^ 128
  tokens-below e f = sum_below a.0 b.0 refl (tokens-some (sum a.0 b.0) e f)

  pub tokens-over : r ≡ option_map in_tokens (sum a.0 b.0) → r ≡ None → 2 ^ 128 ≤ token_count a + token_count b
  tokens-over e f = sum_over a.0 b.0 refl (tokens-none (sum a.0 b.0) e f)

  pub tokens-left : {d : Tokens} → r ≡ option_map in_tokens (difference a.0 b.0) → r ≡ Some d → token_count d ≡ token_count a - token_count b
  tokens-left e f = difference-is a.0 b.0 refl (tokens-some (difference a.0 b.0) e f)

  pub tokens-enough : {d : Tokens} → r ≡ option_map in_tokens (difference a.0 b.0) → r ≡ Some d → token_count b ≤ token_count a
  tokens-enough e f = difference-within a.0 b.0 refl (tokens-some (difference a.0 b.0) e f)

  pub tokens_lacking : r ≡ option_map in_tokens (difference a.0 b.0) → r ≡ None → token_count a < token_count b
  tokens_lacking e f = difference-over a.0 b.0 refl (tokens-none (difference a.0 b.0) e f)

module _ (s : List ℕ) {r : Option Tokens} (e : r ≡ option_map in_tokens (amount_at s)) where
  pub tokens-there : {t : Tokens} → r ≡ Some t → token_count t ≡ le (take 16 s)
  tokens-there f = read_amount s refl (tokens-some (amount_at s) e f)

  pub tokens-long : {t : Tokens} → r ≡ Some t → 16 ≤ length s
  tokens-long f = read_long s refl (tokens-some (amount_at s) e f)

  pub tokens-under : r ≡ None → length s < 16
  tokens-under f = read_under s refl (tokens-none (amount_at s) e f)
