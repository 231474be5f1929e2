-- The laws of specs/Bits.antt: quotients and remainders by their bits, and that a number is told by its bits.
use Rattle.std.proofs.Common.{ℕ, ◌-◌, ◌/◌, ◌%◌, ◌^◌, sym, ap, ◌∙◌}
use native.Mathlib.Nat.{add_comm}
use Rattle.std.specs.Int.{bit_at}
use Rattle.std.proofs.lemmas.Nat.{and_mask, shr-shr}
use Rattle.std.proofs.lemmas.Nat.Bits.{bit_at_and, same_from_bits}
use Rattle.arithmetic.specs.Bits.{Shifted, Masked, AndIsMasked, ShiftedIsQuotient, MaskedIsRemainder, ShiftedIsQuarter, MaskedIsRemainderOfFour}

pub and-is-masked : AndIsMasked
and-is-masked = bit_at_and

quotient-bits : (x k : ℕ) → Shifted x k (x / 2 ^ k)
quotient-bits x k i = ap (λ n. n % 2) (shr-shr x k i) ∙ ap (bit_at x) (add_comm k i)

remainder-bits : (x k : ℕ) → Masked x (2 ^ k - 1) (x % 2 ^ k)
remainder-bits x k i = ap (λ n. bit_at n i) (sym (and_mask x k)) ∙ and-is-masked x (2 ^ k - 1) i

pub shifted-is-quotient : ShiftedIsQuotient
shifted-is-quotient x k y = (λ h. same_from_bits y _ (λ i. h i ∙ sym (quotient-bits x k i)), λ e i. ap (λ n. bit_at n i) e ∙ quotient-bits x k i)

pub masked-is-remainder : MaskedIsRemainder
masked-is-remainder x k y = (λ h. same_from_bits y _ (λ i. h i ∙ sym (remainder-bits x k i)), λ e i. ap (λ n. bit_at n i) e ∙ remainder-bits x k i)

pub shifted-is-quarter : ShiftedIsQuarter
shifted-is-quarter x = shifted-is-quotient x 2

pub masked-is-remainder-of-four : MaskedIsRemainderOfFour
masked-is-remainder-of-four x = masked-is-remainder x 2
