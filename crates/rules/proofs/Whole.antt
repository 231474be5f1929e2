-- Two sums of natural numbers that agree, as a difference in whole numbers.
use mathlib.Core.Path.{◌≡◌, sym, ap, ◌∙◌}
use Prim.Native.Nat.{ℕ, ◌+◌}
use lib.IntN.{ℤ, pos, neg_ℤ, ◌+ℤ◌, ◌-ℤ◌, +ℤ_assoc, +ℤ_comm, neg_ℤ-+ℤ, neg_ℤ-neg_ℤ, +ℤ-neg_ℤ_cancel}

less_difference : (x a b : ℤ) → x -ℤ (a -ℤ b) ≡ x +ℤ b -ℤ a
less_difference x a b =
    ap (λ (z : ℤ). x +ℤ z) (neg_ℤ-+ℤ a (neg_ℤ b) ∙ ap (λ (z : ℤ). neg_ℤ a +ℤ z) (neg_ℤ-neg_ℤ b) ∙ +ℤ_comm (neg_ℤ a) b) ∙ sym (+ℤ_assoc x b (neg_ℤ a))

take-both : (s a d : ℤ) → s +ℤ a +ℤ d -ℤ a -ℤ d ≡ s
take-both s a d =
    ap (λ (z : ℤ). z -ℤ a -ℤ d) (+ℤ_assoc s a d ∙ ap (λ (z : ℤ). s +ℤ z) (+ℤ_comm a d) ∙ sym (+ℤ_assoc s d a))
    ∙ ap (λ (z : ℤ). z -ℤ d) (+ℤ-neg_ℤ_cancel (s +ℤ d) a)
    ∙ +ℤ-neg_ℤ_cancel s d

-- t paid, from b to a at output 0, d added
pub whole : (t b s a d : ℕ) → t + b ≡ s + a + d → pos s ≡ pos t -ℤ (pos a -ℤ pos b) -ℤ pos d
whole t b s a d e =
    sym (take-both (pos s) (pos a) (pos d))
    ∙ ap (λ (n : ℕ). pos n -ℤ pos a -ℤ pos d) (sym e)
    ∙ ap (λ (z : ℤ). z -ℤ pos d) (sym (less_difference (pos t) (pos a) (pos b)))
