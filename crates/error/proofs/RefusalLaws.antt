-- A refusal has a number above 0, and carries four values at most.
use Rattle.std.proofs.Common.{◌≡◌, ℕ, ◌<◌, ◌≤◌, List, [], ◌∷◌, length, take, get_or, refl, arith}
use Rattle.error.specs.declared.Refusal.{Refusal}
use Rattle.error.specs.Refusal.{number, values}

pub has_number : (r : Refusal) → 0 < number r
unfolding number
has_number r = grind arith

pub few-values : (r : Refusal) → length (values r) ≤ 4
unfolding values
few-values r = grind arith

-- so four read by their places, and cut to their count, are all
pub four_read : (l : List ℕ) → length l ≤ 4 → take (length l) (get_or l 0 0 ∷ get_or l 1 0 ∷ get_or l 2 0 ∷ get_or l 3 0 ∷ []) ≡ l
four_read [] h = refl
four_read (a ∷ []) h = refl
four_read (a ∷ b ∷ []) h = refl
four_read (a ∷ b ∷ c ∷ []) h = refl
four_read (a ∷ b ∷ c ∷ d ∷ []) h = refl
four_read (a ∷ b ∷ c ∷ d ∷ e ∷ l) h = absurd (omega arith)
