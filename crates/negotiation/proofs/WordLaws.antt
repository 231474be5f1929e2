-- Laws of the words of answers.
use mathlib.Core.Path.{◌≡◌, refl, ap, ◌∙◌}
use Prim.Native.Nat.{ℕ, ◌*◌}
use mathlib.Core.List.{List, [], ◌∷◌, ◌++◌}
use native.Mathlib.Omega.{arith}
use lib.ListN.{length, drop, get_or}
use Rattle.molecule.specs.Write.{splice}
use Rattle.error.specs.Outcome.{Outcome, number_of, values_of}
use Rattle.units.specs.Units.{Figures}
use Rattle.rules.specs.Told.{Update, told}
use Rattle.words.specs.Words.{four_of, set_words, in_words, surplus_words}
use Rattle.negotiation.specs.Words.{update_words, all_words}

-- values set at the start of four words that were 0
in-zeros : (l : List ℕ) → four_of (l ++ drop (length l) (0 ∷ 0 ∷ 0 ∷ 0 ∷ [])) ≡ four_of l
in-zeros [] = refl
in-zeros (a ∷ []) = refl
in-zeros (a ∷ b ∷ []) = refl
in-zeros (a ∷ b ∷ c ∷ []) = refl
in-zeros (a ∷ b ∷ c ∷ d ∷ l) = refl

five_are : (u : Update) {n : ℕ} {four : List ℕ} → (n, four) ≡ in_words surplus_words (told u) (0 ∷ 0 ∷ 0 ∷ 0 ∷ [])
    → n ∷ get_or four 0 0 ∷ get_or four 1 0 ∷ get_or four 2 0 ∷ get_or four 3 0 ∷ [] ≡ update_words (told u)
unfolding in_words set_words
five_are u e = ap (λ (p : ℕ × List ℕ). p.0 ∷ four_of p.1) e ∙ ap (λ (l : List ℕ). number_of (told u) ∷ l) (in-zeros (values_of surplus_words (told u)))

pub words_put : (u : Update) (out : List ℕ) (at : ℕ) {n : ℕ} {four after : List ℕ} → (n, four) ≡ in_words surplus_words (told u) (0 ∷ 0 ∷ 0 ∷ 0 ∷ [])
    → after ≡ splice out at (n ∷ get_or four 0 0 ∷ get_or four 1 0 ∷ get_or four 2 0 ∷ get_or four 3 0 ∷ []) → after ≡ splice out at (update_words (told u))
words_put u out at e h = rw (five_are u e) at h

pub all_length : (os : List (Outcome Figures)) → length (all_words os) ≡ 5 * length os
unfolding all_words
all_length [] = refl
all_length (o ∷ os) = omega (arith, all_length os)
