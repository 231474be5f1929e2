-- What follows an answer, and what follows a refusal; `outcomes` lists these for the checks of functions that answer as a `do` block does, and what unfolds
-- `answering` unfolds each definition that is named below it.
use Rattle.std.proofs.Common.{◌≡◌, ℕ, List, refl}
use Rattle.error.specs.Outcome.{Outcome, fine, refused, answer_by, check, check_with, ◌>>=◌, ◌>>◌}
use Rattle.error.specs.Refusal.{number, values}

pub then_fine : {B : Type 0} (r : Outcome B) → (fine tt >> r) ≡ r
unfolding ◌>>◌
then_fine r = refl

pub then_refused : {B : Type 0} (n : ℕ) (l : List ℕ) (r : Outcome B) → (refused n l >> r) ≡ refused n l
unfolding ◌>>◌
then_refused n l r = refl

pub bind_fine : {A B : Type 0} (a : A) (f : A → Outcome B) → (fine a >>= f) ≡ f a
unfolding ◌>>=◌
bind_fine a f = refl

pub bind_refused : {A B : Type 0} (n : ℕ) (l : List ℕ) (f : A → Outcome B) → (refused n l >>= f) ≡ refused n l
unfolding ◌>>=◌
bind_refused n l f = refl

pub ruleset outcomes = (then_fine, then_refused, bind_fine, bind_refused)

unfoldable pub answering : Unit {0}
unfolding answer_by check check_with number values
answering = tt
