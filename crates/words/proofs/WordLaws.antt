-- Laws of specs/Words.antt for a whole call.
use Rattle.std.proofs.Common.{◌≡◌, ℕ, List, ◌∙◌, Result, Ok, Err}
use Rattle.std.specs.Result.{MatchResult, IsOkAnd}
use Rattle.error.specs.declared.Refusal.{Refusal}
use Rattle.error.specs.Refusal.{number, values}
use Rattle.error.specs.Outcome.{Outcome, refusal, told_by, number_of, values_of}
use Rattle.words.specs.Words.{set_words, in_words, writing}

-- a refusal
pub refused_as : {A : Type 0} (f : A → List ℕ) (words : List ℕ) {o : Outcome A} (why : Refusal) {r : ℕ × List ℕ} → o ≡ refusal why
    → r ≡ set_words (number why) (values why) words → r ≡ in_words f o words
unfolding set_words in_words number_of values_of
refused_as f words why e k = k ∙ rw e

pub as_told : {A : Type 0} (f : A → List ℕ) (words : List ℕ) {o p : Outcome A} {r : ℕ × List ℕ} → o ≡ p → r ≡ in_words f o words → r ≡ in_words f p words
as_told f words e k = k ∙ rw e

pub wrote : {A : Type 0} (f : A → List ℕ) (call : Outcome A × List ℕ) (words : List ℕ) {o : Outcome A} {after : List ℕ} {r : ℕ × List ℕ} → (o, after) ≡ call
    → r ≡ in_words f o words → (r, after) ≡ writing f call words
unfolding writing
wrote f call words e k = rw (← e, k)

-- what an answer has to tell, made of it before it is told
pub mapped_words : {T A : Type 0} (f : A → List ℕ) (g : T → A) (x : Result T Refusal) (y : Result (List ℕ) Refusal) (words : List ℕ) {r : ℕ × List ℕ}
    → MatchResult x (λ t. IsOkAnd y (λ v. v ≡ f (g t))) (λ e. y ≡ Err e) → r ≡ in_words (λ l. l) (told_by (λ l. l) y) words → r ≡ in_words f (told_by g x) words
unfolding set_words in_words number_of values_of
mapped_words f g (Ok t) (Ok v) words m k = rw m at k
mapped_words f g (Ok t) (Err e) words m k = absurd m
mapped_words f g (Err e) y words m k = rw m at k
