-- What a call answers: a value, or a refusal with its number and the numbers listed (docs/RULES.md, "The form each place takes"). Checks are written one after
-- another in a `do` block.
use Rattle.std.specs.Prelude.{ℕ, Bool, true, false, List, [], ◌++◌, length, drop, Result, Ok, Err}
use Rattle.std.proofs.Math.Option.{Option, none, some}
use Rattle.error.specs.declared.Refusal.{Refusal}
use Rattle.error.specs.Refusal.{number, values}

pub data Outcome (A : Type 0) : Type 0 where
  fine : A → Outcome A
  refused : ℕ → List ℕ → Outcome A

infixl 10 ◌>>=◌
infixl 10 ◌>>◌
unfoldable pub ◌>>=◌ : {A B : Type 0} → Outcome A → (A → Outcome B) → Outcome B
◌>>=◌ (fine a) f = f a
◌>>=◌ (refused n l) f = refused n l

unfoldable pub ◌>>◌ : {B : Type 0} → Outcome (Unit {0}) → Outcome B → Outcome B
◌>>◌ (fine a) r = r
◌>>◌ (refused n l) r = refused n l

-- refuse with n, and the numbers l, unless the test passes
unfoldable pub check_with : ℕ → List ℕ → Bool → Outcome (Unit {0})
check_with n l true = fine tt
check_with n l false = refused n l

unfoldable pub check : ℕ → Bool → Outcome (Unit {0})
check n b = check_with n [] b

-- refuse with n where there is nothing
unfoldable pub given : {A : Type 0} → ℕ → Option A → Outcome A
given n none = refused n []
given n (some a) = fine a

-- 0, or the number of a refusal
unfoldable pub number_of : {A : Type 0} → Outcome A → ℕ
number_of (fine x) = 0
number_of (refused n l) = n

-- the values of what is no refusal, by f, or those that the refusal carries
unfoldable pub values_of : {A : Type 0} → (A → List ℕ) → Outcome A → List ℕ
values_of f (fine x) = f x
values_of f (refused n l) = l

-- what stands after a call: what it writes, and what stood before it where it is refused
abbrev pub leaves {ℓ} : {A : Type 0} {B : Type ℓ} → Outcome A → (A → B) → B → B
leaves (fine a) f b = f a
leaves (refused n l) f b = b

-- ---- a call that writes to the start of a lent buffer

-- the buffer: it begins with these, and what is beyond them keeps its value
abbrev pub put_first : List ℕ → List ℕ → List ℕ
put_first xs out = xs ++ drop (length xs) out

-- what is answered of what a call makes
unfoldable pub answer_by : {M A : Type 0} → (M → A) → Outcome M → Outcome A
answer_by f (fine m) = fine (f m)
answer_by f (refused n l) = refused n l

-- its answer, and the buffer after it, by what it makes
abbrev pub putting : {M A : Type 0} → (M → A) → (M → List ℕ) → Outcome M → List ℕ → Outcome A × List ℕ
putting answer bytes made out = (answer_by answer made, leaves made (λ m. put_first (bytes m) out) out)

-- ---- what code answers

abbrev pub refusal : {A : Type 0} → Refusal → Outcome A
refusal e = refused (number e) (values e)

-- with its value in numbers
abbrev pub told_by : {T A : Type 0} → (T → A) → Result T Refusal → Outcome A
told_by f (Ok x) = fine (f x)
told_by f (Err e) = refusal e

-- of a call that answers a number
abbrev pub told : Result ℕ Refusal → Outcome ℕ
told = told_by (λ n. n)
