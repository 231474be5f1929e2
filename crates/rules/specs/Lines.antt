-- The lines of the rules' table (docs/RULES.md, "A peer's update arrives") in a `do` block: each has a name, and its number. What an update is answered follows
-- from its lines: the first that fails refuses it.
use Rattle.std.specs.Prelude.{ℕ, Bool, true, cond, List, [], ◌∷◌, ◌++◌}
use Prim.Native.String.{String}
use lib.Text.{eqt}
use Rattle.error.specs.Outcome.{Outcome, fine, refused, check_with}
use Rattle.error.specs.Outcome as outcome

-- what is refused, in words
abbrev pub Name : Type 0
Name = String

-- a line: its name, its number and values, and whether all is well
pub record Line : Type 0 where
  pub name : Name
  pub number : ℕ
  pub values : List ℕ
  pub holds : Bool

-- lines, in order, and what is answered where all of them hold
pub record Ruled (A : Type 0) : Type 0 where
  pub lines : List Line
  pub answer : Outcome A

-- the first line that fails refuses; where none does, the answer is a
unfoldable pub first_failing : {A : Type 0} → List Line → Outcome A → Outcome A
first_failing [] a = a
first_failing (l ∷ ls) a = outcome.◌>>◌ (check_with l.number l.values l.holds) (first_failing ls a)

unfoldable pub verdict : {A : Type 0} → Ruled A → Outcome A
verdict r = first_failing r.lines r.answer

-- ---- blocks

-- lines, and then those that follow an answer; none follow a refusal
unfoldable pub followed : {A B : Type 0} → List Line → Outcome A → (A → Ruled B) → Ruled B
followed ls (fine a) f = record { lines = ls ++ (f a).lines; answer = (f a).answer }
followed ls (refused n l) f = record { lines = ls; answer = refused n l }

infixl 10 ◌>>=◌
infixl 10 ◌>>◌
unfoldable pub ◌>>=◌ : {A B : Type 0} → Ruled A → (A → Ruled B) → Ruled B
m >>= f = followed m.lines m.answer f

unfoldable pub ◌>>◌ : {B : Type 0} → Ruled (Unit {0}) → Ruled B → Ruled B
m >> r = followed m.lines m.answer (λ _. r)

-- an answer, and what is answered by now
unfoldable pub answer : {A : Type 0} → A → Ruled A
answer a = record { lines = []; answer = fine a }

unfoldable pub known : {A : Type 0} → Outcome A → Ruled A
known o = record { lines = []; answer = o }

unfoldable pub line_with : ℕ → List ℕ → Name → Bool → Ruled (Unit {0})
line_with n l s b = record { lines = record { name = s; number = n; values = l; holds = b } ∷ []; answer = fine tt }

abbrev pub line : ℕ → Name → Bool → Ruled (Unit {0})
line n s b = line_with n [] s b

-- ---- by names

-- whether the first line of a name holds
unfoldable pub line_holds : Name → List Line → Bool
line_holds name [] = true
line_holds name (l ∷ ls) = cond (eqt name l.name) l.holds (line_holds name ls)

-- the names of the lines that fail
unfoldable pub failing : List Line → List Name
failing [] = []
failing (l ∷ ls) = cond l.holds (failing ls) (l.name ∷ failing ls)
