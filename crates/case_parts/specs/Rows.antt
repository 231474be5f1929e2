-- A row of a table of worked cases: what the definitions compute, and what it is to be.
use Rattle.std.specs.Prelude.{◌≡◌, List}
use Rattle.molecule.specs.Partial.{All}

pub record Row (A : Type 0) : Type 0 where
  pub computed : A
  pub expected : A

infix 20 ◌gives◌
abbrev pub ◌gives◌ : {A : Type 0} → A → A → Row A
c gives e = record { computed = c; expected = e }

abbrev pub AllRight : {A : Type 0} → List (Row A) → Type 0
AllRight {A} l = All (λ (r : Row A). r.computed ≡ r.expected) l
