-- Ours: results that may be missing, with which the definitions of RFC 0008 (Molecule.antt) and those above them are written.
use Rattle.std.specs.Prelude.{Bool, true, false, List, [], ◌∷◌}
use Rattle.std.proofs.Math.Option.{Option, none, some}

-- o where the test passes
unfoldable pub only : {A : Type 0} → Bool → Option A → Option A
only true o = o
only false o = none

-- x where the test passes, and else y
unfoldable pub pick : {A : Type 0} → Bool → A → A → A
pick true x y = x
pick false x y = y

-- whether there is a result
unfoldable pub there : {A : Type 0} → Option A → Bool
there none = false
there (some a) = true

-- f of two results that are both there
unfoldable pub both : {A B C : Type 0} → (A → B → C) → Option A → Option B → Option C
both f none y = none
both f (some a) none = none
both f (some a) (some b) = some (f a b)

-- f of each element, if it is there for all
unfoldable pub each : {A B : Type 0} → (A → Option B) → List A → Option (List B)
each f [] = some []
each f (x ∷ xs) = both (λ v vs. v ∷ vs) (f x) (each f xs)

-- every element is P
abbrev pub All : {A : Type 0} → (A → Type 0) → List A → Type 0
All P [] = Unit {0}
All P (x ∷ xs) = P x × All P xs
