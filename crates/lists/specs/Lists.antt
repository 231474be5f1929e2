-- Lists of byte strings compared as docs/RULES.md, row "comparison", says.
use Rattle.std.specs.Prelude.{ℕ, List, [], ◌∷◌, Bool, true, false, ◌&&◌, cond, eqb}

-- the same bytes
unfoldable pub eq_bytes : List ℕ → List ℕ → Bool
eq_bytes [] [] = true
eq_bytes [] (b ∷ ys) = false
eq_bytes (a ∷ xs) [] = false
eq_bytes (a ∷ xs) (b ∷ ys) = eqb a b && eq_bytes xs ys

-- "fewer .., or a shared place differs": not so of ys against xs
unfoldable pub extends : List (List ℕ) → List (List ℕ) → Bool
extends [] ys = true
extends (x ∷ xs) [] = false
extends (x ∷ xs) (y ∷ ys) = eq_bytes x y && extends xs ys

-- "a shared place differs": not so
unfoldable pub agree : List (List ℕ) → List (List ℕ) → Bool
agree [] ys = true
agree (x ∷ xs) [] = true
agree (x ∷ xs) (y ∷ ys) = eq_bytes x y && agree xs ys

unfoldable pub contains : List ℕ → List (List ℕ) → Bool
contains x [] = false
contains x (y ∷ ys) = cond (eq_bytes x y) true (contains x ys)

-- "one of ours missing": not so of ys against xs
unfoldable pub contains_all : List (List ℕ) → List (List ℕ) → Bool
contains_all [] ys = true
contains_all (x ∷ xs) ys = contains x ys && contains_all xs ys

unfoldable pub is_empty : {A : Type 0} → List A → Bool
is_empty [] = true
is_empty (x ∷ xs) = false
