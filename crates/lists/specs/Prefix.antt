-- A list that goes on from another.
use Rattle.std.specs.Prelude.{List, [], ◌∷◌}

-- the first list is a beginning of the second
pub data Prefix {A : Type 0} : List A → List A → Type 0 where
  start : {ys : List A} → Prefix [] ys
  more : {x : A} {xs ys : List A} → Prefix xs ys → Prefix (x ∷ xs) (x ∷ ys)
