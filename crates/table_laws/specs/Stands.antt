-- That an element stands in a list: a record in a table of holds, an entry in an exclusion map.
use Rattle.std.specs.Prelude.{List, ◌∷◌}

pub data Stands {A : Type 0} (x : A) : List A → Type 0 where
  here : (l : List A) → Stands x (x ∷ l)
  there : (y : A) (l : List A) → Stands x l → Stands x (y ∷ l)
