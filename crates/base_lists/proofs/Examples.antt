-- Worked examples, computed by the definitions.
use mathlib.Core.Path.{◌≡◌, refl}
use mathlib.Core.List.{[], ◌∷◌}
use Rattle.base_lists.specs.BaseLists.{placeholder, witness_list}
use Rattle.list_writer.specs.ListWriter.{bytes_item}

-- from none, or with nothing picked, one witness; behind two present inputs the first picked one is the third
none-present : witness_list 0 3 ≡ placeholder ∷ []
unfolding witness_list
none-present = refl

none-picked : witness_list 2 0 ≡ placeholder ∷ []
unfolding witness_list
none-picked = refl

third : witness_list 2 1 ≡ placeholder ∷ bytes_item [] ∷ placeholder ∷ []
unfolding witness_list
third = refl
