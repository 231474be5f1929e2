-- The cell deps of a base transaction (docs/RULES.md, "Our own side": "present, token's and lock's if tokens were picked, extra; first occurrence
-- only").
use Rattle.std.specs.Prelude.{◌≡◌, ℕ, ◌+◌, ◌-◌, ◌≤◌, min, cond, List, [], ◌∷◌, ◌++◌, map, length, get_or, take, ltb}
use Rattle.lists.specs.Lists.{contains}
use Rattle.molecule.specs.Layout.{fix_count, fix_item, fix_items}
use Rattle.list_writer.specs.ListWriter.{if_any}

-- each dep once, where it first stands: a dep that is there already is not pushed again
unfoldable pub dep_pushed : List (List ℕ) → List ℕ → List (List ℕ)
dep_pushed deps x = cond (contains x deps) deps (deps ++ (x ∷ []))

unfoldable pub push_all : List (List ℕ) → List (List ℕ) → List (List ℕ)
push_all deps [] = deps
push_all deps (x ∷ xs) = push_all (dep_pushed deps x) xs

-- the present deps, the token's, the lock's, which is one dep or nothing, and the extra ones
abbrev pub all_deps : List ℕ → List ℕ → List ℕ → List ℕ → List (List ℕ)
all_deps present udt lock extra = fix_items 37 present ++ fix_items 37 udt ++ if_any lock ++ fix_items 37 extra

unfoldable pub cell_deps : List ℕ → List ℕ → List ℕ → List ℕ → List (List ℕ)
cell_deps present udt lock extra = push_all [] (all_deps present udt lock extra)

-- ---- what the functions inside promise one another: a dep by its place in the four lists, one after the other

unfoldable pub before : ℕ → (ℕ → List ℕ) → (ℕ → List ℕ) → ℕ → List ℕ
before m f g i = cond (ltb i m) (f i) (g (i - m))

unfoldable pub any_count : List ℕ → ℕ
any_count [] = 0
any_count (b ∷ s) = 1

-- the lock's and the extra ones; those and the token's; all
unfoldable pub last_dep_at : List ℕ → List ℕ → ℕ → List ℕ
last_dep_at c d = before (any_count c) (λ _. c) (fix_item d 37)

unfoldable pub own_dep_at : List ℕ → List ℕ → List ℕ → ℕ → List ℕ
own_dep_at b c d = before (fix_count b) (fix_item b 37) (last_dep_at c d)

unfoldable pub dep_at : List ℕ → List ℕ → List ℕ → List ℕ → ℕ → List ℕ
dep_at a b c d = before (fix_count a) (fix_item a 37) (own_dep_at b c d)

abbrev pub dep_count : List ℕ → List ℕ → List ℕ → List ℕ → ℕ
dep_count a b c d = fix_count a + (fix_count b + (any_count c + fix_count d))

-- the deps at these places
unfoldable pub deps_at : List ℕ → List ℕ → List ℕ → List ℕ → List ℕ → List (List ℕ)
deps_at a b c d places = map (dep_at a b c d) places

-- the dep at place j of a list of places
unfoldable pub placed_at : List ℕ → List ℕ → List ℕ → List ℕ → List ℕ → ℕ → List ℕ
placed_at a b c d s j = dep_at a b c d (get_or s j 0)

-- the choice: the first r are places of these deps, in their order; one more than there is room for where there are more deps
pub record Chooses (a b c d : List ℕ) (room : ℕ) (places : List ℕ) (r : ℕ) : Type 0 where
  pub number : r ≡ min (length (cell_deps a b c d)) (room + 1)
  pub chosen : r ≤ room → deps_at a b c d (take r places) ≡ cell_deps a b c d
