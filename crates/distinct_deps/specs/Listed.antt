-- A list of deps and its index.
use Rattle.std.specs.Prelude.{◌≡◌, ℕ, List, length}
use Rattle.std.specs.Borrow.{Bor}
use Rattle.molecule.specs.Layout.{fix_count}
use Rattle.item_index.specs.declared.Keys.{Keys}
use Rattle.item_index.specs.Index.{Index, key_of}

-- s is the index of the deps of a list
pub record Listed (list s : List ℕ) : Type 0 where
  pub long : length s ≡ fix_count list
  pub index : ∥ Index (key_of list 37 0) (length s) s ∥₁

-- the deps of a list as keys
abbrev pub keys_in : Bor (List ℕ) → Keys
keys_in list = record { items = list; size = 37; skip = 0 }
