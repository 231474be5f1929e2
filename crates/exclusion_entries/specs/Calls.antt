-- The calls on a lent exclusion map: "our transaction unreadable is 1, then a script or lent list 3", where the map is the first of the lent lists. Of bytes
-- that are a map each call is its definition (Exclusions.antt) on the entries that they hold.
use Rattle.std.specs.Prelude.{◌≡◌, ℕ, List}
use Rattle.units.specs.declared.{BlockNumber.BlockNumber}
use Rattle.error.specs.Outcome.{Outcome, check, ◌>>◌}
use Rattle.molecule.specs.Molecule.{readable, option}
use Rattle.transaction.specs.Ckb.{Transaction}
use Rattle.out_points.specs.Tables.{after_list}
use Rattle.table_bytes.specs.Lent.{Table, in_bytes, on_table, Leaves}
use Rattle.exclusion_entries.specs.Exclusions.{MapEntry, commit_on, remove_on, truncate_on, apply_on, add_on, migrate_on}
use Rattle.exclusion_entries.specs.Entries.{map_bytes, excluded_at, is_map}

abbrev pub map_table : Table (List ℕ) (List MapEntry)
map_table = in_bytes is_map excluded_at map_bytes

-- a call that is lent a transaction too, or none: empty bytes
unfoldable pub with_tx : {A : Type 0} → List ℕ → Outcome A → Outcome A
with_tx tx o = do
  -- the transaction unreadable
  check 1 (readable (option Transaction) tx)
  o

-- the number n is answered for the bytes s, which become t; a buffer `out` becomes `after`
module _ (s : List ℕ) (n : ℕ) where
  abbrev pub Adds : List ℕ → List ℕ → List ℕ → Type 0
  Adds t hash tx = Leaves map_table s n t (with_tx tx (on_table map_table s (add_on (excluded_at s) hash tx)))

  abbrev pub Commits : List ℕ → List ℕ → BlockNumber → Type 0
  Commits t hash block = Leaves map_table s n t (on_table map_table s (commit_on (excluded_at s) hash block))

  abbrev pub Removes : List ℕ → List ℕ → Type 0
  Removes t hash = Leaves map_table s n t (on_table map_table s (remove_on (excluded_at s) hash))

  abbrev pub Truncates : List ℕ → BlockNumber → Type 0
  Truncates t tip = Leaves map_table s n t (on_table map_table s (truncate_on (excluded_at s) tip))

  abbrev pub Migrates : List ℕ → List ℕ → List ℕ → List ℕ → Type 0
  Migrates t old new tx = Leaves map_table s n t (with_tx tx (on_table map_table s (migrate_on (excluded_at s) old new tx)))

  -- it leaves the map
  abbrev pub Applies : List ℕ → List ℕ → Type 0
  Applies out after = (n, after) ≡ after_list (λ b. on_table map_table s (apply_on (excluded_at s) b)) out
