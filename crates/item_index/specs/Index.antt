-- An index over a list of sized items: places of the items, in the order of the items' bytes from `skip` on.
use Rattle.std.specs.Prelude.{◌≡◌, ℕ, suc, ◌≤◌, ◌<◌, Bool, true, false, cond, List, [], ◌∷◌, length, get_or, drop, ltb}
use Rattle.molecule.specs.Layout.{fix_item}
use Rattle.lists.specs.Lists.{eq_bytes}
use Rattle.item_index.specs.Order.{sorts_before}

-- the bytes of item i from `skip` on
unfoldable pub key_of : List ℕ → ℕ → ℕ → ℕ → List ℕ
key_of b k skip i = drop skip (fix_item b k i)

-- the item at p comes before the one at q; of two that are the same the one at the smaller place comes first
unfoldable pub comes : (ℕ → List ℕ) → ℕ → ℕ → Bool
comes f p q = cond (sorts_before (f p) (f q)) true (cond (sorts_before (f q) (f p)) false (ltb p q))

-- the first place of x in a list, and the length where it is not there
unfoldable pub place_in : List ℕ → List (List ℕ) → ℕ
place_in x [] = 0
place_in x (y ∷ ys) = cond (eq_bytes x y) 0 (suc (place_in x ys))

-- v stands in s, from lo on and before hi
pub record Stands (v : ℕ) (s : List ℕ) (lo hi : ℕ) : Type 0 where
  pub at : ℕ
  pub from : lo ≤ at
  pub below : at < hi
  pub is : get_or s at 0 ≡ v

-- from lo on and before hi no item comes before an earlier one
pub record Rises (f : ℕ → List ℕ) (s : List ℕ) (lo hi : ℕ) : Type 0 where
  pub rising : (i j : ℕ) → lo ≤ i → i < j → j < hi → comes f (get_or s j 0) (get_or s i 0) ≡ false

-- the index: the first n of s are 0 to n - 1, each of them (so each once), and the items at them rise
pub record Index (f : ℕ → List ℕ) (n : ℕ) (s : List ℕ) : Type 0 where
  pub room : n ≤ length s
  pub inside : (j : ℕ) → j < n → get_or s j 0 < n
  pub onto : (i : ℕ) → i < n → Stands i s 0 n
  pub order : Rises f s 0 n

-- ---- what the functions inside promise one another

-- the first n are 0 to n - 1
pub record Counts (n : ℕ) (after : List ℕ) : Type 0 where
  pub room : n ≤ length after
  pub each : (i : ℕ) → i < n → get_or after i 0 ≡ i
