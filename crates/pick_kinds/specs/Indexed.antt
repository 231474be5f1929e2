-- What the functions inside promise one another.
use Rattle.std.specs.Prelude.{◌≡◌, ℕ, ◌+◌, ◌*◌, ◌≤◌, ◌<◌, Bool, true, false, cond, List, length, Option, Some, unwrap_or}
use Rattle.arithmetic.specs.LittleEndian.{AllBytes}
use Rattle.molecule.specs.Layout.{fix_count}
use Rattle.out_points.specs.declared.{OutPoint.OutPoint}
use Rattle.out_points.specs.OutPoints.{eq_point, has}
use Rattle.item_index.specs.Index.{key_of, Index}
use Rattle.pick_kinds.specs.declared.{Kind.Kind}
use Rattle.pick_kinds.specs.Kinds.{Kinds}

-- a list that has all its items whole: two items are then the same out point exactly if they are the same bytes
pub record Whole (s : List ℕ) : Type 0 where
  pub long : 4 + 36 * fix_count s ≤ length s
  pub bytes : AllBytes s

pub record AllWhole (cells picked spent : List ℕ) : Type 0 where
  pub held : Whole cells
  pub picks : Whole picked
  pub gone : Whole spent

-- s is the index of the first picks, as many as it is long
pub record Places (cells picked spent s : List ℕ) : Type 0 where
  pub whole : AllWhole cells picked spent
  pub some : length s ≤ fix_count picked
  pub index : ∥ Index (key_of picked 36 0) (length s) s ∥₁

-- the first of n picks g that is q, or n
pub record FirstAt (g : ℕ → OutPoint) (n : ℕ) (q : OutPoint) (at : ℕ) : Type 0 where
  pub before : (i : ℕ) → i < at → eq_point q (g i) ≡ false
  pub there : at < n → eq_point q (g at) ≡ true

-- the same, or nothing
pub record First (g : ℕ → OutPoint) (n : ℕ) (q : OutPoint) (r : Option ℕ) : Type 0 where
  pub inside : (at : ℕ) → r ≡ Some at → at < n
  pub first : FirstAt g n q (unwrap_or r n)

-- what is busy, and the out points of a list beside it
unfoldable pub also : (OutPoint → Bool) → List OutPoint → OutPoint → Bool
also busy l p = cond (busy p) true (has p l)

-- whatever was busy before, in `after` the out points of l are too
pub record Adds (g : ℕ → OutPoint) (n : ℕ) (l : List OutPoint) (kinds after : List Kind) : Type 0 where
  pub on : (busy : OutPoint → Bool) → Kinds busy g n kinds → Kinds (also busy l) g n after
