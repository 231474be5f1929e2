-- What a pick is to the calls on holds: a repeat of an earlier pick, or the first on its cell, and then free or busy.
use Rattle.std.specs.Prelude.{◌≡◌, ℕ, ◌≤◌, ◌<◌, Bool, true, false, cond, List, length, get_or}
use Rattle.molecule.specs.Layout.{span}
use Rattle.out_points.specs.declared.{OutPoint.OutPoint}
use Rattle.out_points.specs.OutPoints.{has}
use Rattle.pick_kinds.specs.declared.{Kind.Kind}

-- p is among the cells that are held, or spent: `is_busy` (crate hold_records) of the list of the records' cells
unfoldable pub is_held_or_spent : List OutPoint → List OutPoint → OutPoint → Bool
is_held_or_spent cells spent p = cond (has p cells) true (has p spent)

unfoldable pub none_is : OutPoint → Bool
none_is p = false

-- pick i of g, where `busy` says which cells are
unfoldable pub kind_of : (OutPoint → Bool) → (ℕ → OutPoint) → ℕ → Kind
kind_of busy g i = cond (has (g i) (span g 0 i)) Kind.Again (cond (busy (g i)) Kind.Busy Kind.Free)

-- what the first n picks are
pub record Kinds (busy : OutPoint → Bool) (g : ℕ → OutPoint) (n : ℕ) (kinds : List Kind) : Type 0 where
  pub room : n ≤ length kinds
  pub each : (i : ℕ) → i < n → get_or kinds i Kind.Again ≡ kind_of busy g i
