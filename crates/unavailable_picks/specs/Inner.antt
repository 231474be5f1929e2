-- What the functions inside promise one another; no contract of a call cites it.
use Rattle.std.specs.Prelude.{◌≡◌, ℕ, zero, suc, Bool, true, false, not, cond, List, [], ◌∷◌, length, get_or, set}
use Rattle.molecule.specs.Layout.{span}
use Rattle.out_points.specs.declared.{OutPoint.OutPoint}
use Rattle.out_points.specs.OutPoints.{slot_of, has, points}
use Rattle.hold_records.specs.Holds.{firsts}
use Rattle.pick_kinds.specs.declared.{Picks.Picks}
use Rattle.pick_kinds.specs.Kinds.{is_held_or_spent}

-- the marks with those of the out points set: one for each slot
unfoldable pub marked : List OutPoint → List Bool → List Bool
marked [] m = m
marked (p ∷ l) m = marked l (set m (slot_of p) true)

-- where its mark is not set, an out point is neither among the cells nor spent
pub record Marks (cells spent : List OutPoint) (m : List Bool) : Type 0 where
  pub enough : length m ≡ 4093
  pub unmarked : (p : OutPoint) → get_or m (slot_of p) false ≡ false → is_held_or_spent cells spent p ≡ false

-- pick i passes the test, and no pick before it is the same
unfoldable pub is_first : (OutPoint → Bool) → (ℕ → OutPoint) → ℕ → Bool
is_first f g i = cond (f (g i)) (not (has (g i) (span g 0 i))) false

-- of k picks from i on, those whose number passes the test
unfoldable pub select : (ℕ → Bool) → (ℕ → OutPoint) → ℕ → ℕ → List OutPoint
select t g i zero = []
select t g i (suc k) = cond (t i) (g i ∷ select t g (suc i) k) (select t g (suc i) k)

-- the picks that are among the cells or spent, each once
unfoldable pub named : List ℕ → List ℕ → List ℕ → List OutPoint
named cells picked spent = firsts (is_held_or_spent (points cells) (points spent)) [] (points picked)

-- the picks that are busy, each once
abbrev pub named_of : Picks → List OutPoint
named_of p = named p.cells.now p.picked.now p.spent.now
