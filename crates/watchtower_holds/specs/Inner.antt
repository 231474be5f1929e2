-- What the functions inside promise one another; no contract of a call cites it. The calls' definitions are crates/hold_records/specs/Holds.antt.
use Rattle.std.specs.Prelude.{◌≡◌, ℕ, suc, ◌+◌, ◌-◌, ◌*◌, ◌≤◌, ◌<◌, min, Bool, true, false, not, cond, List, [], ◌∷◌, ltb, length, get_or, set}
use Rattle.out_points.specs.declared.{OutPoint.OutPoint}
use Rattle.out_points.specs.OutPoints.{slot_of}
use Rattle.hold_records.specs.declared.{Hold.Hold}
use Rattle.hold_records.specs.Holds.{is_tower_on, is_unnamed}

-- where the watchtower's first record on p stands, and the end if there is none
unfoldable pub tower_place : OutPoint → List Hold → ℕ
tower_place p [] = 0
tower_place p (r ∷ l) = cond (is_tower_on p r) 0 (suc (tower_place p l))

-- ---- hints, two for each slot

-- m with a place n noted in slot x
unfoldable pub noted : List ℕ → ℕ → ℕ → List ℕ
noted m x n =
    let first = get_or m (2 * x) 0 in
    cond (ltb n first) (set m (2 * x) n) (cond (ltb first n) (set m (2 * x + 1) (min (get_or m (2 * x + 1) 0) (n - 1))) m)

-- a record at place j is not missed: it stands at the first hint, or behind the second
pub record NotMissed (first other j : ℕ) : Type 0 where
  pub least : first ≤ j
  pub behind : first < j → other < j

-- by their slot none of the watchtower's is missed among the first n records in l
pub record Hints (m : List ℕ) (l : List Hold) (n : ℕ) : Type 0 where
  pub enough : length m ≡ 8186
  pub each : (p : OutPoint) (j : ℕ) (d : Hold) → j < n → is_tower_on p (get_or l j d) ≡ true
      → NotMissed (get_or m (2 * slot_of p) 0) (get_or m (2 * slot_of p + 1) 0) j

-- ---- marks, one for each record

unfoldable pub mark_at : List Bool → ℕ → Bool → List Bool
mark_at m at on = cond on (set m at true) m

-- of the first n records in l those have no mark that stay when the watchtower's holds on the cells go
pub record ReleaseMarks (cells : List OutPoint) (l : List Hold) (n : ℕ) (m : List Bool) : Type 0 where
  pub room : length m ≡ 256
  pub each : (j : ℕ) (d : Hold) → j < n → not (get_or m j false) ≡ is_unnamed cells (get_or l j d)
