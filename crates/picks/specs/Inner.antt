-- What the functions inside promise one another; no contract of a call cites it.
use Rattle.std.specs.Prelude.{◌≡◌, ℕ, ◌+◌, ◌≤◌, min, Bool, true, false, not, List, ◌++◌, map, length, get_or}
use Rattle.molecule.specs.Layout.{fix_count}
use Rattle.out_points.specs.declared.{OutPoint.OutPoint}
use Rattle.out_points.specs.OutPoints.{point_of}
use Rattle.hold_records.specs.declared.{Owner.Owner, Hold.Hold, Held.Held}
use Rattle.error.specs.Outcome.{Outcome}
use Rattle.hold_records.specs.Holds.{records_of, held_by, take_these, after_take}
use Rattle.pick_kinds.specs.declared.{Kind.Kind}
use Rattle.unavailable_picks.specs.Inner.{select}

-- pick i is to be taken: its kind (`kind_of`, crate pick_kinds) is that of a free one, the first on its cell
unfoldable pub is_free_kind : Kind → Bool
is_free_kind Kind.Again = false
is_free_kind Kind.Free = true
is_free_kind Kind.Busy = false

unfoldable pub is_free : List Kind → ℕ → Bool
is_free kinds i = is_free_kind (get_or kinds i Kind.Again)

unfoldable pub is_left : List Kind → ℕ → Bool
is_left kinds i = not (is_free kinds i)

-- the picks to take, and the others
unfoldable pub free_of : List ℕ → List Kind → List OutPoint
free_of picked kinds = select (is_free kinds) (point_of picked) 0 (fix_count picked)

unfoldable pub left_of : List ℕ → List Kind → List OutPoint
left_of picked kinds = select (is_left kinds) (point_of picked) 0 (fix_count picked)

-- the table g is h with a record of the owner's last for each of the out points l, if there is room; `count` is how many they are
pub record Tallied (owner : Owner) (l : List OutPoint) (h g : Held) (count : ℕ) : Type 0 where
  pub whole : length h.records ≡ 256
  pub counted : count ≡ length l
  pub stands : min h.count 256 + count ≤ 256 → g.count ≡ min h.count 256 + count
  pub added : min h.count 256 + count ≤ 256 → records_of g ≡ records_of h ++ map (held_by owner) l

-- `take` of picks that are split by their kinds, from the records left
abbrev pub take_split : List Hold → List ℕ → List Kind → Owner → List ℕ → List ℕ → Outcome (List Hold) × List ℕ × List ℕ
take_split left picked kinds owner out₁ out₂ = after_take (take_these left (free_of picked kinds) (left_of picked kinds) owner) out₁ out₂
