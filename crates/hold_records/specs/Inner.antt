-- What the functions inside promise one another; no contract of a call cites it.
use Rattle.std.specs.Prelude.{ℕ, Bool, cond, List}
use Rattle.out_points.specs.declared.{OutPoint.OutPoint}
use Rattle.out_points.specs.Tables.{has_room, with_list}
use Rattle.hold_records.specs.declared.{Hold.Hold, Rule.Rule}
use Rattle.hold_records.specs.Holds.{is_not_of, is_live}

-- which records `keep` keeps
unfoldable pub is_kept : Rule → Hold → Bool
is_kept (Rule.Live now) r = is_live now r
is_kept (Rule.NotOf holder) r = is_not_of holder r

-- the buffer with the list, or as it was where there is no room for it
unfoldable pub put_if : List OutPoint → List ℕ → List ℕ
put_if l out = cond (has_room l out) (with_list l out) out
