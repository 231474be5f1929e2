-- The calls: one law for each way out.
use mathlib.Core.Path.{◌≡◌, ap, ◌∙◌}
use Prim.Native.Nat.{ℕ}
use mathlib.Core.Bool.{Bool, true, false}
use mathlib.Core.List.{List}
use Rattle.std.proofs.Common.{Ok, Err, Result}
use Rattle.error.specs.declared.{Refusal.Refusal}
use Rattle.error.specs.Refusal.{number, values}
use Rattle.error.specs.Outcome.{fine, check, check_with, ◌>>◌, told_by}
use Rattle.units.specs.declared.{Millis.Millis}
use Rattle.units.specs.Units.{later}
use Rattle.molecule.specs.Molecule.{readable}
use Rattle.transaction.specs.Ckb.{OutPoints}
use Rattle.out_points.specs.OutPoints.{points}
use Rattle.std.specs.List.{filter}
use Rattle.hold_records.specs.declared.{Hold.Hold, Held.Held}
use Rattle.hold_records.specs.Holds.{records_of, at_most_256, is_unnamed, renew_all, release_for_watchtower, hold_for_watchtower}

-- ---- release_for_watchtower

module _ (h : Held) (cells : List ℕ) {b : Bool} (eb : b ≡ readable OutPoints cells) where
  pub release-unread : b ≡ false → told_by records_of (Err Refusal.LentBytesUnreadable) ≡ release_for_watchtower (records_of h) cells
  unfolding release_for_watchtower number values check check_with ◌>>◌
  release-unread t = rw (← eb, t)

  pub release-done : (g : Held) → b ≡ true → records_of g ≡ filter (is_unnamed (points cells)) (records_of h) → told_by records_of (Ok g) ≡ release_for_watchtower (records_of h) cells
  unfolding release_for_watchtower check check_with ◌>>◌
  release-done g t eg = ap fine eg ∙ rw (← eb, t)

-- ---- hold_for_watchtower

module _ (h : Held) (cells : List ℕ) (time : Millis) {b : Bool} (eb : b ≡ readable OutPoints cells) where
  pub tower-unread : b ≡ false → told_by records_of (Err Refusal.LentBytesUnreadable) ≡ hold_for_watchtower (records_of h) cells time
  unfolding hold_for_watchtower number values check check_with ◌>>◌
  tower-unread t = rw (← eb, t)

  pub tower-done : (o : Result Held Refusal) {t : Millis} → b ≡ true → t ≡ later time (record { 0 = 1800000 }) → told_by records_of o ≡ at_most_256 (renew_all t (records_of h) (points cells))
      → told_by records_of o ≡ hold_for_watchtower (records_of h) cells time
  unfolding hold_for_watchtower check check_with ◌>>◌
  tower-done o u et e = e ∙ rw (← eb, u, et)

pub renewed-on : (h g : Held) (o : Result Held Refusal) (t : Millis) (s : List ℕ) → records_of g ≡ records_of h → told_by records_of o ≡ at_most_256 (renew_all t (records_of g) (points s))
    → told_by records_of o ≡ at_most_256 (renew_all t (records_of h) (points s))
renewed-on h g o t s e f = f ∙ ap (λ (l : List Hold). at_most_256 (renew_all t l (points s))) e
