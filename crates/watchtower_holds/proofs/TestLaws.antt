-- Tests of one record: one law for each way out of the functions.
use mathlib.Core.Path.{◌≡◌, refl, sym}
use Prim.Native.Nat.{ℕ}
use mathlib.Core.Bool.{Bool, true, false, and-false}
use borrow.Author.Tests.{ne_eqb}
use Rattle.units.specs.declared.{Millis.Millis}
use Rattle.out_points.specs.declared.{OutPoint.OutPoint}
use Rattle.out_points.specs.OutPoints.{eq_hash, eq_point}
use Rattle.out_points.proofs.EqualLaws.{point_refl}
use Rattle.hold_records.specs.declared.{Owner.Owner, Hold.Hold}
use Rattle.hold_records.specs.Holds.{by_owner, is_tower_on}

pub on-funding : (r : Hold) {n : ℕ} → r.owner ≡ Owner.Funding n → (p : OutPoint) → false ≡ is_tower_on p r
unfolding is_tower_on by_owner
on-funding r e p = rw e

-- by the first word alone
pub off-word : (r : Hold) (p : OutPoint) → (p.hash.a ≡ r.point.hash.a → ⊥) → false ≡ is_tower_on p r
unfolding is_tower_on by_owner eq_point eq_hash
off-word r p h = by r.owner
  where
    by : (o : Owner) → false ≡ by_owner (λ n. false) (λ end. eq_point p r.point) o
    by (Owner.Funding n) = refl
    by (Owner.Watchtower t) = sym (simp (ne_eqb p.hash.a r.point.hash.a h, and-false))

module _ (r : Hold) {t : Millis} (e : r.owner ≡ Owner.Watchtower t) where
  pub on-tower : (p : OutPoint) {b : Bool} → b ≡ eq_point p r.point → b ≡ is_tower_on p r
  unfolding is_tower_on by_owner
  on-tower p h = rw e h

  pub is-tower : true ≡ is_tower_on r.point r
  is-tower = on-tower r.point (sym (point_refl r.point))
