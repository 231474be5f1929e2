-- What becomes of a record over any list of calls that does not let it go, and that it stands.
use mathlib.Core.Path.{◌≡◌, refl, sym, ap, ◌∙◌, subst}
use Prim.Native.Nat.{ℕ}
use native.Mathlib.Omega.{arith}
use mathlib.Core.Bool.{Bool, true, false, not, cond, false≢true}
use mathlib.Core.List.{List, [], ◌∷◌, ◌++◌, map}
use mathlib.Core.Option.{Option, none, some}
use borrow.Author.Tests.{eqb-true, not-false}
use lib.Dec.{eqb}
use Rattle.units.specs.declared.{Millis.Millis}
use Rattle.units.specs.Units.{later}
use Rattle.out_points.specs.declared.{OutPoint.OutPoint}
use Rattle.out_points.specs.OutPoints.{eq_point, has, points}
use Rattle.out_points.proofs.EqualLaws.{point-same, point_refl}
use Rattle.std.specs.List.{filter}
use Rattle.out_points.specs.Tables.{renew}
use Rattle.hold_records.specs.declared.{Owner.Owner, Hold.Hold}
use Rattle.hold_records.specs.Holds.{held_by, by_owner, cells_of, is_not_of, is_unnamed, is_tower_on, renew_all, is_live}
use Rattle.watchtower_holds.proofs.RenewLaws.{tower}
use Rattle.table_laws.specs.Holds as run
use Rattle.table_bytes.specs.Lent.{Table, Leaves}
use Rattle.error.specs.Outcome.{Outcome}
use Rattle.error.specs.Refusal.{answered}
use Rattle.table_laws.specs.Holds.{Called, kept_if, if_done, after, Followed}
use Rattle.table_laws.specs.Stands.{Stands, here, there}
use Rattle.table_laws.proofs.Standing.{stands-filter, stands-renew, stands_new}
use Rattle.table_laws.proofs.Outcomes.{Fine, left-done, left-refused}
use Rattle.table_laws.proofs.Calls.{unended, hold-fine, watch-fine, release-fine, locked-fine, take-fine}
use Rattle.std.specs.Prelude.{Ok, Err}
use Rattle.table_laws.specs.Answers.{Answer}

-- ---- which list operations it outlives

stands-append : (r : Hold) (l m : List Hold) → Stands r l → Stands r (l ++ m)
stands-append r l m (here k) = here (k ++ m)
stands-append r l m (there x k s) = there x (k ++ m) (stands-append r k m s)

-- a record on none of the cells is not on the first of them, nor on one of the others
unnamed_next : (r : Hold) (q : OutPoint) (ps : List OutPoint) → is_unnamed (q ∷ ps) r ≡ true → (is_tower_on q r ≡ false) × (is_unnamed ps r ≡ true)
unfolding is_unnamed is_tower_on by_owner has
unnamed_next r q ps h = by r.owner h
  where
    other : (b c : Bool) → eq_point r.point q ≡ b → eq_point q r.point ≡ c → not (cond b true (has r.point ps)) ≡ true → (c ≡ false) × (not (has r.point ps) ≡ true)
    other true c e f h = absurd (false≢true h)
    other false true e f h = absurd (false≢true (sym e ∙ ap (eq_point r.point) (point-same q r.point f) ∙ point_refl r.point))
    other false false e f h = (refl, h)

    by : (o : Owner) → by_owner (λ n. true) (λ end. not (cond (eq_point r.point q) true (has r.point ps))) o ≡ true
        → (by_owner (λ n. false) (λ end. eq_point q r.point) o ≡ false) × (by_owner (λ n. true) (λ end. not (has r.point ps)) o ≡ true)
    by (Owner.Funding n) h = (refl, refl)
    by (Owner.Watchtower end) h = other (eq_point r.point q) (eq_point q r.point) refl refl h

stands_renewed : (t : Millis) (r : Hold) (ps : List OutPoint) (l : List Hold) → is_unnamed ps r ≡ true → Stands r l → Stands r (renew_all t l ps)
unfolding renew_all
stands_renewed t r [] l h s = s
stands_renewed t r (q ∷ ps) l h s = let (a, b) = unnamed_next r q ps h in stands_renewed t r ps (renew (is_tower_on q) (tower t q) l) b (stands-renew r (is_tower_on q) (tower t q) l a s)

-- a record that is renewed, or new, stands; and stays when it is renewed again with the same end

renewed_here : (t : Millis) (p : OutPoint) (l : List Hold) → Stands (tower t p) (renew (is_tower_on p) (tower t p) l)
renewed_here t p l = stands_new (is_tower_on p) (tower t p) l

renewed_stays : (t : Millis) (p q : OutPoint) (l : List Hold) → Stands (tower t p) l → Stands (tower t p) (renew (is_tower_on q) (tower t q) l)
unfolding is_tower_on by_owner
renewed_stays t p q l s = by (eq_point q p) refl
  where
    by : (b : Bool) → eq_point q p ≡ b → Stands (tower t p) (renew (is_tower_on q) (tower t q) l)
    by true e = subst (λ (o : OutPoint). Stands (tower t p) (renew (is_tower_on o) (tower t o) l)) (sym (point-same q p e)) (renewed_here t p l)
    by false e = stands-renew (tower t p) (is_tower_on q) (tower t q) l e s

all_stays : (t : Millis) (p : OutPoint) (ps : List OutPoint) (l : List Hold) → Stands (tower t p) l → Stands (tower t p) (renew_all t l ps)
unfolding renew_all
all_stays t p [] l s = s
all_stays t p (q ∷ ps) l s = all_stays t p ps (renew (is_tower_on q) (tower t q) l) (renewed_stays t p q l s)

pub named-stands : (t : Millis) (p : OutPoint) (ps : List OutPoint) (l : List Hold) → has p ps ≡ true → Stands (tower t p) (renew_all t l ps)
unfolding renew_all has
named-stands t p [] l h = absurd (false≢true h)
named-stands t p (q ∷ ps) l h = by (eq_point p q) refl h (named-stands t p ps (renew (is_tower_on q) (tower t q) l))
  where
    next : List Hold
    next = renew_all t (renew (is_tower_on q) (tower t q) l) ps

    by : (b : Bool) → eq_point p q ≡ b → cond b true (has p ps) ≡ true → (has p ps ≡ true → Stands (tower t p) next) → Stands (tower t p) next
    by true e h k =
        all_stays t p ps (renew (is_tower_on q) (tower t q) l)
        (subst (λ (o : OutPoint). Stands (tower t p) (renew (is_tower_on o) (tower t o) l)) (point-same p q e) (renewed_here t p l))
    by false e h k = k h

-- ---- what is added stands

behind : (r : Hold) (a m : List Hold) → Stands r m → Stands r (a ++ m)
behind r [] m s = s
behind r (x ∷ a) m s = there x (a ++ m) (behind r a m s)

recorded : (o : Owner) (p : OutPoint) (l : List OutPoint) → has p l ≡ true → Stands (held_by o p) (map (held_by o) l)
unfolding has
recorded o p [] h = let z : ◌≡◌ {A = ℕ} 0 1 = cc in absurd (omega arith)
recorded o p (q ∷ l) h = by (eq_point p q) refl h (recorded o p l)
  where
    by : (b : Bool) → eq_point p q ≡ b → cond b true (has p l) ≡ true → (has p l ≡ true → Stands (held_by o p) (map (held_by o) l)) → Stands (held_by o p) (held_by o q ∷ map (held_by o) l)
    by true e h f = subst (λ (x : OutPoint). Stands (held_by o p) (held_by o x ∷ map (held_by o) l)) (point-same p q e) (here (map (held_by o) l))
    by false e h f = there (held_by o q) (map (held_by o) l) (f h)

pub taken-stands : (o : Owner) (p : OutPoint) (left : List Hold) (taken : List OutPoint) → has p taken ≡ true → Stands (held_by o p) (left ++ map (held_by o) taken)
taken-stands o p left taken h = behind (held_by o p) left (map (held_by o) taken) (recorded o p taken h)

-- ---- and its cell is held

pub stands-has : (r : Hold) (l : List Hold) → Stands r l → has r.point (cells_of l) ≡ true
unfolding has
stands-has r l (here k) = rw (point_refl r.point)
stands-has r l (there x k s) = by (eq_point r.point x.point) (stands-has r k s)
  where
    by : (b : Bool) → has r.point (cells_of k) ≡ true → cond b true (has r.point (cells_of k)) ≡ true
    by true h = refl
    by false h = h

-- ---- a record that a call takes out is of its holder, or on a named cell

is-of : (x : Hold) (holder : ℕ) → is_not_of holder x ≡ false → held_by (Owner.Funding holder) x.point ≡ x
unfolding is_not_of by_owner
is-of x holder e = by x.owner refl e
  where
    by : (o : Owner) → x.owner ≡ o → by_owner (λ n. not (eqb n holder)) (λ end. true) o ≡ false → held_by (Owner.Funding holder) x.point ≡ x
    by (Owner.Funding n) k e = ap (λ (o : Owner). held_by o x.point) (ap Owner.Funding (sym (eqb-true n holder (not-false (eqb n holder) e))) ∙ sym k)
    by (Owner.Watchtower end) k e = absurd (false≢true (sym e))

is-named : (x : Hold) (ps : List OutPoint) → is_unnamed ps x ≡ false → has x.point ps ≡ true
unfolding is_unnamed by_owner
is-named x ps e = by x.owner e
  where
    by : (o : Owner) → by_owner (λ n. true) (λ end. not (has x.point ps)) o ≡ false → has x.point ps ≡ true
    by (Owner.Funding n) e = absurd (false≢true (sym e))
    by (Owner.Watchtower end) e = not-false (has x.point ps) e

-- ---- over any list of calls

-- what a call makes of x: it is let go, or stands in what is left as y, on the same cell
data Made (x : Hold) (l : List Hold) : Option Hold → Type 0 where
  gone : Made x l none
  becomes : {y : Hold} → Stands y l → y.point ≡ x.point → Made x l (some y)

kept : (x : Hold) (b : Bool) (l : List Hold) → (b ≡ true → Stands x l) → Made x l (kept_if b x)
unfolding kept_if
kept x true l k = becomes (k refl) refl
kept x false l k = gone

by_answer : {T : Type 0} (F : Table T (List Hold)) (s : T) {t : T} (x : Hold) (a : Answer) (m : Option Hold) (o : Outcome (List Hold)) → Leaves F s (answered a) t o → Fine (λ l. Made x l m) o → Stands x (F.means s) → Made x (F.means t) (if_done a x m)
unfolding if_done answered
by_answer F s x (Ok _) m o e fine q = left-done F s o e refl (λ l. Made x l m) fine
by_answer {T} F s x (Err why) m o e fine q = becomes (subst (λ (u : T). Stands x (F.means u)) (sym (left-refused F s o e why refl)) q) refl

module _ {T : Type 0} {F : Table T (List Hold)} where
  made : {s t : T} (x : Hold) (c : Called F s t) → Stands x (F.means s) → Made x (F.means t) (after x c)
  unfolding after
  made x (run.hold {s} {t} a holder cells e) q =
      by_answer F s x a _ _ e (hold-fine F s (λ l. Made x l _) holder cells (kept x _ _ by)) q
    where
      by : cond (is_not_of holder x) true (has x.point (points cells)) ≡ true
          → Stands x (filter (is_not_of holder) (F.means s) ++ map (held_by (Owner.Funding holder)) (points cells))
      by h = either (is_not_of holder x) refl h
        where
          either : (b : Bool) → is_not_of holder x ≡ b → cond b true (has x.point (points cells)) ≡ true
              → Stands x (filter (is_not_of holder) (F.means s) ++ map (held_by (Owner.Funding holder)) (points cells))
          either true k h = stands-append x (filter (is_not_of holder) (F.means s)) _ (stands-filter x (is_not_of holder) (F.means s) k q)
          either false k h =
              subst (λ (y : Hold). Stands y (filter (is_not_of holder) (F.means s) ++ map (held_by (Owner.Funding holder)) (points cells))) (is-of x holder k)
              (taken-stands (Owner.Funding holder) x.point (filter (is_not_of holder) (F.means s)) (points cells) h)
  made x (run.watch {s} {t} a cells now e) q =
      by_answer F s x a _ _ e (watch-fine F s (λ l. Made x l _) cells now (by (is_unnamed (points cells) x) refl)) q
    where
      end : Millis
      end = later now (record { 0 = 1800000 })

      by : (b : Bool) → is_unnamed (points cells) x ≡ b → Made x (renew_all end (F.means s) (points cells)) (some (cond b x (tower end x.point)))
      by true k = becomes (stands_renewed end x (points cells) (F.means s) k q) refl
      by false k = becomes (named-stands end x.point (points cells) (F.means s) (is-named x (points cells) k)) refl
  made x (run.release {s} {t} a cells e) q =
      by_answer F s x a _ _ e
      (release-fine F s (λ l. Made x l _) cells (kept x _ _ (λ k. stands-filter x (is_unnamed (points cells)) (F.means s) k q))) q
  made x (run.locked {s} {t} a now out buffer e) q =
      by_answer F s x a _ _ e.0
      (locked-fine F s (λ l. Made x l _) now out (kept x _ _ (λ k. stands-filter x (is_live now) (F.means s) k q))) q
  made x (run.take {s} {t} a picked spent taker now out₁ out₂ after₁ after₂ e) q =
      by_answer F s x a _ _ e.0
      (take-fine F s (λ l. Made x l _) picked spent taker now out₁ out₂
      (kept x _ _ (λ k. stands-append x (unended (F.means s) now) _ (stands-filter x (is_live now) (F.means s) k q)))) q

  still_from : (x : Hold) {s t : T} {y : Hold} → Stands x (F.means s) → Followed F x s t y → Stands y (F.means t) × (y.point ≡ x.point)
  still_from x q run.start = (q, refl)
  still_from x q (run.then {s} {t} {u} {y} {z} cs c e) =
      let (r, k) = still_from x q cs in by k (subst (Made y (F.means u)) e (made y c r))
    where
      by : y.point ≡ x.point → Made y (F.means u) (some z) → Stands z (F.means u) × (z.point ≡ x.point)
      by k (becomes m n) = (m, n ∙ k)

  pub still : {s t : T} (x : Hold) {y : Hold} → Stands x (F.means s) → Followed F x s t y → Stands y (F.means t) × (y.point ≡ x.point)
  still x q f = still_from x q f
