-- Who gets a cell: of the bytes that calls leave, read back as lists.
use mathlib.Core.Path.{◌≡◌, refl, sym, ap, ◌∙◌, subst}
use Prim.Native.Nat.{ℕ, suc, ◌≤◌, ◌<◌, ◌^◌}
use mathlib.Core.List.{List, [], ◌∷◌}
use mathlib.Core.Bool.{Bool, true, false, not, cond, false≢true}
use native.Mathlib.Omega.{arith}
use lib.ListN.{length}
use Rattle.units.specs.{declared.Millis.Millis, Units.later}
use Rattle.molecule.specs.Partial.{All}
use Rattle.out_points.specs.declared.OutPoint.{OutPoint}
use Rattle.out_points.specs.OutPoints.{eq_point, has, points, Fit}
use Rattle.std.specs.List.{filter}
use Rattle.out_points.proofs.EqualLaws.{point-same, point_refl}
use Rattle.out_points.proofs.ListLaws.{length-points}
use Rattle.out_points.proofs.AgainLaws.{written_back, points-fit, count_fits}
use Rattle.hold_records.specs.declared.{Owner.Owner, Hold.Hold, Taker.Taker}
use Rattle.hold_records.specs.Holds.{cells_of, is_not_of, is_live, is_busy, is_new, firsts, others, owner_for}
use Rattle.table_laws.specs.Holds as run
use Rattle.table_bytes.specs.Lent.{Table}
use Rattle.table_laws.specs.Holds.{by_value, Took, Locked, InRange, HeldRefused, HeldStands, LockedRefused, NotGiven, StaysHeld, HeldOnce}
use Rattle.table_laws.specs.Stands.{Stands}
use Rattle.table_laws.proofs.Standing.{stands-filter}
use Rattle.table_laws.proofs.Outcomes.{left-done}
use Rattle.table_laws.proofs.Calls.{unended, hold-fine, watch-fine, is_free, given, kept, locked-done, take_done}
use Rattle.table_laws.proofs.Holds.{busy_not_given}
use Rattle.table_laws.proofs.Stands.{stands-has, taken-stands, named-stands, still}

-- ---- parts of lists whose numbers fit: they are no longer, and theirs fit too

module _ (f : OutPoint → Bool) where
  firsts-few : (before l : List OutPoint) → length (firsts f before l) ≤ length l
  unfolding firsts
  firsts-few before [] = omega arith
  firsts-few before (p ∷ l) = by (is_new f before p) (firsts-few (p ∷ before) l) (firsts-few before l)
    where
      by : (b : Bool) → length (firsts f (p ∷ before) l) ≤ length l → length (firsts f before l) ≤ length l → length (cond b (p ∷ firsts f (p ∷ before) l) (firsts f before l)) ≤ suc (length l)
      by true x y = omega (arith, x)
      by false x y = omega (arith, y)

  others-few : (before l : List OutPoint) → length (others f before l) ≤ length l
  unfolding others
  others-few before [] = omega arith
  others-few before (p ∷ l) = by (is_new f before p) (others-few (p ∷ before) l) (others-few before l)
    where
      by : (b : Bool) → length (others f (p ∷ before) l) ≤ length l → length (others f before l) ≤ length l → length (cond b (others f (p ∷ before) l) (p ∷ others f before l)) ≤ suc (length l)
      by true x y = omega (arith, x)
      by false x y = omega (arith, y)

  firsts-fit : (before l : List OutPoint) → All Fit l → All Fit (firsts f before l)
  unfolding firsts
  firsts-fit before [] a = tt
  firsts-fit before (p ∷ l) (a, b) = by (is_new f before p) (firsts-fit (p ∷ before) l b) (firsts-fit before l b)
    where
      by : (b : Bool) → All Fit (firsts f (p ∷ before) l) → All Fit (firsts f before l) → All Fit (cond b (p ∷ firsts f (p ∷ before) l) (firsts f before l))
      by true x y = (a, x)
      by false x y = y

  others-fit : (before l : List OutPoint) → All Fit l → All Fit (others f before l)
  unfolding others
  others-fit before [] a = tt
  others-fit before (p ∷ l) (a, b) = by (is_new f before p) (others-fit (p ∷ before) l b) (others-fit before l b)
    where
      by : (b : Bool) → All Fit (others f (p ∷ before) l) → All Fit (others f before l) → All Fit (cond b (others f (p ∷ before) l) (p ∷ others f before l))
      by true x y = x
      by false x y = (a, y)

module _ (f : Hold → Bool) where
  keep-few : (l : List Hold) → length (cells_of (filter f l)) ≤ length l
  keep-few [] = omega arith
  keep-few (r ∷ l) = by (f r) (keep-few l)
    where
      by : (b : Bool) → length (cells_of (filter f l)) ≤ length l → length (cells_of (cond b (r ∷ filter f l) (filter f l))) ≤ suc (length l)
      by true x = omega (arith, x)
      by false x = omega (arith, x)

  keep-fit : (l : List Hold) → All Fit (cells_of l) → All Fit (cells_of (filter f l))
  keep-fit [] a = tt
  keep-fit (r ∷ l) (a, b) = by (f r) (keep-fit l b)
    where
      by : (b : Bool) → All Fit (cells_of (filter f l)) → All Fit (cells_of (cond b (r ∷ filter f l) (filter f l)))
      by true x = (a, x)
      by false x = x

-- ---- the written lists, read back

module _ {T : Type 0} {F : Table T (List Hold)} where
  module _ {s t : T} {picked spent : List ℕ} {taker : Taker} {now : Millis} {taken refused : List ℕ} (k : Took F s t picked spent taker now taken refused) where
    short : length (points picked) < 2 ^ 32
    short = let a = length-points picked in let b = count_fits picked k.lent in omega arith

    taken_is : points taken ≡ given (F.means s) now (points spent) (points picked)
    taken_is =
        let g = is_free (F.means s) now (points spent) in
        let a = firsts-few g [] (points picked) in
        let b = short in
        ap points (take_done k).1 ∙ written_back (given (F.means s) now (points spent) (points picked)) k.out₁ (omega arith) (firsts-fit g [] (points picked) (points-fit picked k.lent))

    refused-is : points refused ≡ kept (F.means s) now (points spent) (points picked)
    refused-is =
        let g = is_free (F.means s) now (points spent) in
        let a = others-few g [] (points picked) in
        let b = short in
        ap points (take_done k).2 ∙ written_back (kept (F.means s) now (points spent) (points picked)) k.out₂ (omega arith) (others-fit g [] (points picked) (points-fit picked k.lent))

  locked-is : {s t : T} {now : Millis} {after : List ℕ} → InRange (F.means s) → Locked F s t now after → points after ≡ cells_of (unended (F.means s) now)
  locked-is {s} {t} {now} {after} i l =
      let a = keep-few (is_live now) (F.means s) in
      let b = i.few in
      ap points (locked-done l) ∙ written_back (cells_of (unended (F.means s) now)) l.out (omega arith) (keep-fit (is_live now) (F.means s) i.fit)

-- ---- the laws

-- one that fails the test is among the others, if it is picked
others-has : (f : OutPoint → Bool) (p : OutPoint) (before l : List OutPoint) → f p ≡ false → has p (others f before l) ≡ has p l
unfolding others is_new has
others-has f p before [] e = refl
others-has f p before (q ∷ l) e = by (f q) (not (has q before)) (eq_point p q) refl refl (others-has f p (q ∷ before) l e) (others-has f p before l e)
  where
    by : (t u b : Bool) → f q ≡ t → eq_point p q ≡ b → has p (others f (q ∷ before) l) ≡ has p l → has p (others f before l) ≡ has p l
        → has p (cond (cond t u false) (others f (q ∷ before) l) (q ∷ others f before l)) ≡ cond b true (has p l)
    by true true true ft k x y = absurd (false≢true (sym e ∙ ap f (point-same p q k) ∙ ft))
    by true true false ft k x y = x
    by true false true ft k x y = rw k
    by true false false ft k x y = rw k y
    by false u true ft k x y = rw k
    by false u false ft k x y = rw k y

live_busy : (h : List Hold) (now : Millis) (spent : List OutPoint) (x : Hold) → Stands x h → is_live now x ≡ true → is_busy (unended h now) spent x.point ≡ true
unfolding is_busy
live_busy h now spent x s l = rw (stands-has x (unended h now) (stands-filter x (is_live now) h l s))

-- of one pick, and nothing spent
one-pick : (left : List Hold) (p : OutPoint)
    → (has p (cells_of left) ≡ has p (others (λ q. not (is_busy left [] q)) [] (p ∷ []))) × (has p (cells_of left) ≡ not (has p (firsts (λ q. not (is_busy left [] q)) [] (p ∷ []))))
unfolding firsts others is_new is_busy has
one-pick left p = by (has p (cells_of left))
  where
    by : (b : Bool) → (b ≡ has p (cond (cond (not (cond b true false)) true false) [] (p ∷ []))) × (b ≡ not (has p (cond (cond (not (cond b true false)) true false) (p ∷ []) [])))
    by true = (rw (point_refl p), refl)
    by false = (refl, rw (point_refl p))

-- of any form of table
module _ {T : Type 0} {F : Table T (List Hold)} where
  pub refuses_held : HeldRefused F
  refuses_held s x q t picked spent taker now taken refused k l =
      let b = live_busy (F.means s) now (points spent) x q l in (
        ap (has x.point) (taken_is k) ∙ busy_not_given (unended (F.means s) now) (points spent) x.point (points picked) b,
        ap (has x.point) (refused-is k) ∙ others-has (is_free (F.means s) now (points spent)) x.point [] (points picked) (ap not b),
      )

  pub leaves-held : HeldStands F
  leaves-held s t x (run.took {picked} {spent} {taker} {now} k p e) =
      subst (Stands x) (sym (take_done k).0)
      (taken-stands (owner_for taker now) p (unended (F.means s) now) (given (F.means s) now (points spent) (points picked)) (sym (ap (has p) (taken_is k)) ∙ e))
  leaves-held s t x (run.funded {holder} {cells} k p e) =
      left-done F s _ k.says refl (Stands x)
      (hold-fine F s (Stands x) holder cells (taken-stands (Owner.Funding holder) p (filter (is_not_of holder) (F.means s)) (points cells) e))
  leaves-held s t x (run.watched {cells} {now} k p e) =
      left-done F s _ k.says refl (Stands x)
      (watch-fine F s (Stands x) cells now (named-stands (later now (record { 0 = 1800000 })) p (points cells) (F.means s) e))

  pub refuses_locked : LockedRefused F
  refuses_locked s now i t after l u picked spent taker taken refused k p e g =
      let h : List Hold = F.means s in
      let o = one-pick (unended h now) p in
      let a : has p (points after) ≡ has p (cells_of (unended h now)) = ap (has p) (locked-is i l) in
      let v : given h now (points spent) (points picked) ≡ given h now [] (p ∷ []) = rw (e, g) in
      let w : kept h now (points spent) (points picked) ≡ kept h now [] (p ∷ []) = rw (e, g) in
      (a ∙ o.0 ∙ sym (ap (has p) (refused-is k ∙ w)), a ∙ o.1 ∙ sym (ap (λ (x : List OutPoint). not (has p x)) (taken_is k ∙ v)))

  pub holds_on : StaysHeld F
  holds_on s t x y q cs = let (r, e) = still x q cs in (r, subst (λ (p : OutPoint). NotGiven F p y t) e (refuses_held t y r))

  pub holds_once : HeldOnce F
  holds_once s t u x y k cs = (holds_on t u x y (leaves-held s t x k) cs).1

-- by value

pub held-refused : HeldRefused by_value
held-refused = refuses_held

pub held-stands : HeldStands by_value
held-stands = leaves-held

pub locked-refused : LockedRefused by_value
locked-refused = refuses_locked

pub stays_held : StaysHeld by_value
stays_held = holds_on

pub held_once : HeldOnce by_value
held_once = holds_once
