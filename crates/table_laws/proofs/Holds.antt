-- Laws over any list of calls on a table of holds: a watchtower cell has at most one record.
use mathlib.Core.Path.{◌≡◌, refl, sym, ap, ◌∙◌, subst}
use Prim.Native.Nat.{ℕ, suc, ◌+◌, ◌≤◌, max}
use mathlib.Core.List.{List, [], ◌∷◌, ◌++◌, map}
use mathlib.Core.Bool.{Bool, true, false, cond, not, false≢true}
use native.Mathlib.Omega.{arith}
use Rattle.units.specs.declared.Millis.{Millis}
use Rattle.units.specs.Units.{later}
use Rattle.out_points.specs.declared.OutPoint.{OutPoint}
use Rattle.out_points.specs.OutPoints.{eq_point, has, points}
use Rattle.out_points.proofs.EqualLaws.{point-same, point_refl}
use Rattle.std.specs.List.{filter}
use Rattle.out_points.specs.Tables.{renew}
use Rattle.hold_records.specs.declared.{Owner.Owner, Hold.Hold}
use Rattle.hold_records.specs.Holds.{held_by, by_owner, cells_of, is_not_of, is_unnamed, is_tower_on, renew_all, is_live, is_busy, is_new, firsts, owner_for}
use Rattle.table_laws.specs.Holds as run
use Rattle.table_bytes.specs.Lent.{Table}
use Rattle.table_laws.specs.Holds.{by_value, Called, Reached, towers, OneEach}
use Rattle.table_laws.proofs.Outcomes.{moved}
use Rattle.table_laws.proofs.Calls.{unended, hold-fine, watch-fine, release-fine, locked-fine, take-fine}

abbrev Single : List Hold → Type 0
Single l = (p : OutPoint) → towers p l ≤ 1

-- ---- counting

module _ (p : OutPoint) where
  towers-append : (a b : List Hold) → towers p (a ++ b) ≡ towers p a + towers p b
  unfolding towers
  towers-append [] b = omega arith
  towers-append (r ∷ a) b = by (is_tower_on p r) (towers-append a b)
    where
      by : (t : Bool) → towers p (a ++ b) ≡ towers p a + towers p b
          → cond t (suc (towers p (a ++ b))) (towers p (a ++ b)) ≡ cond t (suc (towers p a)) (towers p a) + towers p b
      by true e = omega (arith, e)
      by false e = e

  towers-keep : (f : Hold → Bool) (l : List Hold) → towers p (filter f l) ≤ towers p l
  unfolding towers
  towers-keep f [] = omega arith
  towers-keep f (r ∷ l) = by (f r) (is_tower_on p r) refl (towers-keep f l)
    where
      by : (t u : Bool) → is_tower_on p r ≡ u → towers p (filter f l) ≤ towers p l → towers p (cond t (r ∷ filter f l) (filter f l)) ≤ cond u (suc (towers p l)) (towers p l)
      by true true e h = rw e (omega (arith, h))
      by true false e h = rw e h
      by false true e h = omega (arith, h)
      by false false e h = h

  towers-funding : (holder : ℕ) (ps : List OutPoint) → towers p (map (held_by (Owner.Funding holder)) ps) ≡ 0
  unfolding towers is_tower_on by_owner
  towers-funding holder [] = refl
  towers-funding holder (q ∷ ps) = towers-funding holder ps

keep_single : (f : Hold → Bool) (l : List Hold) → Single l → Single (filter f l)
keep_single f l s p = let a = towers-keep p f l in let b = s p in omega arith

-- ---- a renewed record

on-tower : (q p : OutPoint) (end : Millis) → is_tower_on q (held_by (Owner.Watchtower end) p) ≡ eq_point q p
unfolding is_tower_on by_owner
on-tower q p end = refl

-- a watchtower record on p stands for p: on another cell it counts as one on p does
tower-is : (q p : OutPoint) (r : Hold) → is_tower_on p r ≡ true → is_tower_on q r ≡ eq_point q p
unfolding is_tower_on by_owner
tower-is q p r e = by r.owner e
  where
    by : (o : Owner) → by_owner (λ n. false) (λ end. eq_point p r.point) o ≡ true → by_owner (λ n. false) (λ end. eq_point q r.point) o ≡ eq_point q p
    by (Owner.Funding n) e = absurd (false≢true e)
    by (Owner.Watchtower end) e = ap (eq_point q) (sym (point-same p r.point e))

renew_other : (end : Millis) (q p : OutPoint) (l : List Hold) → eq_point q p ≡ false → towers q (renew (is_tower_on p) (held_by (Owner.Watchtower end) p) l) ≡ towers q l
unfolding towers renew
renew_other end q p [] e = rw (on-tower q p end, e)
renew_other end q p (r ∷ l) e = by (is_tower_on p r) refl (renew_other end q p l e)
  where
    by : (t : Bool) → is_tower_on p r ≡ t → towers q (renew (is_tower_on p) (held_by (Owner.Watchtower end) p) l) ≡ towers q l
        → towers q (cond t (held_by (Owner.Watchtower end) p ∷ l) (r ∷ renew (is_tower_on p) (held_by (Owner.Watchtower end) p) l)) ≡ cond (is_tower_on q r) (suc (towers q l)) (towers q l)
    by true f h = rw (tower-is q p r f, on-tower q p end)
    by false f h = ap (λ (n : ℕ). cond (is_tower_on q r) (suc n) n) h

renew-same : (end : Millis) (p : OutPoint) (l : List Hold) → towers p (renew (is_tower_on p) (held_by (Owner.Watchtower end) p) l) ≤ max 1 (towers p l)
unfolding towers renew
renew-same end p [] = rw (on-tower p p end, point_refl p) (omega arith)
renew-same end p (r ∷ l) = by (is_tower_on p r) refl (renew-same end p l)
  where
    by : (t : Bool) → is_tower_on p r ≡ t → towers p (renew (is_tower_on p) (held_by (Owner.Watchtower end) p) l) ≤ max 1 (towers p l)
        → towers p (cond t (held_by (Owner.Watchtower end) p ∷ l) (r ∷ renew (is_tower_on p) (held_by (Owner.Watchtower end) p) l)) ≤ max 1 (cond t (suc (towers p l)) (towers p l))
    by true f h = rw (on-tower p p end, point_refl p) (omega arith)
    by false f h = rw f h

renew_single : (end : Millis) (p : OutPoint) (l : List Hold) → Single l → Single (renew (is_tower_on p) (held_by (Owner.Watchtower end) p) l)
renew_single end p l s q = by (eq_point q p) refl
  where
    by : (t : Bool) → eq_point q p ≡ t → towers q (renew (is_tower_on p) (held_by (Owner.Watchtower end) p) l) ≤ 1
    by true e = subst (λ (x : OutPoint). towers x (renew (is_tower_on p) (held_by (Owner.Watchtower end) p) l) ≤ 1) (sym (point-same q p e)) (let a = renew-same end p l in let b = s p in omega arith)
    by false e = let a = renew_other end q p l e in let b = s q in omega arith

renew_all_lem : (end : Millis) (ps : List OutPoint) (l : List Hold) → Single l → Single (renew_all end l ps)
unfolding renew_all
renew_all_lem end [] l s = s
renew_all_lem end (p ∷ ps) l s = renew_all_lem end ps (renew (is_tower_on p) (held_by (Owner.Watchtower end) p) l) (renew_single end p l s)

-- ---- taken picks

-- how often a cell stands in a list
times : OutPoint → List OutPoint → ℕ
times p [] = 0
times p (q ∷ l) = cond (eq_point p q) (suc (times p l)) (times p l)

-- none that stood before, and each once
firsts_once : (f : OutPoint → Bool) (p : OutPoint) (before l : List OutPoint)
    → (has p before ≡ true → times p (firsts f before l) ≡ 0) × (times p (firsts f before l) ≤ 1)
unfolding firsts is_new has times
firsts_once f p before [] = (λ _. refl, omega arith)
firsts_once f p before (q ∷ l) = by (f q) (has q before) refl (firsts_once f p before l) (firsts_once f p (q ∷ before) l)
  where
    Once : List OutPoint → Type 0
    Once ps = (has p before ≡ true → times p ps ≡ 0) × (times p ps ≤ 1)

    same : (b : Bool) → eq_point p q ≡ b → has q before ≡ false
        → (has p (q ∷ before) ≡ true → times p (firsts f (q ∷ before) l) ≡ 0) × (times p (firsts f (q ∷ before) l) ≤ 1)
        → (has p before ≡ true → cond b (suc (times p (firsts f (q ∷ before) l))) (times p (firsts f (q ∷ before) l)) ≡ 0)
        × (cond b (suc (times p (firsts f (q ∷ before) l))) (times p (firsts f (q ∷ before) l)) ≤ 1)
    same true k e (u, v) =
        let z : times p (firsts f (q ∷ before) l) ≡ 0 = u (rw k) in
        (λ h. absurd (false≢true (sym (subst (λ (x : OutPoint). has x before ≡ false) (sym (point-same p q k)) e) ∙ h)), omega (arith, z))
    same false k e (u, v) = (λ h. u (rw k h), v)

    by : (t w : Bool) → has q before ≡ w → Once (firsts f before l)
        → (has p (q ∷ before) ≡ true → times p (firsts f (q ∷ before) l) ≡ 0) × (times p (firsts f (q ∷ before) l) ≤ 1)
        → Once (cond (cond t (not w) false) (q ∷ firsts f (q ∷ before) l) (firsts f before l))
    by true true e a b = a
    by false w e a b = a
    by true false e a b = same (eq_point p q) refl e b

-- one that fails the test is not among them
firsts_not : (f : OutPoint → Bool) (p : OutPoint) (before l : List OutPoint) → f p ≡ false → times p (firsts f before l) ≡ 0
unfolding firsts is_new times
firsts_not f p before [] e = refl
firsts_not f p before (q ∷ l) e = by (f q) (not (has q before)) (eq_point p q) refl refl (firsts_not f p before l e) (firsts_not f p (q ∷ before) l e)
  where
    by : (t u b : Bool) → f q ≡ t → eq_point p q ≡ b → times p (firsts f before l) ≡ 0 → times p (firsts f (q ∷ before) l) ≡ 0
        → times p (cond (cond t u false) (q ∷ firsts f (q ∷ before) l) (firsts f before l)) ≡ 0
    by true true true ft k x y = absurd (false≢true (sym e ∙ ap f (point-same p q k) ∙ ft))
    by true true false ft k x y = rw k y
    by true false b ft k x y = x
    by false u b ft k x y = x

none-there : (p : OutPoint) (l : List Hold) → has p (cells_of l) ≡ false → towers p l ≡ 0
unfolding towers has is_tower_on by_owner
none-there p [] e = refl
none-there p (r ∷ l) e = by (eq_point p r.point) r.owner e (none-there p l)
  where
    by : (b : Bool) (o : Owner) → cond b true (has p (cells_of l)) ≡ false → (has p (cells_of l) ≡ false → towers p l ≡ 0)
        → cond (by_owner (λ n. false) (λ end. b) o) (suc (towers p l)) (towers p l) ≡ 0
    by true o e ih = absurd (false≢true (sym e))
    by false (Owner.Funding n) e ih = ih e
    by false (Owner.Watchtower end) e ih = ih e

-- not busy: no record is on it
free : (left : List Hold) (spent : List OutPoint) (p : OutPoint) → is_busy left spent p ≡ false → has p (cells_of left) ≡ false
unfolding is_busy
free left spent p e = by (has p (cells_of left)) e
  where
    by : (b : Bool) → cond b true (has p spent) ≡ false → b ≡ false
    by true e = e
    by false e = refl

towers-held : (p : OutPoint) (owner : Owner) (ps : List OutPoint) → towers p (map (held_by owner) ps) ≤ times p ps
unfolding towers times is_tower_on by_owner
towers-held p owner [] = omega arith
towers-held p owner (q ∷ ps) = by owner (eq_point p q) (towers-held p owner ps)
  where
    by : (o : Owner) (b : Bool) → towers p (map (held_by owner) ps) ≤ times p ps
        → cond (by_owner (λ n. false) (λ end. b) o) (suc (towers p (map (held_by owner) ps))) (towers p (map (held_by owner) ps)) ≤ cond b (suc (times p ps)) (times p ps)
    by (Owner.Watchtower end) true h = omega (arith, h)
    by (Owner.Watchtower end) false h = h
    by (Owner.Funding n) true h = omega (arith, h)
    by (Owner.Funding n) false h = h

take_single : (left : List Hold) (spent picks : List OutPoint) (owner : Owner) → Single left
    → Single (left ++ map (held_by owner) (firsts (λ p. not (is_busy left spent p)) [] picks))
take_single left spent picks owner s p = by (is_busy left spent p) refl
  where
    taken : List OutPoint
    taken = firsts (λ (q : OutPoint). not (is_busy left spent q)) [] picks

    sum : towers p (left ++ map (held_by owner) taken) ≤ towers p left + times p taken
    sum = let a = towers-append p left (map (held_by owner) taken) in let b = towers-held p owner taken in omega arith

    by : (t : Bool) → is_busy left spent p ≡ t → towers p (left ++ map (held_by owner) taken) ≤ 1
    by true e =
        let z : times p taken ≡ 0 = firsts_not (λ (q : OutPoint). not (is_busy left spent q)) p [] picks (ap not e) in
        let a = s p in let b = sum in omega arith
    by false e =
        let z : towers p left ≡ 0 = none-there p left (free left spent p e) in
        let a = (firsts_once (λ (q : OutPoint). not (is_busy left spent q)) p [] picks).1 in let b = sum in omega arith

-- ---- the calls

funding_single : (holder : ℕ) (f : Hold → Bool) (l : List Hold) (ps : List OutPoint) → Single l → Single (filter f l ++ map (held_by (Owner.Funding holder)) ps)
funding_single holder f l ps s p =
    let a = towers-append p (filter f l) (map (held_by (Owner.Funding holder)) ps) in
    let b = towers-keep p f l in
    let c = towers-funding p holder ps in
    let d = s p in
    omega arith

module _ {T : Type 0} {F : Table T (List Hold)} where
  step : {s t : T} → Called F s t → Single (F.means s) → Single (F.means t)
  step (run.hold {s} {t} a holder cells e) q =
      moved F s _ e Single (hold-fine F s Single holder cells (funding_single holder (is_not_of holder) (F.means s) (points cells) q)) q
  step (run.watch {s} {t} a cells now e) q =
      moved F s _ e Single (watch-fine F s Single cells now (renew_all_lem (later now (record { 0 = 1800000 })) (points cells) (F.means s) q)) q
  step (run.release {s} {t} a cells e) q = moved F s _ e Single (release-fine F s Single cells (keep_single (is_unnamed (points cells)) (F.means s) q)) q
  step (run.locked {s} {t} a now out after e) q = moved F s _ e.0 Single (locked-fine F s Single now out (keep_single (is_live now) (F.means s) q)) q
  step (run.take {s} {t} a picked spent taker now out₁ out₂ after₁ after₂ e) q =
      moved F s _ e.0 Single
      (take-fine F s Single picked spent taker now out₁ out₂
      (take_single (unended (F.means s) now) (points spent) (points picked) (owner_for taker now) (keep_single (is_live now) (F.means s) q))) q

  single : {s : T} → Reached F s → Single (F.means s)
  unfolding towers
  single (run.empty e) = subst Single (sym e) (λ p. omega arith)
  single (run.next r c) = step c (single r)

  pub each_once : OneEach F
  each_once s r = single r

pub one_each : OneEach by_value
one_each = each_once

-- ---- who gets a cell

has_times : (p : OutPoint) (l : List OutPoint) → times p l ≡ 0 → has p l ≡ false
unfolding has times
has_times p [] e = refl
has_times p (q ∷ l) e = by (eq_point p q) e (has_times p l)
  where
    by : (b : Bool) → cond b (suc (times p l)) (times p l) ≡ 0 → (times p l ≡ 0 → has p l ≡ false) → cond b true (has p l) ≡ false
    by true e ih = absurd (omega (arith, e))
    by false e ih = ih e

pub busy_not_given : (left : List Hold) (spent : List OutPoint) (p : OutPoint) (picks : List OutPoint) → is_busy left spent p ≡ true
    → has p (firsts (λ q. not (is_busy left spent q)) [] picks) ≡ false
busy_not_given left spent p picks e =
    has_times p (firsts (λ (q : OutPoint). not (is_busy left spent q)) [] picks) (firsts_not (λ (q : OutPoint). not (is_busy left spent q)) p [] picks (ap not e))
