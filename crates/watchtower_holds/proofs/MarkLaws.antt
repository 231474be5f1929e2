-- Marks: each of the cells marks the watchtower's records on it, and the records without a mark stay.
use mathlib.Core.Path.{◌≡◌, refl, sym, ap, ◌∙◌}
use Prim.Native.Nat.{ℕ, ◌+◌, ◌*◌, ◌≤◌, ◌<◌, min}
use native.Mathlib.Nat.{zero-add}
use native.Mathlib.Numerals.{add-one}
use native.Mathlib.Omega.{arith}
use borrow.Author.Tests.{ltb-true, ltb-false, eqb-true, eqb-false}
use mathlib.Core.Bool.{Bool, true, false, not, cond}
use mathlib.Core.List.{List, []}
use lib.Dec.{ltb, eqb}
use lib.ListN.{length, get_or, set, replicate, length-set, length-replicate, get_or-replicate}
use lib.Seq.{get_or-set_same, get_or-set_other}
use Rattle.molecule.specs.Layout.{span, fix_count}
use Rattle.lists.proofs.EqualLaws.{not_so}
use Rattle.out_points.specs.declared.{OutPoint.OutPoint}
use Rattle.out_points.specs.OutPoints.{eq_point, slot_of, has, point_of, points}
use Rattle.out_points.proofs.EqualLaws.{flip, has_last}
use Rattle.hold_records.specs.declared.{Owner.Owner, Hold.Hold, Held.Held}
use Rattle.hold_records.specs.Holds.{by_owner, is_tower_on, is_unnamed}
use Rattle.hold_records.proofs.LoopLaws.{Keeping, keep_yes, keep_no}
use Rattle.watchtower_holds.specs.Inner.{Hints, mark_at, ReleaseMarks}
use Rattle.watchtower_holds.proofs.RenewLaws.{tower}
use Rattle.watchtower_holds.proofs.HintLaws.{same_default}

-- ---- one mark

pub mark_yes : (m : List Bool) (at : ℕ) {b : Bool} → b ≡ true → set m at true ≡ mark_at m at b
unfolding mark_at
mark_yes m at e = rw e

pub mark_no : (m : List Bool) (at : ℕ) {b : Bool} → b ≡ false → m ≡ mark_at m at b
unfolding mark_at
mark_no m at e = rw e

marked-long : (m : List Bool) (at : ℕ) (b : Bool) → length (mark_at m at b) ≡ length m
unfolding mark_at
marked-long m at true = length-set m at true
marked-long m at false = refl

marked-here : (m : List Bool) (at : ℕ) (b : Bool) → at < length m → get_or (mark_at m at b) at false ≡ cond b true (get_or m at false)
unfolding mark_at
marked-here m at true h = get_or-set_same m at true false h
marked-here m at false h = refl

marked_other : (m : List Bool) (at j : ℕ) (b : Bool) → (j ≡ at → ⊥) → get_or (mark_at m at b) j false ≡ get_or m j false
unfolding mark_at
marked_other m at j true h = get_or-set_other m at j true false h
marked_other m at j false h = refl

-- ---- one cell marks the first record of its slot, and those from the second hint on

module _ {hm : List ℕ} {l : List Hold} {n : ℕ} (k : Hints hm l n) (w : n ≤ length l) (p : OutPoint) (m : List Bool) {at : ℕ} (ea : at ≡ get_or hm (2 * slot_of p) 0) where
  -- no record is on p where it would be missed
  missed : (j : ℕ) (d : Hold) → j < n → (at < j → get_or hm (2 * slot_of p + 1) 0 < j → ⊥) → (j ≡ at → ⊥) → is_tower_on p (get_or l j d) ≡ false
  missed j d b f z = not_so (is_tower_on p (get_or l j d)) (λ t. by t (ltb at j) refl)
    where
      by : is_tower_on p (get_or l j d) ≡ true → (c : Bool) → ltb at j ≡ c → ⊥
      by t true y = let u : at < j = ltb-true _ _ y in f u ((k.each p j d b t).behind (omega arith))
      by t false y =
          let u : j ≤ at = ltb-false _ _ y in
          let v = (k.each p j d b t).least in
          z (omega arith)

  sweep-none : n ≤ at → (j : ℕ) (d : Hold) → j < n → is_tower_on p (get_or l j d) ≡ false
  sweep-none h j d b = missed j d b (λ u v. omega arith) (λ q. omega arith)

  module _ (d : Hold) {b : Bool} {m' : List Bool} {from : ℕ} (c : at < n) (r : n ≤ length m) (eb : b ≡ is_tower_on p (get_or l at d)) (em : m' ≡ mark_at m at b)
      (ef : from ≡ get_or hm (2 * slot_of p + 1) 0 + 1) where
    on-first : (d' : Hold) → b ≡ is_tower_on p (get_or l at d')
    on-first d' = eb ∙ ap (is_tower_on p) (same_default l at d d' (omega arith))

    sweep-first : (j : ℕ) (d' : Hold) → j < n → j < from → get_or m' j false ≡ cond (is_tower_on p (get_or l j d')) true (get_or m j false)
    sweep-first j d' u v = by (eqb j at) refl
      where
        by : (q : Bool) → eqb j at ≡ q → get_or m' j false ≡ cond (is_tower_on p (get_or l j d')) true (get_or m j false)
        by true z = let y : j ≡ at = eqb-true _ _ z in rw (em, y, ← on-first d') (marked-here m at b (omega arith))
        by false z =
            let y : is_tower_on p (get_or l j d') ≡ false = missed j d' u (λ s t. omega arith) (eqb-false _ _ z) in
            rw (em, y) (marked_other m at j b (eqb-false _ _ z))

    sweep-rest : (j : ℕ) (d' : Hold) → j < n → cond (is_tower_on p (get_or l j d')) true (get_or m' j false) ≡ cond (is_tower_on p (get_or l j d')) true (get_or m j false)
    sweep-rest j d' u = by (eqb j at) refl
      where
        again : (t v : Bool) → cond t true (cond t true v) ≡ cond t true v
        again true v = refl
        again false v = refl

        by : (q : Bool) → eqb j at ≡ q → cond (is_tower_on p (get_or l j d')) true (get_or m' j false) ≡ cond (is_tower_on p (get_or l j d')) true (get_or m j false)
        by true z = let y : j ≡ at = eqb-true _ _ z in rw (em, y, marked-here m at b (omega arith), ← on-first d') (again b (get_or m at false))
        by false z = rw (em, marked_other m at j b (eqb-false _ _ z))

-- ---- all cells

unnamed_none : (r : Hold) → is_unnamed [] r ≡ true
unfolding is_unnamed by_owner has
unnamed_none r = by r.owner
  where
    by : (o : Owner) → by_owner (λ n. true) (λ end. true) o ≡ true
    by (Owner.Funding n) = refl
    by (Owner.Watchtower t) = refl

pub marks_none : (l : List Hold) (n : ℕ) {m : List Bool} → m ≡ replicate 256 false → ReleaseMarks [] l (min n 256) m
marks_none l n e = record {
  room = ap length e ∙ length-replicate {A = Bool} 256 false;
  each = λ j d b. (let z : ◌≡◌ {A = Bool} (get_or (replicate 256 false) j false) false = get_or-replicate {A = Bool} 256 j false false (omega arith) in rw (e, z) (sym (unnamed_none (get_or l j d))));
}

-- one more cell
unnamed_more : (s : List ℕ) (i : ℕ) (r : Hold) → is_unnamed (span (point_of s) 0 (i + 1)) r ≡ cond (is_tower_on (point_of s i) r) false (is_unnamed (span (point_of s) 0 i) r)
unfolding is_unnamed is_tower_on by_owner
unnamed_more s i r = by r.owner
  where
    one : (a b : Bool) → not (cond a true b) ≡ cond b false (not a)
    one true true = refl
    one true false = refl
    one false true = refl
    one false false = refl

    has_more : not (has r.point (span (point_of s) 0 (i + 1))) ≡ cond (eq_point (point_of s i) r.point) false (not (has r.point (span (point_of s) 0 i)))
    has_more =
        rw (add-one, has_last r.point (point_of s) 0 i, zero-add i)
        (one (has r.point (span (point_of s) 0 i)) (eq_point r.point (point_of s i)) ∙ ap (λ (b : Bool). cond b false (not (has r.point (span (point_of s) 0 i)))) (flip (point_of s i) r.point _ refl))

    by : (o : Owner) → by_owner (λ n. true) (λ end. not (has r.point (span (point_of s) 0 (i + 1)))) o
        ≡ cond (by_owner (λ n. false) (λ end. eq_point (point_of s i) r.point) o) false (by_owner (λ n. true) (λ end. not (has r.point (span (point_of s) 0 i))) o)
    by (Owner.Funding n) = refl
    by (Owner.Watchtower t) = has_more

-- what i cells have marked: of the last one, p, the records from j on are still to be looked at
pub record Releasing (s : List ℕ) (h : Held) (hm : List ℕ) (c n : ℕ) (p : OutPoint) (i j : ℕ) (m₀ m : List Bool) : Type 0 where
  pub most : c ≡ min h.count 256
  pub whole : length h.records ≡ 256
  pub hints : Hints hm h.records c
  pub all : n ≡ fix_count s
  pub within : i ≤ n
  pub start : length m₀ ≡ 256
  pub room : length m ≡ 256
  pub before : (y : ℕ) (d : Hold) → y < c → y < j → not (get_or m y false) ≡ is_unnamed (span (point_of s) 0 i) (get_or h.records y d)
  pub after : (y : ℕ) (d : Hold) → y < c → j ≤ y → not (cond (is_tower_on p (get_or h.records y d)) true (get_or m y false)) ≡ is_unnamed (span (point_of s) 0 i) (get_or h.records y d)

pub free_start : (s : List ℕ) (h : Held) (p : OutPoint) {hm : List ℕ} {m : List Bool} {c n : ℕ} → Hints hm h.records (min h.count 256) → ReleaseMarks [] h.records (min h.count 256) m → c ≡ min h.count 256 → n ≡ fix_count s
    → length h.records ≡ 256 → Releasing s h hm c n p 0 c m m
unfolding span
free_start s h p k q e f l = record {
  most = e;
  whole = l;
  hints = rw e k;
  all = f;
  within = omega arith;
  start = q.room;
  room = q.room;
  before = λ y d u v. q.each y d (omega arith);
  after = λ y d u v. absurd (omega arith);
}

module _ {s : List ℕ} {h : Held} {hm : List ℕ} {c n : ℕ} {p : OutPoint} {i j : ℕ} {m₀ m : List Bool} (k : Releasing s h hm c n p i j m₀ m) where
  pub free_in : {y : ℕ} → y < c → y < 256
  free_in l = let a = k.most in omega arith

  pub free_room : {y : ℕ} → y < c → y < length m
  free_room l = let a = k.most in let b = k.room in omega arith

  pub free_long : length m ≡ length m₀
  free_long = k.room ∙ sym k.start

  -- one of the others
  pub free_other : (d : Hold) {b : Bool} {m' : List Bool} → j < c → b ≡ is_tower_on p (get_or h.records j d) → m' ≡ mark_at m j b → Releasing s h hm c n p i (j + 1) m₀ m'
  free_other d {b} {m'} l eb em = record {
    most = k.most;
    whole = k.whole;
    hints = k.hints;
    all = k.all;
    within = k.within;
    start = k.start;
    room = rw em (marked-long m j b ∙ k.room);
    before = λ y d' u v. by y d' u v (ltb y j) refl;
    after = λ y d' u v. (let z : get_or m' y false ≡ get_or m y false = ap (λ (x : List Bool). get_or x y false) em ∙ marked_other m j y b (λ q. omega arith) in rw z (k.after y d' u (omega arith)));
  }
    where
      by : (y : ℕ) (d' : Hold) → y < c → y < j + 1 → (q : Bool) → ltb y j ≡ q → not (get_or m' y false) ≡ is_unnamed (span (point_of s) 0 i) (get_or h.records y d')
      by y d' u v true z =
          let x : y < j = ltb-true _ _ z in
          let e : get_or m' y false ≡ get_or m y false = ap (λ (x : List Bool). get_or x y false) em ∙ marked_other m j y b (λ q. omega arith) in
          rw e (k.before y d' u x)
      by y d' u v false z =
          let x : j ≤ y = ltb-false _ _ z in
          let at : y ≡ j = omega arith in
          let a = k.most in
          let w = k.whole in
          let o : b ≡ is_tower_on p (get_or h.records j d') = eb ∙ ap (is_tower_on p) (same_default h.records j d d' (omega arith)) in
          let e : get_or m' j false ≡ cond (is_tower_on p (get_or h.records j d')) true (get_or m j false) = ap (λ (x : List Bool). get_or x j false) em ∙ marked-here m j b (free_room l) ∙ ap (λ (t : Bool). cond t true (get_or m j false)) o in
          rw (at, e) (k.after j d' l (omega arith))

  -- a mark that stands, or comes, with one more cell
  module _ (q : c ≤ j) (y : ℕ) (d : Hold) (u : y < c) where
    next-cell : not (cond (is_tower_on (point_of s i) (get_or h.records y d)) true (get_or m y false)) ≡ is_unnamed (span (point_of s) 0 (i + 1)) (get_or h.records y d)
    next-cell = by (is_tower_on (point_of s i) (get_or h.records y d)) (is_unnamed (span (point_of s) 0 i) (get_or h.records y d)) (get_or m y false) (k.before y d u (omega arith))
        ∙ sym (unnamed_more s i (get_or h.records y d))
      where
        by : (t o v : Bool) → not v ≡ o → not (cond t true v) ≡ cond t false o
        by true o v e = refl
        by false o v e = e

  -- the next cell
  module _ {p' : OutPoint} {at : ℕ} (q : c ≤ j) (l : i < n) (ep : p' ≡ point_of s i) (ea : at ≡ get_or hm (2 * slot_of p') 0) where
    long-enough : c ≤ length h.records
    long-enough = let a = k.most in let w = k.whole in omega arith

    pub free_none : c ≤ at → Releasing s h hm c n p' (i + 1) j m₀ m
    free_none b = record {
      most = k.most;
      whole = k.whole;
      hints = k.hints;
      all = k.all;
      within = omega arith;
      start = k.start;
      room = k.room;
      before = λ y d u v. before y d u;
      after = λ y d u v. absurd (omega arith);
    }
      where
        before : (y : ℕ) (d : Hold) → y < c → not (get_or m y false) ≡ is_unnamed (span (point_of s) 0 (i + 1)) (get_or h.records y d)
        before y d u =
            let z : is_tower_on (point_of s i) (get_or h.records y d) ≡ false = rw ep at (sweep-none k.hints long-enough p' m ea b y d u) in
            sym (ap (λ (t : Bool). not (cond t true (get_or m y false))) z) ∙ next-cell q y d u

    pub free_first : (d : Hold) {b : Bool} {m' : List Bool} {from : ℕ} → at < c → b ≡ is_tower_on p' (get_or h.records at d) → m' ≡ mark_at m at b → from ≡ get_or hm (2 * slot_of p' + 1) 0 + 1
        → Releasing s h hm c n p' (i + 1) from m₀ m'
    free_first d {b} {m'} {from} f eb em ef = record {
      most = k.most;
      whole = k.whole;
      hints = k.hints;
      all = k.all;
      within = omega arith;
      start = k.start;
      room = rw em (marked-long m at b ∙ k.room);
      before = λ y d' u v. ap not (sweep-first k.hints long-enough p' m ea d f marks_enough eb em ef y d' u v) ∙ rw ep (next-cell q y d' u);
      after = λ y d' u v. ap not (sweep-rest k.hints long-enough p' m ea d f marks_enough eb em ef y d' u) ∙ rw ep (next-cell q y d' u);
    }
      where
        marks_enough : c ≤ length m
        marks_enough = let a = k.most in let w = k.room in omega arith

  -- no others
  pub free_next : (p' : OutPoint) → c ≤ j → Releasing s h hm c n p' i c m₀ m
  free_next p' q = record {
    most = k.most;
    whole = k.whole;
    hints = k.hints;
    all = k.all;
    within = k.within;
    start = k.start;
    room = k.room;
    before = λ y d u v. k.before y d u (omega arith);
    after = λ y d u v. absurd (omega arith);
  }

  pub free_end : c ≤ j → n ≤ i → ReleaseMarks (points s) h.records (min h.count 256) m
  free_end q l =
      let a = k.most in
      let b = k.all in
      let w = k.within in
      let z : i ≡ fix_count s = omega arith in
      rw (← z) (record { room = k.room; each = λ y d u. k.before y d (omega arith) (omega arith) })

-- ---- the records without a mark stay

module _ {ps : List OutPoint} {h g : Held} {n to i : ℕ} {m : List Bool} (q : ReleaseMarks ps h.records (min h.count 256) m) (k : Keeping (is_unnamed ps) h g n to i) {r : Bool} (l : i < n)
    (e : r ≡ not (get_or m i false)) where
  stays_is : (d : Hold) → r ≡ is_unnamed ps (get_or h.records i d)
  stays_is d = let a = k.most in e ∙ q.each i d (omega arith)

  pub stay_yes : (d : Hold) → r ≡ true → Keeping (is_unnamed ps) h (record { records = set g.records to (get_or h.records i d); count = g.count }) n (to + 1) (i + 1)
  stay_yes d t = keep_yes k d l (stays_is d) t

  pub stay_no : r ≡ false → Keeping (is_unnamed ps) h g n to (i + 1)
  stay_no t =
      -- some record
      let d : Hold = tower (record { 0 = 0 }) (point_of [] 0) in
      keep_no k d l (stays_is d) t
