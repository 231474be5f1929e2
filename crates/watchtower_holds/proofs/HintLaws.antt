-- Hints: by its slot the watchtower's record on a cell is found where it stands, or no later than it stands.
use mathlib.Core.Path.{◌≡◌, refl, sym, ap, ◌∙◌, subst}
use Prim.Native.Nat.{ℕ, zero, suc, ◌+◌, ◌-◌, ◌*◌, ◌≤◌, ◌<◌, min}
use native.Mathlib.Omega.{arith}
use borrow.Author.Tests.{ltb-true, ltb-false, lt-ltb, le-ltb, eqb-true, eqb-false}
use mathlib.Core.Bool.{Bool, true, false, cond, false≢true}
use mathlib.Core.List.{List, [], ◌∷◌}
use lib.Dec.{ltb, eqb}
use lib.ListN.{length, get_or, set, length-set}
use lib.Seq.{get_or-set_same, get_or-set_other, set-get_or}
use Rattle.units.specs.declared.{Millis.Millis}
use Rattle.molecule.specs.Layout.{fix_count}
use Rattle.out_points.specs.declared.{OutPoint.OutPoint}
use Rattle.out_points.specs.OutPoints.{eq_point, slot_of, point_of, points}
use Rattle.out_points.proofs.EqualLaws.{point-same, slot_below}
use Rattle.hold_records.specs.declared.{Owner.Owner, Hold.Hold, Held.Held}
use Rattle.hold_records.specs.Holds.{records_of, by_owner, is_tower_on, renew_all}
use Rattle.watchtower_holds.specs.Inner.{tower_place, noted, NotMissed, Hints}
use Rattle.watchtower_holds.proofs.RenewLaws.{tower, place_most, stands_at, stands_on, Renewing, renew-start, renew-more, renew-full, renew-end, renew_short}

-- ---- the hints of a slot

pub first-is : (m : List ℕ) {x y k : ℕ} → x ≡ y → k ≡ get_or m (2 * x) 0 → k ≡ get_or m (2 * y) 0
first-is m s e = rw (← s) e

pub next-is : (m : List ℕ) {x y k : ℕ} → x ≡ y → k ≡ get_or m (2 * x + 1) 0 → k + 1 ≡ get_or m (2 * y + 1) 0 + 1
next-is m s e = rw (← s, ← e)

-- ---- one place noted

module _ (m : List ℕ) (at : ℕ) {n k : ℕ} (e : k ≡ get_or m at 0) where
  pub other_low : k < n → m ≡ set m at (min (get_or m at 0) (n - 1))
  other_low h = let q : min (get_or m at 0) (n - 1) ≡ get_or m at 0 = omega arith in sym (ap (set m at) q ∙ set-get_or m at 0)

  pub other_high : n ≤ k → set m at (n - 1) ≡ set m at (min (get_or m at 0) (n - 1))
  other_high h = let q : n - 1 ≡ min (get_or m at 0) (n - 1) = omega arith in ap (set m at) q

module _ (m : List ℕ) (x y : ℕ) {n k : ℕ} (s : x ≡ y) (e : k ≡ get_or m (2 * x) 0) where
  pub note_first : n < k → set m (2 * x) n ≡ noted m y n
  unfolding noted
  note_first h = rw (← s) (sym (rw (lt-ltb n (get_or m (2 * x) 0) (omega arith))))

  pub note_again : k ≤ n → n ≤ k → m ≡ noted m y n
  unfolding noted
  note_again h z = rw (← s) (sym (rw (le-ltb n (get_or m (2 * x) 0) (omega arith), le-ltb (get_or m (2 * x) 0) n (omega arith))))

  pub note_other : {m' : List ℕ} → k < n → m' ≡ set m (2 * x + 1) (min (get_or m (2 * x + 1) 0) (n - 1)) → m' ≡ noted m y n
  unfolding noted
  note_other h f = rw (← s) (f ∙ sym (rw (le-ltb n (get_or m (2 * x) 0) (omega arith), lt-ltb (get_or m (2 * x) 0) n (omega arith))))

-- what stands there then
module _ (m : List ℕ) (x n : ℕ) (w : length m ≡ 8186) (s : x < 4093) where
  abbrev after : Bool → Bool → List ℕ
  after u v = cond u (set m (2 * x) n) (cond v (set m (2 * x + 1) (min (get_or m (2 * x + 1) 0) (n - 1))) m)

  noted-long : length (noted m x n) ≡ 8186
  unfolding noted
  noted-long = by (ltb n (get_or m (2 * x) 0)) (ltb (get_or m (2 * x) 0) n)
    where
      by : (u v : Bool) → length (after u v) ≡ 8186
      by true v = length-set m (2 * x) n ∙ w
      by false true = length-set m (2 * x + 1) _ ∙ w
      by false false = w

  -- the place is not missed
  noted-there : (j : ℕ) → j ≡ n → NotMissed (get_or (noted m x n) (2 * x) 0) (get_or (noted m x n) (2 * x + 1) 0) j
  unfolding noted
  noted-there j z = by (ltb n (get_or m (2 * x) 0)) refl (ltb (get_or m (2 * x) 0) n) refl
    where
      by : (u : Bool) → ltb n (get_or m (2 * x) 0) ≡ u → (v : Bool) → ltb (get_or m (2 * x) 0) n ≡ v → NotMissed (get_or (after u v) (2 * x) 0) (get_or (after u v) (2 * x + 1) 0) j
      by true p v q = let a = get_or-set_same m (2 * x) n 0 (omega arith) in record { least = omega arith; behind = λ l. absurd (omega arith) }
      by false p true q =
          let c : get_or m (2 * x) 0 < n = ltb-true _ _ q in
          let a = get_or-set_other m (2 * x + 1) (2 * x) (min (get_or m (2 * x + 1) 0) (n - 1)) 0 (λ y. omega arith) in
          let b = get_or-set_same m (2 * x + 1) (min (get_or m (2 * x + 1) 0) (n - 1)) 0 (omega arith) in
          record { least = omega arith; behind = λ l. omega arith }
      by false p false q =
          let a : get_or m (2 * x) 0 ≤ n = ltb-false _ _ p in
          let b : n ≤ get_or m (2 * x) 0 = ltb-false _ _ q in
          record { least = omega arith; behind = λ l. absurd (omega arith) }

  -- another of its slot is not missed either, if there was none where the place comes before the first hint
  noted_near : (j : ℕ) → NotMissed (get_or m (2 * x) 0) (get_or m (2 * x + 1) 0) j → (n < get_or m (2 * x) 0 → j < get_or m (2 * x) 0)
      → NotMissed (get_or (noted m x n) (2 * x) 0) (get_or (noted m x n) (2 * x + 1) 0) j
  unfolding noted
  noted_near j k h = by (ltb n (get_or m (2 * x) 0)) refl (ltb (get_or m (2 * x) 0) n)
    where
      by : (u : Bool) → ltb n (get_or m (2 * x) 0) ≡ u → (v : Bool) → NotMissed (get_or (after u v) (2 * x) 0) (get_or (after u v) (2 * x + 1) 0) j
      by true p v = let a = h (ltb-true _ _ p) in let b = k.least in absurd (omega arith)
      by false p true =
          let a = get_or-set_other m (2 * x + 1) (2 * x) (min (get_or m (2 * x + 1) 0) (n - 1)) 0 (λ y. omega arith) in
          let b = get_or-set_same m (2 * x + 1) (min (get_or m (2 * x + 1) 0) (n - 1)) 0 (omega arith) in
          record { least = rw a k.least; behind = λ l. (let c = k.behind (rw a at l) in omega arith) }
      by false p false = k

  -- nor one of another slot
  noted_far : (y j : ℕ) → (y ≡ x → ⊥) → NotMissed (get_or m (2 * y) 0) (get_or m (2 * y + 1) 0) j → NotMissed (get_or (noted m x n) (2 * y) 0) (get_or (noted m x n) (2 * y + 1) 0) j
  unfolding noted
  noted_far y j z k = by (ltb n (get_or m (2 * x) 0)) (ltb (get_or m (2 * x) 0) n)
    where
      by : (u v : Bool) → NotMissed (get_or (after u v) (2 * y) 0) (get_or (after u v) (2 * y + 1) 0) j
      by true v =
          let a = get_or-set_other m (2 * x) (2 * y) n 0 (λ q. z (omega arith)) in
          let b = get_or-set_other m (2 * x) (2 * y + 1) n 0 (λ q. omega arith) in
          rw (a, b) k
      by false true =
          let a = get_or-set_other m (2 * x + 1) (2 * y) (min (get_or m (2 * x + 1) 0) (n - 1)) 0 (λ q. omega arith) in
          let b = get_or-set_other m (2 * x + 1) (2 * y + 1) (min (get_or m (2 * x + 1) 0) (n - 1)) 0 (λ q. z (omega arith)) in
          rw (a, b) k
      by false false = k

-- ---- hints of records

-- an element that stands is the same whatever is said of those that do not
pub same_default : (l : List Hold) (i : ℕ) (d d' : Hold) → i < length l → get_or l i d ≡ get_or l i d'
same_default [] i d d' h = absurd (omega arith)
same_default (y ∷ l) zero d d' h = refl
same_default (y ∷ l) (suc i) d d' h = same_default l i d d' (omega arith)

-- a record of the watchtower's is on its cell, and on no other
pub on-cell : (q : OutPoint) (y : Hold) → is_tower_on q y ≡ true → q ≡ y.point
unfolding is_tower_on by_owner
on-cell q y e = by y.owner e
  where
    by : (o : Owner) → by_owner (λ n. false) (λ end. eq_point q y.point) o ≡ true → q ≡ y.point
    by (Owner.Funding n) h = absurd (false≢true h)
    by (Owner.Watchtower t) h = point-same q y.point h

pub on_new : (t : Millis) (p q : OutPoint) → is_tower_on q (tower t p) ≡ true → q ≡ p
on_new t p q e = on-cell q (tower t p) e

module _ {m : List ℕ} {l : List Hold} {n : ℕ} (k : Hints m l n) where
  -- records that stood there before
  hints_kept : {l' : List Hold} {n' : ℕ} → ((q : OutPoint) (j : ℕ) (d : Hold) → j < n' → is_tower_on q (get_or l' j d) ≡ true → (j < n) × (is_tower_on q (get_or l j d) ≡ true)) → Hints m l' n'
  hints_kept f = record { enough = k.enough; each = λ q j d b e. (let o = f q j d b e in k.each q j d o.0 o.1) }

  -- and one of p's slot at a place that is noted: the first hint is no later, or there was none of the slot
  module _ (p : OutPoint) (a : ℕ) {m' : List ℕ} (em : m' ≡ noted m (slot_of p) a) (h : a < get_or m (2 * slot_of p) 0 → n ≤ get_or m (2 * slot_of p) 0) {l' : List Hold} {n' : ℕ}
      (new : (q : OutPoint) (d : Hold) → is_tower_on q (get_or l' a d) ≡ true → q ≡ p)
      (old : (q : OutPoint) (j : ℕ) (d : Hold) → (j ≡ a → ⊥) → j < n' → is_tower_on q (get_or l' j d) ≡ true → (j < n) × (is_tower_on q (get_or l j d) ≡ true)) where
    hints_noted : Hints m' l' n'
    hints_noted = rw em (record { enough = noted-long m (slot_of p) a k.enough (slot_below p); each = λ q j d b e. by q j d b e (eqb j a) refl })
      where
        there : (q : OutPoint) (j : ℕ) → j ≡ a → q ≡ p → NotMissed (get_or (noted m (slot_of p) a) (2 * slot_of q) 0) (get_or (noted m (slot_of p) a) (2 * slot_of q + 1) 0) j
        there q j z e = rw e (noted-there m (slot_of p) a k.enough (slot_below p) j z)

        near : (q : OutPoint) (j : ℕ) → j < n → NotMissed (get_or m (2 * slot_of q) 0) (get_or m (2 * slot_of q + 1) 0) j → (c : Bool) → eqb (slot_of q) (slot_of p) ≡ c
            → NotMissed (get_or (noted m (slot_of p) a) (2 * slot_of q) 0) (get_or (noted m (slot_of p) a) (2 * slot_of q + 1) 0) j
        near q j b w true z =
            let e : slot_of q ≡ slot_of p = eqb-true _ _ z in
            rw e (noted_near m (slot_of p) a k.enough (slot_below p) j (rw e at w) (λ c. (let f = h c in omega arith)))
        near q j b w false z = noted_far m (slot_of p) a k.enough (slot_below p) (slot_of q) j (eqb-false _ _ z) w

        by : (q : OutPoint) (j : ℕ) (d : Hold) → j < n' → is_tower_on q (get_or l' j d) ≡ true → (c : Bool) → eqb j a ≡ c
            → NotMissed (get_or (noted m (slot_of p) a) (2 * slot_of q) 0) (get_or (noted m (slot_of p) a) (2 * slot_of q + 1) 0) j
        by q j d b e true z = let y : j ≡ a = eqb-true _ _ z in there q j y (new q d (ap (λ (x : ℕ). is_tower_on q (get_or l' x d)) (sym y) ∙ e))
        by q j d b e false z = let o = old q j d (eqb-false _ _ z) b e in near q j o.0 (k.each q j d o.0 o.1) (eqb (slot_of q) (slot_of p)) refl

-- ---- the hints of a table's records

pub record Noting (h : Held) (n i : ℕ) (m₀ m : List ℕ) : Type 0 where
  pub most : n ≡ min h.count 256
  pub whole : length h.records ≡ 256
  pub within : i ≤ n
  pub start : length m₀ ≡ 8186
  pub hints : Hints m h.records i

pub note_start : (h : Held) {n : ℕ} {m : List ℕ} → length m ≡ 8186 → n ≡ min h.count 256 → length h.records ≡ 256 → Noting h n 0 m m
note_start h e c l = record { most = c; whole = l; within = omega arith; start = e; hints = record { enough = e; each = λ p j d b t. absurd (omega arith) } }

module _ {h : Held} {n i : ℕ} {m₀ m : List ℕ} (k : Noting h n i m₀ m) where
  pub note_enough : length m ≡ 8186
  note_enough = k.hints.enough

  pub note_long : length m ≡ length m₀
  note_long = k.hints.enough ∙ sym k.start

  pub note_in : i < n → i < 256
  note_in l = let a = k.most in omega arith

  pub note_yes : (d : Hold) {b : Bool} {m' : List ℕ} → i < n → b ≡ is_tower_on (get_or h.records i d).point (get_or h.records i d) → b ≡ true
      → m' ≡ noted m (slot_of (get_or h.records i d).point) i → Noting h n (i + 1) m₀ m'
  note_yes d {m' = m'} l e t em = record {
    most = k.most;
    whole = k.whole;
    within = omega arith;
    start = k.start;
    hints = hints_noted k.hints (get_or h.records i d).point i em (λ c. omega arith) new (λ q j d' z b o. (omega arith, o));
  }
    where
      new : (q : OutPoint) (d' : Hold) → is_tower_on q (get_or h.records i d') ≡ true → q ≡ (get_or h.records i d).point
      new q d' o = let a = k.most in let w = k.whole in on-cell q (get_or h.records i d') o ∙ ap (λ (y : Hold). y.point) (same_default h.records i d' d (omega arith))

  pub note_no : (d : Hold) {b : Bool} → i < n → b ≡ is_tower_on (get_or h.records i d).point (get_or h.records i d) → b ≡ false → Noting h n (i + 1) m₀ m
  note_no d l e t = record { most = k.most; whole = k.whole; within = omega arith; start = k.start; hints = hints_kept k.hints old }
    where
      not_here : (q : OutPoint) (d' : Hold) → is_tower_on q (get_or h.records i d') ≡ true → ⊥
      not_here q d' o =
          let a = k.most in
          let w = k.whole in
          let s : get_or h.records i d' ≡ get_or h.records i d = same_default h.records i d' d (omega arith) in
          let c = on-cell q (get_or h.records i d) (ap (is_tower_on q) (sym s) ∙ o) in
          false≢true (sym t ∙ e ∙ ap (λ (y : OutPoint). is_tower_on y (get_or h.records i d)) (sym c) ∙ ap (is_tower_on q) (sym s) ∙ o)

      old : (q : OutPoint) (j : ℕ) (d' : Hold) → j < i + 1 → is_tower_on q (get_or h.records j d') ≡ true → (j < i) × (is_tower_on q (get_or h.records j d') ≡ true)
      old q j d' b o = by (ltb j i) refl
        where
          by : (c : Bool) → ltb j i ≡ c → (j < i) × (is_tower_on q (get_or h.records j d') ≡ true)
          by true z = (ltb-true _ _ z, o)
          by false z =
              let y : i ≤ j = ltb-false _ _ z in
              let x : i ≡ j = omega arith in
              absurd (not_here q d' (ap (λ (v : ℕ). is_tower_on q (get_or h.records v d')) x ∙ o))

  pub note_end : n ≤ i → Hints m h.records (min h.count 256)
  note_end l = let a = k.most in let w = k.within in let z : i ≡ min h.count 256 = omega arith in subst (Hints m h.records) z k.hints

-- ---- the loop over the cells

pub record Going (t : Millis) (s : List ℕ) (h g : Held) (n i : ℕ) (m₀ m : List ℕ) : Type 0 where
  pub renewing : Renewing t s h g n i
  pub start : length m₀ ≡ 8186
  pub hints : Hints m g.records (min g.count 256)

pub go_start : (t : Millis) (s : List ℕ) (h g : Held) {n : ℕ} {m : List ℕ} → n ≡ fix_count s → records_of g ≡ records_of h → g.count ≤ 256 → length g.records ≡ 256
    → Hints m g.records (min g.count 256) → Going t s h g n 0 m m
go_start t s h g e r c l k = record { renewing = renew-start t s h g e r c l; start = k.enough; hints = k }

-- the hints of a table are those of the same records with no count above 256
pub go_trimmed : (t : Millis) (s : List ℕ) (h g : Held) {n : ℕ} {m : List ℕ} → n ≡ fix_count s → records_of g ≡ records_of h → g.records ≡ h.records → g.count ≡ min h.count 256
    → length h.records ≡ 256 → Hints m h.records (min h.count 256) → Going t s h g n 0 m m
go_trimmed t s h g {m = m} e r q c l k =
    let z : min g.count 256 ≡ min h.count 256 = omega arith in
    go_start t s h g e r (omega arith) (ap length q ∙ l) (rw (q, z) k)

module _ {t : Millis} {s : List ℕ} {h g : Held} {n i : ℕ} {m₀ m : List ℕ} (k : Going t s h g n i m₀ m) where
  pub go_enough : length m ≡ 8186
  go_enough = k.hints.enough

  pub go_long : length m ≡ length m₀
  go_long = k.hints.enough ∙ sym k.start

  pub go_below : {j : ℕ} → j < g.count → j < 256
  go_below l = let a = k.renewing.most in omega arith

  pub go_count : g.count ≤ 256
  go_count = k.renewing.most

  pub go_end : n ≤ i → records_of g ≡ renew_all t (records_of h) (points s)
  go_end l = renew-end k.renewing l

  pub go_short : n ≤ i → length (renew_all t (records_of h) (points s)) ≤ 256
  go_short l = renew_short k.renewing l

  module _ (p : OutPoint) {j : ℕ} (ej : j ≡ get_or m (2 * slot_of p) 0) where
    -- the first record on p, if there is one, is not missed
    within : tower_place p (records_of g) < min g.count 256 → NotMissed (get_or m (2 * slot_of p) 0) (get_or m (2 * slot_of p + 1) 0) (tower_place p (records_of g))
    within b = k.hints.each p (tower_place p (records_of g)) (tower t p) b (stands_on p g k.renewing.long (tower t p) b)

    not_before : j ≤ g.count → j ≤ tower_place p (records_of g)
    not_before b = by (ltb (tower_place p (records_of g)) (min g.count 256)) refl
      where
        by : (c : Bool) → ltb (tower_place p (records_of g)) (min g.count 256) ≡ c → j ≤ tower_place p (records_of g)
        by true z = let w = (within (ltb-true _ _ z)).least in omega arith
        by false z = let w : min g.count 256 ≤ tower_place p (records_of g) = ltb-false _ _ z in let a = k.renewing.most in omega arith

    -- no record is on p
    absent : g.count ≤ j → g.count ≡ tower_place p (records_of g)
    absent b = by (ltb (tower_place p (records_of g)) (min g.count 256)) refl
      where
        by : (c : Bool) → ltb (tower_place p (records_of g)) (min g.count 256) ≡ c → g.count ≡ tower_place p (records_of g)
        by true z = let u : tower_place p (records_of g) < min g.count 256 = ltb-true _ _ z in let w = (within u).least in absurd (omega arith)
        by false z =
            let w : min g.count 256 ≤ tower_place p (records_of g) = ltb-false _ _ z in
            let a = k.renewing.most in
            let v = place_most p g k.renewing.long in
            omega arith

    module _ (d : Hold) {b : Bool} (c : j < g.count) (eb : b ≡ is_tower_on p (get_or g.records j d)) where
      -- the record at the hint is not on p: the search goes on from the second hint
      pub go_search : {f : ℕ} → f ≡ get_or m (2 * slot_of p + 1) 0 + 1 → b ≡ false → min f (min g.count 256) ≤ tower_place p (records_of g)
      go_search {f} ef tb = by (ltb (tower_place p (records_of g)) (min g.count 256)) refl
        where
          by : (c : Bool) → ltb (tower_place p (records_of g)) (min g.count 256) ≡ c → min f (min g.count 256) ≤ tower_place p (records_of g)
          by true z =
              let u : tower_place p (records_of g) < min g.count 256 = ltb-true _ _ z in
              let w = within u in
              more (ltb (get_or m (2 * slot_of p) 0) (tower_place p (records_of g))) refl w.least w.behind ef u
            where
              more : (v : Bool) → ltb (get_or m (2 * slot_of p) 0) (tower_place p (records_of g)) ≡ v → get_or m (2 * slot_of p) 0 ≤ tower_place p (records_of g)
                  → (get_or m (2 * slot_of p) 0 < tower_place p (records_of g) → get_or m (2 * slot_of p + 1) 0 < tower_place p (records_of g)) → f ≡ get_or m (2 * slot_of p + 1) 0 + 1
                  → tower_place p (records_of g) < min g.count 256 → min f (min g.count 256) ≤ tower_place p (records_of g)
              more true y a r o u = let q = r (ltb-true _ _ y) in omega arith
              more false y a r o u =
                  let q : tower_place p (records_of g) ≤ get_or m (2 * slot_of p) 0 = ltb-false _ _ y in
                  let at : j ≡ tower_place p (records_of g) = omega arith in
                  let on = stands_on p g k.renewing.long d u in
                  absurd (false≢true (sym tb ∙ eb ∙ ap (λ (v : ℕ). is_tower_on p (get_or g.records v d)) at ∙ on))
          by false z = let w : min g.count 256 ≤ tower_place p (records_of g) = ltb-false _ _ z in omega arith

  module _ {p : OutPoint} (l : i < n) (ep : p ≡ point_of s i) where
    pub go_full : {a : ℕ} → a ≡ tower_place p (records_of g) → 256 ≤ a → 256 < length (renew_all t (records_of h) (points s))
    go_full ea b = renew-full k.renewing l ep ea b

    module _ {j : ℕ} (ej : j ≡ get_or m (2 * slot_of p) 0) where
      -- a record put at its place, which is noted
      put_on : {a c : ℕ} {m' : List ℕ} → a ≡ tower_place p (records_of g) → a < 256 → c ≡ g.count + (a + 1 - g.count) → m' ≡ noted m (slot_of p) a
          → (a < get_or m (2 * slot_of p) 0 → min g.count 256 ≤ get_or m (2 * slot_of p) 0) → Going t s h (record { records = set g.records a (tower t p); count = c }) n (i + 1) m₀ m'
      put_on {a} {c} {m'} ea f ec em z = record {
        renewing = renew-more k.renewing l ep ea f ec;
        start = k.start;
        hints = hints_noted k.hints p a em z new old;
      }
        where
          new : (q : OutPoint) (d : Hold) → is_tower_on q (get_or (set g.records a (tower t p)) a d) ≡ true → q ≡ p
          new q d o = let w = k.renewing.long in on_new t p q (ap (is_tower_on q) (sym (get_or-set_same g.records a (tower t p) d (omega arith))) ∙ o)

          old : (q : OutPoint) (y : ℕ) (d : Hold) → (y ≡ a → ⊥) → y < min c 256 → is_tower_on q (get_or (set g.records a (tower t p)) y d) ≡ true
              → (y < min g.count 256) × (is_tower_on q (get_or g.records y d) ≡ true)
          old q y d e b o =
              let v = place_most p g k.renewing.long in
              let w = k.renewing.most in
              (omega arith, ap (is_tower_on q) (sym (get_or-set_other g.records a y (tower t p) d e)) ∙ o)

      pub go_on : {a c : ℕ} {m' : List ℕ} → a ≡ tower_place p (records_of g) → j < g.count → a < 256 → c ≡ g.count + (a + 1 - g.count) → m' ≡ noted m (slot_of p) a
          → Going t s h (record { records = set g.records a (tower t p); count = c }) n (i + 1) m₀ m'
      go_on ea b f ec em = let z = not_before p ej (omega arith) in put_on ea f ec em (λ q. absurd (omega arith))

      pub go_none : g.count ≤ j → 256 ≤ g.count → 256 < length (renew_all t (records_of h) (points s))
      go_none b c = go_full (absent p ej b) c

      pub go_last : {m' : List ℕ} → g.count ≤ j → g.count < 256 → m' ≡ noted m (slot_of p) g.count
          → Going t s h (record { records = set g.records g.count (tower t p); count = g.count + 1 }) n (i + 1) m₀ m'
      go_last b c em = put_on (absent p ej b) c (omega arith) em (λ q. omega arith)

      -- the record at the hint is on p
      module _ (d : Hold) {b : Bool} (c : j < g.count) (eb : b ≡ is_tower_on p (get_or g.records j d)) where
        pub go_there : b ≡ true → Going t s h (record { records = set g.records j (tower t p); count = g.count }) n (i + 1) m₀ m
        go_there tb =
            let a = k.renewing.most in
            let u = not_before p ej (omega arith) in
            let v = stands_at p g k.renewing.long d (omega arith) (sym eb ∙ tb) in
            let ea : j ≡ tower_place p (records_of g) = omega arith in
            record { renewing = renew-more k.renewing l ep ea (omega arith) (omega arith); start = k.start; hints = hints_kept k.hints old }
          where
            old : (q : OutPoint) (y : ℕ) (d' : Hold) → y < min g.count 256 → is_tower_on q (get_or (set g.records j (tower t p)) y d') ≡ true
                → (y < min g.count 256) × (is_tower_on q (get_or g.records y d') ≡ true)
            old q y d' f o = by (eqb y j) refl
              where
                by : (v : Bool) → eqb y j ≡ v → (y < min g.count 256) × (is_tower_on q (get_or g.records y d') ≡ true)
                by true z =
                    let w = k.renewing.long in
                    let e : y ≡ j = eqb-true _ _ z in
                    let n : get_or (set g.records j (tower t p)) y d' ≡ tower t p = ap (λ (v : ℕ). get_or (set g.records j (tower t p)) v d') e ∙ get_or-set_same g.records j (tower t p) d' (omega arith) in
                    let r : q ≡ p = on_new t p q (ap (is_tower_on q) (sym n) ∙ o) in
                    let s : get_or g.records y d' ≡ get_or g.records j d = ap (λ (v : ℕ). get_or g.records v d') e ∙ same_default g.records j d' d (omega arith) in
                    (f, rw (s, r) (sym eb ∙ tb))
                by false z = (f, ap (is_tower_on q) (sym (get_or-set_other g.records j y (tower t p) d' (eqb-false _ _ z))) ∙ o)
