-- The watchtower's records renewed: in the code by place, in the definition by recursion.
use mathlib.Core.Path.{◌≡◌, refl, sym, ap, ap₂, ◌∙◌}
use Prim.Native.Nat.{ℕ, zero, suc, ◌+◌, ◌-◌, ◌≤◌, ◌<◌, min}
use native.Mathlib.Omega.{arith}
use borrow.Author.Tests.{ltb-true, ltb-false}
use mathlib.Core.Bool.{Bool, true, false, cond, false≢true}
use mathlib.Core.List.{List, [], ◌∷◌}
use lib.Dec.{ltb}
use lib.ListN.{length, get_or, take, set, length-set, length-take}
use lib.Seq.{get_or-take}
use Rattle.units.specs.declared.{Millis.Millis}
use Rattle.molecule.specs.Layout.{span, fix_count}
use Rattle.lists.proofs.SpanLaws.{span-on, span-end, span-whole}
use Rattle.out_points.specs.declared.{OutPoint.OutPoint}
use Rattle.out_points.specs.OutPoints.{point_of, points}
use Rattle.out_points.specs.Tables.{renew}
use Rattle.hold_records.specs.declared.{Owner.Owner, Hold.Hold, Held.Held}
use Rattle.hold_records.specs.Holds.{records_of, held_by, is_tower_on, renew_all}
use Rattle.watchtower_holds.specs.Inner.{tower_place}
use Rattle.hold_records.proofs.LoopLaws.{stands}

-- ---- where the first record on p stands

pub place-below : (p : OutPoint) (l : List Hold) → tower_place p l ≤ length l
unfolding tower_place
place-below p [] = omega arith
place-below p (y ∷ l) = by (is_tower_on p y) (place-below p l)
  where
    by : (b : Bool) → tower_place p l ≤ length l → cond b 0 (suc (tower_place p l)) ≤ suc (length l)
    by true h = omega arith
    by false h = omega arith

-- one that is on p stands no earlier
place_at_lem : (p : OutPoint) (l : List Hold) (k : ℕ) (d : Hold) → k < length l → is_tower_on p (get_or l k d) ≡ true → tower_place p l ≤ k
unfolding tower_place
place_at_lem p [] k d h e = absurd (omega arith)
place_at_lem p (y ∷ l) zero d h e = rw e (omega arith)
place_at_lem p (y ∷ l) (suc k) d h e = by (is_tower_on p y) (place_at_lem p l k d (omega arith) e)
  where
    by : (b : Bool) → tower_place p l ≤ k → cond b 0 (suc (tower_place p l)) ≤ suc k
    by true g = omega arith
    by false g = omega arith

place_is : (p : OutPoint) (l : List Hold) (d : Hold) → tower_place p l < length l → is_tower_on p (get_or l (tower_place p l) d) ≡ true
unfolding tower_place
place_is p [] d h = absurd (omega arith)
place_is p (y ∷ l) d h = by (is_tower_on p y) refl h (place_is p l d)
  where
    by : (b : Bool) → is_tower_on p y ≡ b → cond b 0 (suc (tower_place p l)) < suc (length l) → (tower_place p l < length l → is_tower_on p (get_or l (tower_place p l) d) ≡ true)
        → is_tower_on p (get_or (y ∷ l) (cond b 0 (suc (tower_place p l))) d) ≡ true
    by true e h f = e
    by false e h f = f (omega arith)

-- the same of a table
module _ (p : OutPoint) (h : Held) (w : length h.records ≡ 256) where
  pub place_most : tower_place p (records_of h) ≤ min h.count 256
  place_most = let a = place-below p (records_of h) in let b = stands h w in omega arith

  pub stands_at : {j : ℕ} (d : Hold) → j < min h.count 256 → is_tower_on p (get_or h.records j d) ≡ true → tower_place p (records_of h) ≤ j
  unfolding records_of
  stands_at {j} d l e =
      let b = stands h w in
      place_at_lem p (take h.count h.records) j d (omega arith) (ap (is_tower_on p) (get_or-take h.count h.records j d (omega arith)) ∙ e)

  pub stands_on : (d : Hold) → tower_place p (records_of h) < min h.count 256 → is_tower_on p (get_or h.records (tower_place p (records_of h)) d) ≡ true
  unfolding records_of
  stands_on d l =
      let b = stands h w in
      let at = tower_place p (take h.count h.records) in
      ap (is_tower_on p) (sym (get_or-take h.count h.records at d (omega arith))) ∙ place_is p (take h.count h.records) d (omega arith)

-- ---- the search from a place on, where none stands before

pub record Placing (p : OutPoint) (h : Held) (n i : ℕ) : Type 0 where
  pub most : n ≡ min h.count 256
  pub whole : length h.records ≡ 256
  pub behind : min i n ≤ tower_place p (records_of h)

pub place-start : (p : OutPoint) (h : Held) {n from : ℕ} → min from (min h.count 256) ≤ tower_place p (records_of h) → n ≡ min h.count 256 → length h.records ≡ 256 → Placing p h n from
place-start p h b e l = record { most = e; whole = l; behind = omega arith }

module _ {p : OutPoint} {h : Held} {n i : ℕ} (k : Placing p h n i) where
  pub place_in : i < n → i < 256
  place_in l = let m = k.most in omega arith

  pub place-more : (d : Hold) {b : Bool} → i < n → b ≡ is_tower_on p (get_or h.records i d) → b ≡ false → Placing p h n (i + 1)
  place-more d l e t = record { most = k.most; whole = k.whole; behind = by (ltb i (tower_place p (records_of h))) refl }
    where
      by : (q : Bool) → ltb i (tower_place p (records_of h)) ≡ q → min (i + 1) n ≤ tower_place p (records_of h)
      by true z = let b : i < tower_place p (records_of h) = ltb-true _ _ z in omega arith
      by false z =
          let a : tower_place p (records_of h) ≤ i = ltb-false _ _ z in
          let b = k.behind in
          let m = k.most in
          let at : i ≡ tower_place p (records_of h) = omega arith in
          let on = stands_on p h k.whole d (omega arith) in
          absurd (false≢true (sym t ∙ e ∙ ap (λ (x : ℕ). is_tower_on p (get_or h.records x d)) at ∙ on))

  pub place_found : (d : Hold) {b : Bool} → i < n → b ≡ is_tower_on p (get_or h.records i d) → b ≡ true → i ≡ tower_place p (records_of h)
  place_found d l e t =
      let m = k.most in
      let b = k.behind in
      let z = stands_at p h k.whole d (omega arith) (sym e ∙ t) in
      omega arith

  pub place_end : n ≤ i → n ≡ tower_place p (records_of h)
  place_end l = let m = k.most in let b = k.behind in let z = place_most p h k.whole in omega arith

-- ---- a record put at its place

abbrev pub tower : Millis → OutPoint → Hold
tower t p = held_by (Owner.Watchtower t) p

put_place : (t : Millis) (p : OutPoint) (a : List Hold) (c : ℕ) → c ≤ length a → tower_place p (take c a) < length a
    → take (c + (tower_place p (take c a) + 1 - c)) (set a (tower_place p (take c a)) (tower t p)) ≡ renew (is_tower_on p) (tower t p) (take c a)
unfolding tower_place renew
put_place t p [] c h l = absurd (omega arith)
put_place t p (y ∷ a) zero h l = refl
put_place t p (y ∷ a) (suc c) h l = by (is_tower_on p y) l (λ b. put_place t p a c (omega arith) b)
  where
    by : (b : Bool) → cond b 0 (suc (tower_place p (take c a))) < suc (length a)
        → (tower_place p (take c a) < length a → take (c + (tower_place p (take c a) + 1 - c)) (set a (tower_place p (take c a)) (tower t p)) ≡ renew (is_tower_on p) (tower t p) (take c a))
        → take (suc c + (cond b 0 (suc (tower_place p (take c a))) + 1 - suc c)) (set (y ∷ a) (cond b 0 (suc (tower_place p (take c a)))) (tower t p))
        ≡ cond b (tower t p ∷ take c a) (y ∷ renew (is_tower_on p) (tower t p) (take c a))
    by true l f = let e : suc c + (0 + 1 - suc c) ≡ suc c = omega arith in ap (λ (n : ℕ). take n (tower t p ∷ a)) e
    by false l f =
        let e : suc c + (suc (tower_place p (take c a)) + 1 - suc c) ≡ suc (c + (tower_place p (take c a) + 1 - c)) = omega arith in
        ap (λ (n : ℕ). take n (y ∷ set a (tower_place p (take c a)) (tower t p))) e
        ∙ ap (λ (x : List Hold). y ∷ x) (f (omega arith))

renew-length : (t : Millis) (l : List Hold) (p : OutPoint) → length (renew (is_tower_on p) (tower t p) l) ≡ length l + (tower_place p l + 1 - length l)
unfolding tower_place renew
renew-length t [] p = refl
renew-length t (y ∷ l) p = by (is_tower_on p y) (renew-length t l p)
  where
    by : (b : Bool) → length (renew (is_tower_on p) (tower t p) l) ≡ length l + (tower_place p l + 1 - length l)
        → length (cond b (tower t p ∷ l) (y ∷ renew (is_tower_on p) (tower t p) l)) ≡ suc (length l) + (cond b 0 (suc (tower_place p l)) + 1 - suc (length l))
    by true h = omega arith
    by false h = omega arith

renew_grows : (t : Millis) (ps : List OutPoint) (l : List Hold) → length l ≤ length (renew_all t l ps)
unfolding renew_all
renew_grows t [] l = omega arith
renew_grows t (p ∷ ps) l = omega (arith, renew-length t l p, renew_grows t ps (renew (is_tower_on p) (tower t p) l))

-- ---- the loop over the cells

pub record Renewing (t : Millis) (s : List ℕ) (h g : Held) (n i : ℕ) : Type 0 where
  pub within : i ≤ n
  pub most : g.count ≤ 256
  pub long : length g.records ≡ 256
  pub rest : renew_all t (records_of g) (span (point_of s) i (n - i)) ≡ renew_all t (records_of h) (points s)

pub renew-start : (t : Millis) (s : List ℕ) (h g : Held) {n : ℕ} → n ≡ fix_count s → records_of g ≡ records_of h → g.count ≤ 256 → length g.records ≡ 256 → Renewing t s h g n 0
renew-start t s h g {n} e eg m l = record {
  within = omega arith;
  most = m;
  long = l;
  rest = rw (← e) (ap₂ (renew_all t) eg (sym (span-whole (point_of s) n)));
}

module _ {t : Millis} {s : List ℕ} {h g : Held} {n i : ℕ} (k : Renewing t s h g n i) where
  next : i < n → renew_all t (renew (is_tower_on (point_of s i)) (tower t (point_of s i)) (records_of g)) (span (point_of s) (i + 1) (n - (i + 1))) ≡ renew_all t (records_of h) (points s)
  unfolding renew_all
  next l = sym (ap (renew_all t (records_of g)) (span-on (point_of s) i n l)) ∙ k.rest

  module _ {p : OutPoint} {a : ℕ} (l : i < n) (ep : p ≡ point_of s i) (ea : a ≡ tower_place p (records_of g)) where
    module _ {c : ℕ} (b : a < 256) (ec : c ≡ g.count + (a + 1 - g.count)) where
      pub renewed_is : records_of (record { records = set g.records a (tower t p); count = c }) ≡ renew (is_tower_on p) (tower t p) (records_of g)
      unfolding records_of
      renewed_is =
          let m = k.most in
          let w = k.long in
          let at : tower_place p (take g.count g.records) < length g.records = rw (← ea) (omega arith) in
          rw (ec, ea) (put_place t p g.records g.count (omega arith) at)

      pub renew-more : Renewing t s h (record { records = set g.records a (tower t p); count = c }) n (i + 1)
      renew-more =
          let m = k.most in
          let y : renew_all t (renew (is_tower_on p) (tower t p) (records_of g)) (span (point_of s) (i + 1) (n - (i + 1))) ≡ renew_all t (records_of h) (points s) = rw ep (next l) in
          record {
            within = omega arith;
            most = omega arith;
            long = simp length-set k.long;
            rest = ap (λ (x : List Hold). renew_all t x (span (point_of s) (i + 1) (n - (i + 1)))) renewed_is ∙ y;
          }

    pub renew-full : 256 ≤ a → 256 < length (renew_all t (records_of h) (points s))
    unfolding records_of
    renew-full b =
        let m = k.most in
        let w = k.long in
        let u : length (take g.count g.records) ≡ g.count = simp length-take (omega arith) in
        let v = renew-length t (take g.count g.records) p in
        let x = renew_grows t (span (point_of s) (i + 1) (n - (i + 1))) (renew (is_tower_on p) (tower t p) (take g.count g.records)) in
        let y : renew_all t (renew (is_tower_on p) (tower t p) (take g.count g.records)) (span (point_of s) (i + 1) (n - (i + 1))) ≡ renew_all t (take h.count h.records) (points s) = rw ep (next l) in
        omega (arith, x, v, u, ea, ap length y)

  pub renew-end : n ≤ i → records_of g ≡ renew_all t (records_of h) (points s)
  unfolding renew_all
  renew-end l = sym (ap (renew_all t (records_of g)) (span-end (point_of s) i n l)) ∙ k.rest

  pub renew_short : n ≤ i → length (renew_all t (records_of h) (points s)) ≤ 256
  unfolding records_of
  renew_short l =
      let m = k.most in
      let u : length (take g.count g.records) ≡ min g.count (length g.records) = length-take g.count g.records in
      omega (arith, u, ap length (renew-end l))
