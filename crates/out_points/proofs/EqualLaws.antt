-- When two out points are the same: one law for each way out of the tests, and that the tests say equality.
use Rattle.std.proofs.Common.{◌≡◌, ℕ, zero, suc, ◌+◌, ◌-◌, ◌*◌, ◌<◌, ◌≤◌, Bool, true, false, cond, ◌&&◌, eqb, List, take, drop, sym, refl, ap, ◌∙◌, arith, eq-eqb, eqb-true}
use mathlib.Core.Bool.{false≢true}
use Rattle.molecule.specs.Layout.{span, fix_count, fix_item}
use Rattle.molecule.proofs.LayoutLaws.{fix_count_said}
use Rattle.lists.proofs.EqualLaws.{not_so}
use Rattle.lists.proofs.RunLaws.{item_run}
use Rattle.lists.proofs.SpanLaws.{span-on, span-end, span-whole}
use Rattle.out_points.specs.declared.{Byte32.Byte32, OutPoint.OutPoint}
use Rattle.out_points.specs.OutPoints.{eq_hash, eq_point, slot_of, has, out_point_at, point_of, points}

-- ---- slots

pub slot_below : (p : OutPoint) → slot_of p < 4093
unfolding slot_of
slot_below p = omega arith

-- an item that stands whole
module _ (s : List ℕ) (i : ℕ) {x : List ℕ} (h : i < fix_count s) (e : x ≡ take (40 + 36 * i - (4 + 36 * i)) (drop (4 + 36 * i) s)) where
  pub whole : x ≡ fix_item s 36 i
  whole = let z : 40 + 36 * i - (4 + 36 * i) ≡ 36 = omega arith in e ∙ ap (λ (n : ℕ). take n (drop (4 + 36 * i) s)) z ∙ sym (item_run s 36 i (omega (arith, fix_count_said s)))

  pub whole-point : point_of s i ≡ out_point_at x 0
  unfolding point_of
  whole-point = ap (λ (y : List ℕ). out_point_at y 0) (sym whole)

-- ---- the tests say equality

pub and_both : (a b : Bool) → (a && b) ≡ true → (a ≡ true) × (b ≡ true)
and_both true b e = (refl, e)
and_both false b e = absurd (true_is_not_false e)
  where
    true_is_not_false : false ≡ true → ⊥
    true_is_not_false e = let z : ◌≡◌ {A = ℕ} 0 1 = cc in omega arith

pub hash-same : (x y : Byte32) → eq_hash x y ≡ true → x ≡ y
unfolding eq_hash
hash-same x y e =
    let p = and_both (eqb x.a y.a) (eqb x.b y.b && (eqb x.c y.c && eqb x.d y.d)) e in
    let q = and_both (eqb x.b y.b) (eqb x.c y.c && eqb x.d y.d) p.1 in
    let r = and_both (eqb x.c y.c) (eqb x.d y.d) q.1 in
    made x.a x.b x.c x.d y.a y.b y.c y.d (eqb-true _ _ p.0) (eqb-true _ _ q.0) (eqb-true _ _ r.0) (eqb-true _ _ r.1)
  where
    made : (a b c d a' b' c' d' : ℕ) → a ≡ a' → b ≡ b' → c ≡ c' → d ≡ d' → ◌≡◌ {A = Byte32} (record { a = a; b = b; c = c; d = d }) (record { a = a'; b = b'; c = c'; d = d' })
    made a b c d a' b' c' d' p q r s = rw (p, q, r, s)

hash_refl : (x : Byte32) → eq_hash x x ≡ true
unfolding eq_hash
hash_refl x = rw (eq-eqb x.a x.a refl, eq-eqb x.b x.b refl, eq-eqb x.c x.c refl, eq-eqb x.d x.d refl)

pub point-same : (p q : OutPoint) → eq_point p q ≡ true → p ≡ q
unfolding eq_point
point-same p q e =
    let a = and_both (eqb p.index q.index) (eq_hash p.hash q.hash) e in
    made p.hash q.hash p.index q.index (hash-same _ _ a.1) (eqb-true _ _ a.0)
  where
    made : (h h' : Byte32) (n n' : ℕ) → h ≡ h' → n ≡ n' → ◌≡◌ {A = OutPoint} (record { hash = h; index = n }) (record { hash = h'; index = n' })
    made h h' n n' e f = rw (e, f)

pub point_refl : (p : OutPoint) → eq_point p p ≡ true
unfolding eq_point
point_refl p = rw (eq-eqb p.index p.index refl, hash_refl p.hash)

pub flip : (p q : OutPoint) (b : Bool) → eq_point p q ≡ b → eq_point q p ≡ b
flip p q true e = ap (λ (x : OutPoint). eq_point q x) (point-same p q e) ∙ point_refl q
flip p q false e = not_so (eq_point q p) (λ h. false≢true (sym e ∙ ap (λ (x : OutPoint). eq_point p x) (point-same q p h) ∙ point_refl p))

-- `==` of out points, field by field
pub points_are : (p q : OutPoint) {r : Bool} → r ≡ ((eqb p.hash.a q.hash.a && (eqb p.hash.b q.hash.b && (eqb p.hash.c q.hash.c && eqb p.hash.d q.hash.d))) && eqb p.index q.index) → r ≡ eq_point p q
unfolding eq_point eq_hash
points_are p q e = e ∙ turned (eq_hash p.hash q.hash) (eqb p.index q.index)
  where
    turned : (a b : Bool) → (a && b) ≡ (b && a)
    turned true true = refl
    turned true false = refl
    turned false true = refl
    turned false false = refl

-- one more at the end of what stands before
pub has_last : (q : OutPoint) (g : ℕ → OutPoint) (j i : ℕ) → has q (span g j (suc i)) ≡ cond (has q (span g j i)) true (eq_point q (g (j + i)))
unfolding has span
has_last q g j zero = let e : j + 0 ≡ j = omega arith in rw e (by (eq_point q (g j)))
  where
    by : (b : Bool) → cond b true false ≡ b
    by true = refl
    by false = refl
has_last q g j (suc i) = let e : suc j + i ≡ j + suc i = omega arith in by (eq_point q (g j)) (has_last q g (suc j) i ∙ rw e)
  where
    by : (b : Bool) → has q (span g (suc j) (suc i)) ≡ cond (has q (span g (suc j) i)) true (eq_point q (g (j + suc i)))
        → cond b true (has q (span g (suc j) (suc i))) ≡ cond (cond b true (has q (span g (suc j) i))) true (eq_point q (g (j + suc i)))
    by true h = refl
    by false h = h

-- ---- a search in a list: what is left decides

pub record Seek (p : OutPoint) (f : ℕ → OutPoint) (n i : ℕ) (R : Bool) : Type 0 where
  pub rest : R ≡ has p (span f i (n - i))

pub seek_start : (p : OutPoint) (f : ℕ → OutPoint) (n : ℕ) → Seek p f n 0 (has p (span f 0 n))
seek_start p f n = record { rest = ap (has p) (span-whole f n) }

module _ {p : OutPoint} {f : ℕ → OutPoint} {n i : ℕ} {R : Bool} (h : Seek p f n i R) where
  pub seek_end : n ≤ i → false ≡ R
  unfolding has
  seek_end l = sym (h.rest ∙ rw (span-end f i n l))

  module _ {q : OutPoint} {r : Bool} (k : i < n) (ey : q ≡ f i) (e : r ≡ eq_point p q) where
    pub seek_more : r ≡ false → Seek p f n (i + 1) R
    unfolding has
    seek_more t = record { rest = h.rest ∙ rw (span-on f i n k, ← ey, ← e, t) }

    pub seek_found : r ≡ true → true ≡ R
    unfolding has
    seek_found t = sym (h.rest ∙ rw (span-on f i n k, ← ey, ← e, t))

pub seek_all : (p : OutPoint) (s : List ℕ) {n : ℕ} {r : Bool} → n ≡ fix_count s → r ≡ has p (span (point_of s) 0 n) → r ≡ has p (points s)
seek_all p s e h = h ∙ ap (λ (n : ℕ). has p (span (point_of s) 0 n)) e
