-- What the picks are: each by itself, and again with a further cell busy, which changes the first pick on it alone.
use mathlib.Core.Path.{◌≡◌, refl, sym, ap, ◌∙◌}
use Prim.Native.Nat.{ℕ, zero, suc, ◌+◌, ◌≤◌, ◌<◌}
use mathlib.Core.Bool.{Bool, true, false, cond, false≢true}
use mathlib.Core.List.{List}
use native.Mathlib.Nat.{zero-add}
use native.Mathlib.Omega.{arith}
use borrow.Author.Tests.{eqb-true, eqb-false}
use lib.Dec.{eqb}
use lib.ListN.{length, get_or, set, length-set}
use lib.Seq.{get_or-set_same, get_or-set_other}
use Rattle.std.specs.Option.{option_eq}
use Rattle.std.specs.Prelude.{nat_eq, Option, Some, None, unwrap_or}
use Rattle.molecule.specs.Layout.{span, fix_count}
use Rattle.lists.proofs.EqualLaws.{not_so}
use Rattle.out_points.specs.declared.{OutPoint.OutPoint}
use Rattle.out_points.specs.OutPoints.{eq_point, has, point_of, points}
use Rattle.out_points.proofs.EqualLaws.{point-same, point_refl, flip, has_last}
use Rattle.item_index.proofs.OrderLaws.{three}
use Rattle.pick_kinds.specs.declared.{Kind.Kind}
use Rattle.pick_kinds.specs.Kinds.{is_held_or_spent, none_is, kind_of, Kinds}
use Rattle.pick_kinds.specs.Indexed.{FirstAt, First, also, Adds}
use Rattle.pick_kinds.proofs.PlaceLaws.{first-yes, first-no}

-- ---- out points among those before a place

has-none : (q : OutPoint) (g : ℕ → OutPoint) (i : ℕ) → ((j : ℕ) → j < i → eq_point q (g j) ≡ false) → has q (span g 0 i) ≡ false
unfolding has span
has-none q g zero h = refl
has-none q g (suc i) h = has_last q g 0 i ∙ rw (has-none q g i (λ j l. h j (omega arith)), zero-add i, h i (omega arith))

has_one : (q : OutPoint) (g : ℕ → OutPoint) (i j : ℕ) → j < i → eq_point q (g j) ≡ true → has q (span g 0 i) ≡ true
has_one q g zero j l e = absurd (omega arith)
has_one q g (suc i) j l e = has_last q g 0 i ∙ both (λ m. has_one q g i j m e)
  where
    by : (b : Bool) {c : Bool} → c ≡ true → cond b true c ≡ true
    by true t = refl
    by false t = t

    both : (j < i → has q (span g 0 i) ≡ true) → cond (has q (span g 0 i)) true (eq_point q (g (0 + i))) ≡ true
    both earlier = three j i
        (λ m. rw (earlier m))
        (λ m. by (has q (span g 0 i)) (ap (λ (v : ℕ). eq_point q (g v)) (zero-add i ∙ sym m) ∙ e))
        (λ m. absurd (omega arith))

-- ---- a pick by itself

module _ {g : ℕ → OutPoint} {n i : ℕ} {r : Option ℕ} (k : First g n (g i) r) (l : i < n) {b : Bool} (e : b ≡ option_eq nat_eq r (Some i)) where
  abbrev at : ℕ
  at = unwrap_or r n

  pub kind_first : b ≡ true → Kind.Free ≡ kind_of none_is g i
  unfolding kind_of none_is
  kind_first t =
      let z : at ≡ i = first-yes k l e t in
      sym (rw (has-none (g i) g i (λ j m. k.first.before j (omega arith))))

  pub kind_again : b ≡ false → Kind.Again ≡ kind_of none_is g i
  unfolding kind_of none_is
  kind_again t = three at i
      (λ m. sym (rw (has_one (g i) g i at m (k.first.there (omega arith)))))
      (λ m. absurd (first-no k l e t m))
      (λ m. absurd (false≢true (sym (k.first.before i m) ∙ point_refl (g i))))

-- a further kind put
pub kind_put : (f : OutPoint → Bool) (g : ℕ → OutPoint) {i : ℕ} {v : Kind} {m : List Kind} → i < length m → v ≡ kind_of f g i → Kinds f g i m → Kinds f g (i + 1) (set m i v)
kind_put f g {i} {v} {m} l e k = record { room = omega (arith, length-set m i v); each = each }
  where
    each : (j : ℕ) → j < i + 1 → get_or (set m i v) j Kind.Again ≡ kind_of f g j
    each j h = three j i
        (λ d. get_or-set_other m i j v Kind.Again (λ q. omega arith) ∙ k.each j d)
        (λ d. rw d (get_or-set_same m i v Kind.Again l ∙ e))
        (λ d. absurd (omega arith))

pub record Setting (g : ℕ → OutPoint) (n i : ℕ) (m₀ m : List Kind) : Type 0 where
  pub within : i ≤ n
  pub long : length m ≡ length m₀
  pub all : n ≤ length m₀
  pub kinds : Kinds none_is g i m

pub set-start : (g : ℕ → OutPoint) (n : ℕ) (m : List Kind) → n ≤ length m → Setting g n 0 m m
set-start g n m h = record { within = omega arith; long = refl; all = h; kinds = record { room = omega arith; each = λ i l. absurd (omega arith) } }

module _ {g : ℕ → OutPoint} {n i : ℕ} {m₀ m : List Kind} (k : Setting g n i m₀ m) where
  pub set_in : i < n → i < length m
  set_in l = let a = k.all in let b = k.long in omega arith

  pub set_long : length m ≡ length m₀
  set_long = k.long

  pub set_more : {v : Kind} → i < n → v ≡ kind_of none_is g i → Setting g n (i + 1) m₀ (set m i v)
  set_more {v} l e = record { within = omega arith; long = length-set m i v ∙ k.long; all = k.all; kinds = kind_put none_is g (set_in l) e k.kinds }

  pub set-end : n ≤ i → Kinds none_is g n m
  set-end h = let e : i ≡ n = (let w = k.within in omega arith) in rw e at k.kinds

-- ---- a further cell is busy

abbrev kind : Bool → Bool → Kind
kind again busy = cond again Kind.Again (cond busy Kind.Busy Kind.Free)

kinds_as : {f h : OutPoint → Bool} {g : ℕ → OutPoint} {n : ℕ} {m : List Kind} → ((p : OutPoint) → f p ≡ h p) → Kinds f g n m → Kinds h g n m
unfolding kind_of
kinds_as {f} {h} {g} e k = record { room = k.room; each = λ i l. k.each i l ∙ ap (kind (has (g i) (span g 0 i))) (e (g i)) }

module _ {f : OutPoint → Bool} {g : ℕ → OutPoint} {n : ℕ} {m : List Kind} (k : Kinds f g n m) {q : OutPoint} {at : ℕ} (w : FirstAt g n q at) where
  abbrev more : OutPoint → Bool
  more p = cond (f p) true (eq_point p q)

  -- the first pick on it
  here : at < n → kind_of more g at ≡ Kind.Busy
  unfolding kind_of
  here l =
      let e : q ≡ g at = point-same q (g at) (w.there l) in
      rw (has-none (g at) g at (λ j b. ap (λ (x : OutPoint). eq_point x (g j)) (sym e) ∙ w.before j b), flip q (g at) true (w.there l)) (by (f (g at)))
    where
      by : (b : Bool) → kind false (cond b true true) ≡ Kind.Busy
      by true = refl
      by false = refl

  -- any other is what it was
  other : (i : ℕ) → i < n → (i ≡ at → ⊥) → kind_of f g i ≡ kind_of more g i
  unfolding kind_of
  other i l d = by (has (g i) (span g 0 i)) refl
    where
      or_false : (b : Bool) → b ≡ cond b true false
      or_false true = refl
      or_false false = refl

      differs : has (g i) (span g 0 i) ≡ false → eq_point (g i) q ≡ false
      differs h = not_so (eq_point (g i) q) (λ e. three at i
          (λ b. false≢true (sym h ∙ has_one (g i) g i at b (ap (λ (x : OutPoint). eq_point x (g at)) (point-same (g i) q e) ∙ w.there (omega arith))))
          (λ b. d (sym b))
          (λ b. false≢true (sym (w.before i b) ∙ flip (g i) q true e)))

      by : (b : Bool) → has (g i) (span g 0 i) ≡ b → kind b (f (g i)) ≡ kind b (cond (f (g i)) true (eq_point (g i) q))
      by true h = refl
      by false h = ap (kind false) (or_false (f (g i)) ∙ ap (λ (b : Bool). cond (f (g i)) true b) (sym (differs h)))

  kinds_more : Kinds more g n (set m at Kind.Busy)
  kinds_more = let r = k.room in record { room = omega (arith, length-set m at Kind.Busy); each = each }
    where
      each : (i : ℕ) → i < n → get_or (set m at Kind.Busy) i Kind.Again ≡ kind_of more g i
      each i l = by (eqb i at) refl
        where
          by : (b : Bool) → eqb i at ≡ b → get_or (set m at Kind.Busy) i Kind.Again ≡ kind_of more g i
          by true e =
              let z : i ≡ at = eqb-true i at e in
              let r = k.room in
              let s : at < n = omega arith in
              rw z (get_or-set_same m at Kind.Busy Kind.Again (omega arith) ∙ sym (here s))
          by false e = get_or-set_other m at i Kind.Busy Kind.Again (eqb-false i at e) ∙ k.each i l ∙ other i l (eqb-false i at e)

  -- no pick is on it
  kinds_same : n ≤ at → Kinds more g n m
  kinds_same h = record { room = k.room; each = λ i l. k.each i l ∙ other i l (λ e. omega arith) }

-- ---- the ways out

pub record Marking (g : ℕ → OutPoint) (n : ℕ) (s : List ℕ) (c i : ℕ) (m₀ m : List Kind) : Type 0 where
  pub within : i ≤ c
  pub long : length m ≡ length m₀
  pub adds : Adds g n (span (point_of s) 0 i) m₀ m

pub mark_start : (g : ℕ → OutPoint) (n : ℕ) (s : List ℕ) (c : ℕ) (m : List Kind) → Marking g n s c 0 m m
unfolding also has span
mark_start g n s c m = record { within = omega arith; long = refl; adds = record { on = λ f k. kinds_as (λ p. by (f p)) k } }
  where
    by : (b : Bool) → b ≡ cond b true false
    by true = refl
    by false = refl

module _ {g : ℕ → OutPoint} {n : ℕ} {s : List ℕ} {c i : ℕ} {m₀ m : List Kind} (k : Marking g n s c i m₀ m) where
  pub mark_below : c ≡ fix_count s → i < c → i < fix_count s
  mark_below e l = omega arith

  pub mark_long : length m ≡ length m₀
  mark_long = k.long

  more_is : (f : OutPoint → Bool) (p : OutPoint) → cond (cond (f p) true (has p (span (point_of s) 0 i))) true (eq_point p (point_of s i)) ≡ cond (f p) true (has p (span (point_of s) 0 (i + 1)))
  more_is f p =
      let z : suc i ≡ i + 1 = omega arith in
      assoc (f p) (has p (span (point_of s) 0 i)) (eq_point p (point_of s i))
      ∙ ap (λ (b : Bool). cond (f p) true b)
      (ap (λ (v : ℕ). cond (has p (span (point_of s) 0 i)) true (eq_point p (point_of s v))) (sym (zero-add i))
      ∙ sym (has_last p (point_of s) 0 i)
      ∙ ap (λ (v : ℕ). has p (span (point_of s) 0 v)) z)
    where
      assoc : (a b c : Bool) → cond (cond a true b) true c ≡ cond a true (cond b true c)
      assoc true b c = refl
      assoc false b c = refl

  pub mark_some : {at : ℕ} → i < c → First g n (point_of s i) (Some at) → Marking g n s c (i + 1) m₀ (set m at Kind.Busy)
  unfolding also
  mark_some {at} l w =
      record {
        within = omega arith;
        long = length-set m at Kind.Busy ∙ k.long;
        adds = record { on = λ f j. kinds_as (λ p. more_is f p) (kinds_more (k.adds.on f j) w.first) };
      }

  pub mark_none : i < c → First g n (point_of s i) None → Marking g n s c (i + 1) m₀ m
  unfolding also
  mark_none l w =
      record {
        within = omega arith;
        long = k.long;
        adds = record { on = λ f j. kinds_as (λ p. more_is f p) (kinds_same (k.adds.on f j) w.first (omega arith)) };
      }

  pub mark_end : c ≡ fix_count s → c ≤ i → Adds g n (points s) m₀ m
  mark_end e l = let z : i ≡ fix_count s = (let w = k.within in omega arith) in rw z at k.adds

pub kinds_both : (g : ℕ → OutPoint) (n : ℕ) (cells spent : List OutPoint) {m₁ m₂ m₃ : List Kind} → Kinds none_is g n m₁ → Adds g n cells m₁ m₂ → Adds g n spent m₂ m₃
    → Kinds (is_held_or_spent cells spent) g n m₃
unfolding also none_is is_held_or_spent
kinds_both g n cells spent k a b = kinds_as {f = also (also none_is cells) spent} {h = is_held_or_spent cells spent} (λ p. refl) (b.on (also none_is cells) (a.on none_is k))

-- no kinds
pub kinds_none : (f : OutPoint → Bool) (g : ℕ → OutPoint) (m : List Kind) → Kinds f g 0 m
kinds_none f g m = record { room = omega arith; each = λ i l. absurd (omega arith) }
