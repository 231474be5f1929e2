-- Marks: where that of an out point is not set, no list of those that were marked has it.
use mathlib.Core.Path.{◌≡◌, refl, sym, ap, ◌∙◌}
use Prim.Native.Nat.{ℕ, ◌+◌, ◌-◌, ◌≤◌, ◌<◌}
use native.Mathlib.Omega.{arith}
use borrow.Author.Tests.{eqb-true, eqb-false}
use mathlib.Core.Bool.{Bool, true, false, cond, false≢true}
use mathlib.Core.List.{List, [], ◌∷◌}
use lib.Dec.{eqb}
use lib.ListN.{length, get_or, set, replicate, length-set, length-replicate}
use lib.Seq.{set_out, get_or-set_same, get_or-set_other}
use Rattle.molecule.specs.Layout.{span, fix_count}
use Rattle.lists.proofs.SpanLaws.{span-on, span-end, span-whole}
use Rattle.out_points.specs.declared.{OutPoint.OutPoint}
use Rattle.out_points.specs.OutPoints.{eq_point, slot_of, has, point_of, points}
use Rattle.out_points.proofs.EqualLaws.{point-same, slot_below}
use Rattle.pick_kinds.specs.Kinds.{is_held_or_spent}
use Rattle.unavailable_picks.specs.Inner.{marked, Marks}

-- ---- set

module _ (m : List Bool) (p : OutPoint) {i : ℕ} (e : i ≡ slot_of p) where
  pub mark_out : length m ≤ i → m ≡ set m (slot_of p) true
  mark_out h = rw (← e) (sym (set_out m i true h))

  pub mark_in : set m i true ≡ set m (slot_of p) true
  mark_in = rw e

pub record Marking (s : List ℕ) (n i : ℕ) (m₀ m : List Bool) : Type 0 where
  pub long : length m ≡ length m₀
  pub rest : marked (span (point_of s) i (n - i)) m ≡ marked (points s) m₀

pub mark_start : (s : List ℕ) (m : List Bool) {n : ℕ} → n ≡ fix_count s → Marking s n 0 m m
mark_start s m {n} e = record { long = refl; rest = ap (λ (l : List OutPoint). marked l m) (sym (span-whole (point_of s) n) ∙ ap (span (point_of s) 0) e) }

module _ {s : List ℕ} {n i : ℕ} {m₀ m : List Bool} (k : Marking s n i m₀ m) where
  pub mark_more : {p : OutPoint} {m₁ : List Bool} → i < n → p ≡ point_of s i → m₁ ≡ set m (slot_of p) true → Marking s n (i + 1) m₀ m₁
  unfolding marked
  mark_more {p} {m₁} l e f = record { long = ap length f ∙ length-set m (slot_of p) true ∙ k.long; rest = rw (f, e) (ap (λ (x : List OutPoint). marked x m) (sym (span-on (point_of s) i n l)) ∙ k.rest) }

  pub mark_long : length m ≡ length m₀
  mark_long = k.long

  pub mark_end : n ≤ i → m ≡ marked (points s) m₀
  unfolding marked
  mark_end l = ap (λ (x : List OutPoint). marked x m) (sym (span-end (point_of s) i n l)) ∙ k.rest

pub mark_two : (cells spent : List OutPoint) (m : List Bool) {m₁ m₂ : List Bool} → m₁ ≡ marked cells m → m₂ ≡ marked spent m₁ → m₂ ≡ marked spent (marked cells m)
mark_two cells spent m e f = f ∙ ap (marked spent) e

-- ---- what they tell

length_marked : (l : List OutPoint) (m : List Bool) → length (marked l m) ≡ length m
unfolding marked
length_marked [] m = refl
length_marked (p ∷ l) m = length_marked l (set m (slot_of p) true) ∙ length-set m (slot_of p) true

-- a mark that is set stays set
still_set : (m : List Bool) (i j : ℕ) → i < length m → get_or m i false ≡ true → get_or (set m j true) i false ≡ true
still_set m i j l e = by (eqb i j) refl
  where
    by : (t : Bool) → eqb i j ≡ t → get_or (set m j true) i false ≡ true
    by true h = let z : i ≡ j = eqb-true i j h in rw (← z) (get_or-set_same m i true false l)
    by false h = get_or-set_other m j i true false (eqb-false i j h) ∙ e

still_marked : (l : List OutPoint) (m : List Bool) (i : ℕ) → i < length m → get_or m i false ≡ true → get_or (marked l m) i false ≡ true
unfolding marked
still_marked [] m i b e = e
still_marked (p ∷ l) m i b e = still_marked l (set m (slot_of p) true) i (omega (arith, length-set m (slot_of p) true)) (still_set m i (slot_of p) b e)

is-marked : (p : OutPoint) (l : List OutPoint) (m : List Bool) → slot_of p < length m → has p l ≡ true → get_or (marked l m) (slot_of p) false ≡ true
unfolding marked has
is-marked p [] m b h = absurd (false≢true h)
is-marked p (q ∷ l) m b h = by (eq_point p q) refl h (is-marked p l (set m (slot_of q) true) c)
  where
    c : slot_of p < length (set m (slot_of q) true)
    c = omega (arith, length-set m (slot_of q) true)

    by : (t : Bool) → eq_point p q ≡ t → cond t true (has p l) ≡ true → (has p l ≡ true → get_or (marked l (set m (slot_of q) true)) (slot_of p) false ≡ true)
        → get_or (marked l (set m (slot_of q) true)) (slot_of p) false ≡ true
    by true e g f =
        let z : slot_of q ≡ slot_of p = ap slot_of (sym (point-same p q e)) in
        still_marked l (set m (slot_of q) true) (slot_of p) c (rw z (get_or-set_same m (slot_of p) true false b))
    by false e g f = f g

-- neither list has an out point whose mark is not set
free : (cells spent : List OutPoint) (m : List Bool) (p : OutPoint) → slot_of p < length m → get_or (marked spent (marked cells m)) (slot_of p) false ≡ false → is_held_or_spent cells spent p ≡ false
unfolding is_held_or_spent
free cells spent m p b e = by (has p cells) (has p spent) refl refl
  where
    c : slot_of p < length (marked cells m)
    c = omega (arith, length_marked cells m)

    by : (t u : Bool) → has p cells ≡ t → has p spent ≡ u → cond t true u ≡ false
    by true u ht hu = absurd (false≢true (sym e ∙ still_marked spent (marked cells m) (slot_of p) c (is-marked p cells m b ht)))
    by false true ht hu = absurd (false≢true (sym e ∙ is-marked p spent (marked cells m) c hu))
    by false false ht hu = refl

pub marks_are : (cells spent : List OutPoint) {m : List Bool} → m ≡ marked spent (marked cells (replicate 4093 false)) → Marks cells spent m
marks_are cells spent {m} e =
    let l : length (replicate {A = Bool} 4093 false) ≡ 4093 = length-replicate {A = Bool} 4093 false in
    record {
      enough = ap length e ∙ length_marked spent (marked cells (replicate 4093 false)) ∙ length_marked cells (replicate 4093 false) ∙ l;
      unmarked = λ p h. free cells spent (replicate 4093 false) p (omega (arith, l, slot_below p)) (ap (λ (x : List Bool). get_or x (slot_of p) false) (sym e) ∙ h);
    }

module _ {cells spent : List OutPoint} {m : List Bool} (k : Marks cells spent m) where
  pub mark_stands : {i : ℕ} → i < 4093 → i < length m
  mark_stands l = let e = k.enough in omega arith

  pub busy_unmarked : (p : OutPoint) {i : ℕ} → i ≡ slot_of p → get_or m i false ≡ false → false ≡ is_held_or_spent cells spent p
  busy_unmarked p e h = sym (k.unmarked p (rw e at h))
