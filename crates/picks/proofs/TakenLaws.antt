-- `take`: one law for each way out, and what its calls ask for.
use mathlib.Core.Path.{◌≡◌, refl, sym, ap, ap₂, ◌∙◌}
use Prim.Native.Nat.{ℕ, zero, suc, ◌+◌, ◌-◌, ◌*◌, ◌≤◌, ◌<◌, min}
use native.Mathlib.Omega.{arith}
use borrow.Author.Tests.{leb-true, le-leb, lt-leb}
use mathlib.Core.Bool.{Bool, true, false, not, ◌&&◌, cond, false≢true}
use mathlib.Core.List.{List, [], ◌∷◌, ◌++◌, map}
use lib.Dec.{leb}
use lib.ListN.{length, drop}
use Rattle.std.proofs.Common.{Ok, Err}
use Rattle.error.specs.declared.{Refusal.Refusal}
use Rattle.error.specs.Refusal.{number, values}
use Rattle.molecule.specs.Layout.{span, fix_count}
use Rattle.out_points.specs.declared.{OutPoint.OutPoint}
use Rattle.out_points.specs.OutPoints.{has, point_of, points, point_list}
use Rattle.out_points.proofs.ListLaws.{length_list}
use Rattle.out_points.proofs.EqualLaws.{and_both}
use Rattle.error.specs.Outcome.{Outcome, fine, refused, check, check_with, ◌>>=◌, ◌>>◌, told_by}
use Rattle.out_points.specs.Tables.{has_room, with_list}
use Rattle.hold_records.specs.declared.{Owner.Owner, Hold.Hold, Held.Held}
use Rattle.hold_records.specs.Holds.{records_of, cells_of, is_busy, firsts, others, held_by, Taken, take_these, take_free, after_take}
use Rattle.hold_records.specs.Inner.{put_if}
use Rattle.hold_records.proofs.LoopLaws.{stands}
use Rattle.hold_records.proofs.WriteLaws.{room_yes, put_yes}
use Rattle.pick_kinds.specs.declared.{Kind.Kind}
use Rattle.pick_kinds.specs.Kinds.{is_held_or_spent, kind_of, Kinds}
use Rattle.unavailable_picks.specs.Inner.{is_first, select}
use Rattle.unavailable_picks.proofs.FirstLaws.{is_other, firsts-select, others-select}
use Rattle.picks.specs.Inner.{is_free_kind, is_free, is_left, free_of, left_of, Tallied}

-- ---- a table with the taken cells last

cells-held : (owner : Owner) (l : List OutPoint) → cells_of (map (held_by owner) l) ≡ l
cells-held owner [] = refl
cells-held owner (p ∷ l) = ap (λ (x : List OutPoint). p ∷ x) (cells-held owner l)

drop-front : (a b : List Hold) (n : ℕ) → length a ≡ n → drop n (a ++ b) ≡ b
drop-front a b n e = rw (← e) (go a)
  where
    go : (x : List Hold) → drop (length x) (x ++ b) ≡ b
    go [] = refl
    go (y ∷ x) = go x

module _ {owner : Owner} {l : List OutPoint} {h g : Held} {c : ℕ} (t : Tallied owner l h g c) {from : ℕ} (ef : from ≡ min h.count 256) (r : c ≤ 256 - from) where
  taken-cells : cells_of (drop from (records_of g)) ≡ l
  taken-cells =
      ap (λ (x : List Hold). cells_of (drop from x)) (t.added (omega arith))
      ∙ ap cells_of (drop-front (records_of h) (map (held_by owner) l) from (stands h t.whole ∙ sym ef))
      ∙ cells-held owner l

  pub take_count : g.count ≤ 256
  take_count = let e = t.stands (omega arith) in omega arith

-- ---- the picks to take, and the others

module _ (f h : ℕ → Bool) (g : ℕ → OutPoint) where
  -- a test and its opposite select all
  both-from : ((j : ℕ) → h j ≡ not (f j)) → (i k : ℕ) → length (select f g i k) + length (select h g i k) ≡ k
  unfolding select
  both-from on i zero = refl
  both-from on i (suc k) = by (f i) (h i) (on i) (both-from on (suc i) k)
    where
      by : (a b : Bool) → b ≡ not a → length (select f g (suc i) k) + length (select h g (suc i) k) ≡ k
          → length (cond a (g i ∷ select f g (suc i) k) (select f g (suc i) k)) + length (cond b (g i ∷ select h g (suc i) k) (select h g (suc i) k)) ≡ suc k
      by true true e z = absurd (false≢true (sym e))
      by true false e z = omega arith
      by false true e z = omega arith
      by false false e z = absurd (false≢true e)

  -- tests that agree select the same
  same_from : {n : ℕ} → ((j : ℕ) → j < n → f j ≡ h j) → (i k : ℕ) → i + k ≤ n → select f g i k ≡ select h g i k
  unfolding select
  same_from on i zero l = refl
  same_from on i (suc k) l = rw (on i (omega arith), same_from on (suc i) k (omega arith))

both_are : (picked : List ℕ) (kinds : List Kind) → length (free_of picked kinds) + length (left_of picked kinds) ≡ fix_count picked
unfolding free_of left_of is_left
both_are picked kinds = both-from (is_free kinds) (is_left kinds) (point_of picked) (λ j. refl) 0 (fix_count picked)

module _ (picked : List ℕ) (kinds : List Kind) {owner : Owner} {k g : Held} {c : ℕ} (t : Tallied owner (free_of picked kinds) k g c) {n : ℕ} (en : n ≡ fix_count picked) where
  -- as many picks are left as are not taken
  pub left-fits : c ≤ n
  left-fits = let q = t.counted in omega (arith, both_are picked kinds)

  pub left_is : n - c ≡ length (left_of picked kinds)
  left_is = let q = t.counted in omega (arith, both_are picked kinds)

abbrev not_among : List OutPoint → List OutPoint → OutPoint → Bool
not_among cells spent p = not (is_held_or_spent cells spent p)

-- by kinds, and by the lists of cells
module _ (cells spent : List OutPoint) (picked : List ℕ) (kinds : List Kind) (k : Kinds (is_held_or_spent cells spent) (point_of picked) (min (fix_count picked) (length kinds)) kinds) (l : fix_count picked ≤ length kinds) where
  abbrev F : OutPoint → Bool
  F = not_among cells spent

  free_is : (j : ℕ) → j < fix_count picked → is_free kinds j ≡ is_first F (point_of picked) j
  unfolding is_free is_free_kind is_first kind_of
  free_is j b =
      ap is_free_kind (k.each j (omega arith))
      ∙ by (has (point_of picked j) (span (point_of picked) 0 j)) (is_held_or_spent cells spent (point_of picked j))
    where
      by : (b c : Bool) → is_free_kind (cond b Kind.Again (cond c Kind.Busy Kind.Free)) ≡ cond (not c) (not b) false
      by true true = refl
      by true false = refl
      by false true = refl
      by false false = refl

  left-is_other : (j : ℕ) → j < fix_count picked → is_left kinds j ≡ is_other F (point_of picked) j
  unfolding is_left
  left-is_other j b = ap not (free_is j b)

  free_firsts : free_of picked kinds ≡ firsts F [] (points picked)
  unfolding free_of
  free_firsts =
      same_from (is_free kinds) (is_first F (point_of picked)) (point_of picked) free_is 0 (fix_count picked) (omega arith)
      ∙ sym (firsts-select F (point_of picked) (fix_count picked))

  left-others : left_of picked kinds ≡ others F [] (points picked)
  unfolding left_of
  left-others =
      same_from (is_left kinds) (is_other F (point_of picked)) (point_of picked) left-is_other 0 (fix_count picked) (omega arith)
      ∙ sym (others-select F (point_of picked) (fix_count picked))

-- ---- whether both lists may be written

module _ {r : Bool} (x y z w : ℕ) (e : r ≡ leb x y && leb z w) (t : r ≡ true) where
  both_first : x ≤ y
  both_first = leb-true x y (and_both (leb x y) (leb z w) (sym e ∙ t)).0

  both_second : z ≤ w
  both_second = leb-true z w (and_both (leb x y) (leb z w) (sym e ∙ t)).1

pub both-room : {r : Bool} (x y n m : ℕ) → r ≡ leb x y && leb (4 + 36 * n) (min m 133116) → r ≡ true → 4 + 36 * n ≤ m
both-room x y n m e t = let l : 4 + 36 * n ≤ min m 133116 = both_second x y (4 + 36 * n) (min m 133116) e t in omega arith

-- ---- the calls

module _ (k : Held) (picked : List ℕ) (kinds : List Kind) (owner : Owner) (out₁ out₂ : List ℕ) (g : Held) {c : ℕ} (t : Tallied owner (free_of picked kinds) k g c) {n : ℕ} (en : n ≡ fix_count picked) where
  abbrev T : List OutPoint
  T = free_of picked kinds

  abbrev U : List OutPoint
  U = left_of picked kinds

  T-long : length T ≡ c
  T-long = sym t.counted

  U-long : length U ≡ n - c
  U-long = sym (left_is picked kinds t en)

  T-list : length (point_list T) ≡ 4 + 36 * c
  T-list = length_list T ∙ ap (λ (x : ℕ). 4 + 36 * x) T-long

  U-list : length (point_list U) ≡ 4 + 36 * (n - c)
  U-list = length_list U ∙ ap (λ (x : ℕ). 4 + 36 * x) U-long

  module _ {r : Bool} (er : r ≡ leb (4 + 36 * c) (min (length out₁) 133116) && leb (4 + 36 * (n - c)) (min (length out₂) 133116)) where
    pub take_short : r ≡ false → (told_by records_of (Err Refusal.BufferTooShort), out₁, out₂) ≡ after_take (take_these (records_of k) (free_of picked kinds) (left_of picked kinds) owner) out₁ out₂
    unfolding take_these has_room number values check check_with ◌>>◌ ◌>>=◌
    take_short f = by (has_room T out₁) (has_room U out₂) refl refl
      where
        by : (a b : Bool) → has_room T out₁ ≡ a → has_room U out₂ ≡ b → (refused 13 [], out₁, out₂) ≡ after_take (take_these (records_of k) T U owner) out₁ out₂
        by true true ea eb = absurd (false≢true (sym f ∙ er ∙ rw (← T-list, ← U-list, ea, eb)))
        by true false ea eb = rw (ea, eb)
        by false b ea eb = rw ea

    module _ (fit : r ≡ true) where
      room₁ : 4 + 36 * c ≤ min (length out₁) 133116
      room₁ = both_first (4 + 36 * c) (min (length out₁) 133116) (4 + 36 * (n - c)) (min (length out₂) 133116) er fit

      room₂ : 4 + 36 * (n - c) ≤ min (length out₂) 133116
      room₂ = both_second (4 + 36 * c) (min (length out₁) 133116) (4 + 36 * (n - c)) (min (length out₂) 133116) er fit

      abbrev last : Outcome Taken
      last = check 14 (leb (length (records_of k) + length T) 256) >> fine (record { records = records_of k ++ map (held_by owner) T; taken = T; rest = U })

      fits : take_these (records_of k) T U owner out₁ out₂ ≡ last
      unfolding take_these has_room check check_with ◌>>◌
      fits =
          let a = room₁ in
          let b = room₂ in
          rw (le-leb (length (point_list T)) (min (length out₁) 133116) (omega (arith, T-list)), le-leb (length (point_list U)) (min (length out₂) 133116) (omega (arith, U-list)))

      module _ {from : ℕ} (ef : from ≡ min k.count 256) where
        all_long : length (records_of k) + length T ≡ from + c
        all_long = let a = stands k t.whole in let b = T-long in omega arith

        pub take-full : 256 - from < c → (told_by records_of (Err Refusal.TooManyHolds), out₁, out₂) ≡ after_take (take_these (records_of k) (free_of picked kinds) (left_of picked kinds) owner) out₁ out₂
        unfolding number values check check_with ◌>>◌ ◌>>=◌
        take-full s = rw (fits, lt-leb (length (records_of k) + length T) 256 (omega (arith, all_long)))

        pub take_done : {b₁ b₂ : List ℕ} → c ≤ 256 - from → b₁ ≡ put_if (cells_of (drop from (records_of g))) out₁ → b₂ ≡ with_list (left_of picked kinds) out₂
            → (told_by records_of (Ok g), b₁, b₂) ≡ after_take (take_these (records_of k) (free_of picked kinds) (left_of picked kinds) owner) out₁ out₂
        unfolding check check_with ◌>>◌ ◌>>=◌
        take_done {b₁} {b₂} s e₁ e₂ =
            let v : records_of g ≡ records_of k ++ map (held_by owner) T = t.added (omega arith) in
            let v₁ : b₁ ≡ with_list T out₁ = e₁ ∙ ap (λ (q : List OutPoint). put_if q out₁) (taken-cells t ef s) ∙ put_yes T out₁ (room_yes T out₁ (sym T-long) room₁) in
            rw (v, v₁, e₂, fits, le-leb (length (records_of k) + length T) 256 (omega (arith, all_long)))

-- more picks than two lists hold
neither : (a b : Bool) (x : Outcome Taken) → (a ≡ true → b ≡ true → ⊥) → (check 13 a >> (check 13 b >> x)) ≡ refused 13 []
unfolding check check_with ◌>>◌
neither true true x h = absurd (h refl refl)
neither true false x h = refl
neither false b x h = refl

over : (l m : List OutPoint) (out₁ out₂ : List ℕ) → 7394 < length l + length m → has_room l out₁ ≡ true → has_room m out₂ ≡ true → ⊥
unfolding has_room
over l m out₁ out₂ h a b =
    let x : length (point_list l) ≤ min (length out₁) 133116 = leb-true (length (point_list l)) (min (length out₁) 133116) a in
    let y : length (point_list m) ≤ min (length out₂) 133116 = leb-true (length (point_list m)) (min (length out₂) 133116) b in
    omega (arith, length_list l, length_list m)

many : (k : Held) (picked spent : List ℕ) (owner : Owner) (out₁ out₂ : List ℕ) → 7394 < fix_count picked → take_free (records_of k) picked spent owner out₁ out₂ ≡ refused 13 []
unfolding take_free take_these
many k picked spent owner out₁ out₂ m =
    let f : OutPoint → Bool = λ p. not (is_busy (records_of k) (points spent) p) in
    let l : List OutPoint = firsts f [] (points picked) in
    let r : List OutPoint = others f [] (points picked) in
    let z : length l + length r ≡ fix_count picked =
    ap₂ (λ (x y : List OutPoint). length x + length y) (firsts-select f (point_of picked) (fix_count picked)) (others-select f (point_of picked) (fix_count picked))
    ∙ both-from (is_first f (point_of picked)) (is_other f (point_of picked)) (point_of picked) (λ j. refl) 0 (fix_count picked) in
    neither (has_room l out₁) (has_room r out₂) _ (over l r out₁ out₂ (omega arith))

pub take_many : (k : Held) (picked spent : List ℕ) (owner : Owner) (out₁ out₂ : List ℕ) {n : ℕ} → n ≡ fix_count picked → 7394 < n
    → (told_by records_of (Err Refusal.BufferTooShort), out₁, out₂) ≡ after_take (take_free (records_of k) picked spent owner) out₁ out₂
unfolding number values ◌>>=◌
take_many k picked spent owner out₁ out₂ {n} en m = rw (many k picked spent owner out₁ out₂ (omega arith))

-- what is taken by a list of cells is taken by the records that they are of
pub take_known : (k : Held) (cells picked spent : List ℕ) (kinds : List Kind) (owner : Owner) (out₁ out₂ : List ℕ) {z : ℕ} {x : Outcome (List Hold) × List ℕ × List ℕ}
    → (9220 ≤ z → points cells ≡ cells_of (records_of k)) → 9220 ≤ z → Kinds (is_held_or_spent (points cells) (points spent)) (point_of picked) (min (fix_count picked) (length kinds)) kinds
    → fix_count picked ≤ length kinds → x ≡ after_take (take_these (records_of k) (free_of picked kinds) (left_of picked kinds) owner) out₁ out₂
    → x ≡ after_take (take_free (records_of k) picked spent owner) out₁ out₂
unfolding take_free is_busy is_held_or_spent
take_known k cells picked spent kinds owner out₁ out₂ {z} {x} e l known room f =
    let c : points cells ≡ cells_of (records_of k) = e l in
    f
    ∙ ap₂ (λ (y w : List OutPoint). after_take (take_these (records_of k) y w owner) out₁ out₂)
    (free_firsts (points cells) (points spent) picked kinds known room ∙ ap (λ (y : List OutPoint). firsts (not_among y (points spent)) [] (points picked)) c)
    (left-others (points cells) (points spent) picked kinds known room ∙ ap (λ (y : List OutPoint). others (not_among y (points spent)) [] (points picked)) c)
