-- Picks: the code tests each by its index, the definitions by what came before.
use mathlib.Core.Path.{◌≡◌, refl, sym, ap, ◌∙◌}
use Prim.Native.Nat.{ℕ, suc, ◌+◌, ◌-◌, ◌*◌, ◌≤◌, ◌<◌, min}
use native.Mathlib.Nat.{zero-add}
use native.Mathlib.Omega.{arith}
use mathlib.Core.Bool.{Bool, true, false, not, cond}
use mathlib.Core.List.{List, [], ◌∷◌}
use denote.Enum.Bare.{sameb}
use Rattle.pick_kinds.specs.contracts.Kind.{the_type}
use lib.ListN.{length, get_or, set, take, length-set}
use Rattle.std.proofs.Common.{length-take-le}
use Rattle.std.proofs.lemmas.List.{get_or-take}
use Rattle.arithmetic.specs.LittleEndian.{to_le}
use Rattle.molecule.specs.Layout.{span, fix_count}
use Rattle.molecule.specs.Write.{put_at, put_end, Put}
use Rattle.out_points.specs.declared.{OutPoint.OutPoint}
use Rattle.out_points.specs.OutPoints.{has, point_of, points, point_bytes, points_bytes}
use Rattle.hold_records.specs.declared.{Held.Held}
use Rattle.hold_records.specs.Holds.{records_of, cells_of, is_busy, firsts}
use Rattle.pick_kinds.specs.declared.{Kind.Kind}
use Rattle.pick_kinds.specs.Kinds.{is_held_or_spent, kind_of, Kinds}
use Rattle.pick_kinds.proofs.KindLaws.{kind_put}
use Rattle.unavailable_picks.specs.Inner.{is_first, select, named}
use Rattle.out_points.specs.Tables.{has_room}
use Rattle.hold_records.specs.Inner.{put_if}
use Rattle.hold_records.proofs.WriteLaws.{Listing, list_start, list_more, list_end, list_long, room_no, room_yes, put_no, put_yes, list_put}
use Rattle.unavailable_picks.proofs.FirstLaws.{firsts-select}

module _ (cells spent : List OutPoint) (p : OutPoint) {a : Bool} (e : a ≡ has p cells) where
  pub busy_held : a ≡ true → true ≡ is_held_or_spent cells spent p
  unfolding is_held_or_spent
  busy_held t = rw (← e, t)

  pub busy_spent : {b : Bool} → a ≡ false → b ≡ has p spent → b ≡ is_held_or_spent cells spent p
  unfolding is_held_or_spent
  busy_spent t h = rw (← e, t) h

module _ (f : OutPoint → Bool) (g : ℕ → OutPoint) (i : ℕ) {p : OutPoint} (ep : p ≡ g i) where
  pub first_no : {a : Bool} → a ≡ f p → a ≡ false → a ≡ is_first f g i
  unfolding is_first
  first_no {a} ea t = rw (← ep, ← ea, t)

  pub first_yes : {a b : Bool} {m : ℕ} → a ≡ f p → i < m → a ≡ true → b ≡ has p (span g 0 (min i m)) → not b ≡ is_first f g i
  unfolding is_first
  first_yes {a} {b} {m} ea l t e = let k : min i m ≡ i = omega arith in rw (← ep, ← ea, t, e, k)

  module _ {b : Bool} {m : ℕ} (l : i < m) (eb : b ≡ has p (span g 0 (min i m))) where
    before-is : has (g i) (span g 0 i) ≡ b
    before-is = let k : min i m ≡ i = omega arith in sym (rw (ep, k) at eb)

    pub kind_repeat : b ≡ true → Kind.Again ≡ kind_of f g i
    unfolding kind_of
    kind_repeat t = rw (before-is, t)

    module _ (t : b ≡ false) {a : Bool} (ea : a ≡ f p) where
      pub kind_busy : a ≡ true → Kind.Busy ≡ kind_of f g i
      unfolding kind_of
      kind_busy u = rw (before-is, t, ← ep, ← ea, u)

      pub kind_free : a ≡ false → Kind.Free ≡ kind_of f g i
      unfolding kind_of
      kind_free u = rw (before-is, t, ← ep, ← ea, u)

-- ---- what was sorted out

-- `== Kind::Busy`
abbrev is-busy : Kind → Bool
is-busy k = sameb the_type k Kind.Busy

pub busy_is : {f : OutPoint → Bool} {g : ℕ → OutPoint} {kinds : List Kind} → Kinds f g (length kinds) kinds → (i : ℕ) → i < length kinds → is-busy (get_or kinds i Kind.Again) ≡ is_first f g i
unfolding is_first kind_of
busy_is {f} {g} k i l = ap is-busy (k.each i l) ∙ by (has (g i) (span g 0 i)) (f (g i))
  where
    by : (b c : Bool) → is-busy (cond b Kind.Again (cond c Kind.Busy Kind.Free)) ≡ cond c (not b) false
    by true true = refl
    by true false = refl
    by false true = refl
    by false false = refl

-- those that were sorted out
pub kinds_front : {f : OutPoint → Bool} {g : ℕ → OutPoint} {kinds : List Kind} {known : ℕ} → Kinds f g known kinds → Kinds f g (length (take known kinds)) (take known kinds)
kinds_front {kinds = kinds} {known = known} k =
    let z : length (take known kinds) ≡ known = length-take-le known kinds k.room in
    record { room = omega arith; each = λ i l. get_or-take known kinds i Kind.Again (omega arith) ∙ k.each i (omega arith) }

pub pick-below : {n m i : ℕ} → n ≡ m → i < n → i < m
pick-below e l = omega arith

-- ---- kinds, put one after the other

module _ (f : OutPoint → Bool) (g : ℕ → OutPoint) where
  kinds_fewer : {n j : ℕ} {m : List Kind} → j ≤ n → Kinds f g n m → Kinds f g j m
  kinds_fewer l k = let r = k.room in record { room = omega arith; each = λ i h. k.each i (omega arith) }

  pub record Filling (n i : ℕ) (m₀ m : List Kind) : Type 0 where
    pub long : length m ≡ length m₀
    pub kinds : Kinds f g i m

pub fill_start : {f : OutPoint → Bool} {g : ℕ → OutPoint} {m : List Kind} {known : ℕ} (n : ℕ) → Kinds f g known m → Filling f g n known m m
fill_start n k = record { long = refl; kinds = k }

module _ {f : OutPoint → Bool} {g : ℕ → OutPoint} {n i : ℕ} {m₀ m : List Kind} (k : Filling f g n i m₀ m) where
  pub fill_long : length m ≡ length m₀
  fill_long = k.long

  pub fill_more : {v : Kind} → i < length m → v ≡ kind_of f g i → Filling f g n (i + 1) m₀ (set m i v)
  fill_more {v} l e = record { long = length-set m i v ∙ k.long; kinds = kind_put f g l e k.kinds }

  pub fill_end : (c : ℕ) → n ≡ min (length m₀) c → n ≤ i → Kinds f g (min c (length m)) m
  fill_end c e l = let z = k.long in kinds_fewer f g (omega arith) k.kinds

-- ---- what `select` picks out

module _ (f : ℕ → Bool) (g : ℕ → OutPoint) where
  pub select_yes : (i n : ℕ) → i < n → f i ≡ true → select f g i (n - i) ≡ g i ∷ select f g (i + 1) (n - (i + 1))
  unfolding select
  select_yes i n h t =
      let e : n - i ≡ suc (n - (i + 1)) = omega arith in
      let z : suc i ≡ i + 1 = omega arith in
      ap (select f g i) e ∙ rw (t, z)

  pub select_no : (i n : ℕ) → i < n → f i ≡ false → select f g i (n - i) ≡ select f g (i + 1) (n - (i + 1))
  unfolding select
  select_no i n h t =
      let e : n - i ≡ suc (n - (i + 1)) = omega arith in
      let z : suc i ≡ i + 1 = omega arith in
      ap (select f g i) e ∙ rw (t, z)

  pub select-end : (i n : ℕ) → n ≤ i → select f g i (n - i) ≡ []
  unfolding select
  select-end i n h = let e : n - i ≡ 0 = omega arith in ap (select f g i) e

  pub select-whole : (n : ℕ) → select f g 0 n ≡ select f g 0 (n - 0)
  select-whole n = let e : n ≡ n - 0 = omega arith in ap (select f g 0) e

-- ---- counted

pub record Counting (f : ℕ → Bool) (g : ℕ → OutPoint) (n i count R : ℕ) : Type 0 where
  pub within : i ≤ n
  pub below : count ≤ i
  pub rest : R ≡ count + length (select f g i (n - i))

pub count-start : (f : ℕ → Bool) (g : ℕ → OutPoint) {n m : ℕ} → n ≡ m → Counting f g n 0 0 (length (select f g 0 m))
count-start f g {n} e = record { within = omega arith; below = omega arith; rest = rw (← e) (ap length (select-whole f g n) ∙ sym (zero-add (length (select f g 0 (n - 0))))) }

module _ {f : ℕ → Bool} {g : ℕ → OutPoint} {n i count R : ℕ} (k : Counting f g n i count R) where
  pub count_yes : {b : Bool} → i < n → b ≡ f i → b ≡ true → Counting f g n (i + 1) (count + 1) R
  count_yes l e t = let b = k.below in record { within = omega arith; below = omega arith; rest = omega (arith, k.rest, ap length (select_yes f g i n l (sym e ∙ t))) }

  pub count_no : {b : Bool} → i < n → b ≡ f i → b ≡ false → Counting f g n (i + 1) count R
  count_no l e t = let b = k.below in record { within = omega arith; below = omega arith; rest = omega (arith, k.rest, ap length (select_no f g i n l (sym e ∙ t))) }

  pub count-end : n ≤ i → count ≡ R
  count-end l = omega (arith, k.rest, ap length (select-end f g i n l))

-- ---- put, one after the other

pub record Naming (f : ℕ → Bool) (g : ℕ → OutPoint) (all : List OutPoint) (n i : ℕ) (out₀ : List ℕ) (at₀ : ℕ) (out : List ℕ) (at : ℕ) : Type 0 where
  pub listing : Listing all (select f g i (n - i)) out₀ at₀ out at

pub relist : {x y all : List OutPoint} {o₀ o : List ℕ} {a₀ a : ℕ} → x ≡ y → Listing all x o₀ a₀ o a → Listing all y o₀ a₀ o a
relist e l = rw e at l

pub name-start : (f : ℕ → Bool) (g : ℕ → OutPoint) {n m : ℕ} {all : List OutPoint} (out : List ℕ) (at : ℕ) → n ≡ m → all ≡ select f g 0 m → at + 36 * length all ≤ length out
    → Naming f g all n 0 out at out at
name-start f g {n} {m} {all} out at en e room =
    let q : all ≡ select f g 0 (n - 0) = e ∙ ap (select f g 0) (sym en) ∙ select-whole f g n in
    record { listing = relist q (list_start all out at room) }

module _ {f : ℕ → Bool} {g : ℕ → OutPoint} {all : List OutPoint} {n i : ℕ} {out₀ : List ℕ} {at₀ : ℕ} {out : List ℕ} {at : ℕ} (k : Naming f g all n i out₀ at₀ out at) where
  pub name_yes : {b : Bool} {p : OutPoint} {o : List ℕ} {a : ℕ} → i < n → b ≡ f i → b ≡ true → p ≡ g i → o ≡ put_at out at (point_bytes p) → a ≡ put_end out at (point_bytes p) → Naming f g all n (i + 1) out₀ at₀ o a
  name_yes l e t ep eo ea = record { listing = list_more (g i) (rw (select_yes f g i n l (sym e ∙ t)) at k.listing) (rw ep at eo) (rw ep at ea) }

  pub name_no : {b : Bool} → i < n → b ≡ f i → b ≡ false → Naming f g all n (i + 1) out₀ at₀ out at
  name_no l e t = record { listing = rw (select_no f g i n l (sym e ∙ t)) at k.listing }

  pub name-end : n ≤ i → Put out₀ at₀ (points_bytes all) out at
  name-end l = list_end (rw (select-end f g i n l) at k.listing)

  pub name-long : length out ≡ length out₀
  name-long = list_long k.listing

-- ---- the list of the busy picks

module _ (cells picked spent : List ℕ) where
  abbrev F : ℕ → Bool
  F = is_first (is_held_or_spent (points cells) (points spent)) (point_of picked)

  named-is : named cells picked spent ≡ select F (point_of picked) 0 (fix_count picked)
  unfolding named
  named-is = firsts-select (is_held_or_spent (points cells) (points spent)) (point_of picked) (fix_count picked)

  pub busy_start : {n : ℕ} → n ≡ fix_count picked → Counting F (point_of picked) n 0 0 (length (named cells picked spent))
  busy_start e = rw named-is (count-start F (point_of picked) e)

  pub put_start : {n : ℕ} (out : List ℕ) (at : ℕ) → n ≡ fix_count picked → at + 36 * length (named cells picked spent) ≤ length out
      → Naming F (point_of picked) (named cells picked spent) n 0 out at out at
  put_start out at e = name-start F (point_of picked) out at e named-is

module _ (l : List OutPoint) (out : List ℕ) {n : ℕ} (en : n ≡ length l) where
  pub named-kept : min (length out) 133116 < 4 + 36 * n → out ≡ put_if l out
  named-kept s = put_no l out (room_no l out en s)

  pub named-written : {o₁ o₂ : List ℕ} {at c : ℕ} → 4 + 36 * n ≤ min (length out) 133116 → o₁ ≡ put_at out 0 (to_le 4 n) → at ≡ put_end out 0 (to_le 4 n)
      → Put o₁ at (points_bytes l) o₂ c → o₂ ≡ put_if l out
  named-written room e f p = list_put l out en (omega arith) e f p ∙ sym (put_yes l out (room_yes l out en room))

-- ---- put_unavailable

module _ (h : Held) (cells picked spent out : List ℕ) {z : ℕ} (e : 9220 ≤ z → points cells ≡ cells_of (records_of h)) (l : 9220 ≤ z) where
  named-held : named cells picked spent ≡ firsts (is_busy (records_of h) (points spent)) [] (points picked)
  unfolding named is_held_or_spent is_busy
  named-held = ap (λ (y : List OutPoint). firsts (is_held_or_spent y (points spent)) [] (points picked)) (e l)

  pub held-room : {b : Bool} → b ≡ has_room (named cells picked spent) out → b ≡ has_room (firsts (is_busy (records_of h) (points spent)) [] (points picked)) out
  held-room f = f ∙ ap (λ (y : List OutPoint). has_room y out) named-held

  pub held_put : {o : List ℕ} → o ≡ put_if (named cells picked spent) out → o ≡ put_if (firsts (is_busy (records_of h) (points spent)) [] (points picked)) out
  held_put f = f ∙ ap (λ (y : List OutPoint). put_if y out) named-held
