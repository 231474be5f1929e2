-- The first pick that is an out point, by the index of the picks' bytes.
use mathlib.Core.Path.{◌≡◌, refl, sym, ap, ap₂, ◌∙◌}
use Prim.Native.Nat.{ℕ, zero, suc, ◌+◌, ◌*◌, ◌≤◌, ◌<◌}
use mathlib.Core.Bool.{Bool, true, false, cond, false≢true}
use mathlib.Core.List.{List, []}
use native.Mathlib.Nat.{zero-add}
use native.Mathlib.Omega.{arith}
use borrow.Author.Tests.{eqb-true, eqb-false, ne_eqb}
use lib.Dec.{eqb}
use lib.ListN.{length, drop, take, length-drop}
use Rattle.std.proofs.Math.Logic.{∥∥₁_elim}
use Rattle.std.proofs.Props.{props}
use Rattle.std.specs.Option.{option_eq}
use Rattle.std.specs.Prelude.{nat_eq, Option, Some, None, unwrap_or}
use Rattle.std.specs.List.{position}
use Rattle.std.proofs.lemmas.List.Quantifiers.{position-Some}
use lib.Seq.{length-take-le}
use Rattle.molecule.specs.Layout.{span, fix_count, fix_item}
use Rattle.lists.specs.Lists.{eq_bytes}
use Rattle.lists.proofs.EqualLaws.{not_so, eq_refl, eq_true}
use Rattle.lists.proofs.RunLaws.{item_run}
use Rattle.out_points.specs.declared.{OutPoint.OutPoint}
use Rattle.out_points.specs.OutPoints.{eq_point, out_point_at, point_of, point_bytes}
use Rattle.out_points.proofs.EqualLaws.{point-same, point_refl}
use Rattle.out_points.proofs.AgainLaws.{point_again, item-bytes}
use Rattle.molecule.proofs.LayoutLaws.{fix_count_said}
use Rattle.molecule.proofs.Offsets.{span-length}
use Rattle.item_index.specs.Index.{key_of, place_in, Index}
use Rattle.item_index.proofs.FindLaws.{index_front, place_of_position}
use Rattle.pick_kinds.specs.Indexed.{Whole, AllWhole, Places, First}

-- ---- lists that have their items whole

-- an item of such a list is the bytes of its out point
item-whole : {s : List ℕ} → Whole s → (i : ℕ) → i < fix_count s → point_bytes (point_of s i) ≡ fix_item s 36 i
unfolding point_of
item-whole {s} w i h =
    let l = w.long in
    let n : length (fix_item s 36 i) ≡ 36 = ap length (item_run s 36 i (omega (arith, fix_count_said s))) ∙ length-take-le 36 (drop (4 + 36 * i) s) (rw (length-drop (4 + 36 * i) s) (omega arith)) in
    point_again (fix_item s 36 i) (item-bytes s 36 i w.bytes) n

pub same_bytes : {s t : List ℕ} → Whole s → Whole t → (i j : ℕ) → i < fix_count s → j < fix_count t → eq_bytes (fix_item s 36 i) (fix_item t 36 j) ≡ eq_point (point_of s i) (point_of t j)
unfolding point_of
same_bytes {s} {t} a b i j p q = by (eq_point (point_of s i) (point_of t j)) refl
  where
    points-same : eq_bytes (fix_item s 36 i) (fix_item t 36 j) ≡ true → eq_point (point_of s i) (point_of t j) ≡ true
    points-same h = ap (λ (x : List ℕ). eq_point (out_point_at x 0) (point_of t j)) (eq_true (fix_item s 36 i) (fix_item t 36 j) h) ∙ point_refl (point_of t j)

    by : (c : Bool) → eq_point (point_of s i) (point_of t j) ≡ c → eq_bytes (fix_item s 36 i) (fix_item t 36 j) ≡ c
    by true e =
        ap₂ eq_bytes (sym (item-whole a i p)) (sym (item-whole b j q))
        ∙ ap (λ (x : OutPoint). eq_bytes (point_bytes x) (point_bytes (point_of t j))) (point-same (point_of s i) (point_of t j) e)
        ∙ eq_refl (point_bytes (point_of t j))
    by false e = not_so (eq_bytes (fix_item s 36 i) (fix_item t 36 j)) (λ h. false≢true (sym e ∙ points-same h))

-- ---- the first place

place-before : (x : List ℕ) (f : ℕ → List ℕ) (j k i : ℕ) → i < place_in x (span f j k) → eq_bytes x (f (j + i)) ≡ false
unfolding place_in span
place-before x f j zero i h = absurd (omega arith)
place-before x f j (suc k) i h = by (eq_bytes x (f j)) refl h (λ n l. place-before x f (suc j) k n l)
  where
    later : (n : ℕ) → eq_bytes x (f j) ≡ false → n < suc (place_in x (span f (suc j) k)) → ((n : ℕ) → n < place_in x (span f (suc j) k) → eq_bytes x (f (suc j + n)) ≡ false) → eq_bytes x (f (j + n)) ≡ false
    later zero e l on = let z : j + 0 ≡ j = omega arith in rw z e
    later (suc n) e l on = let z : j + suc n ≡ suc j + n = omega arith in rw z (on n (omega arith))

    by : (b : Bool) → eq_bytes x (f j) ≡ b → i < cond b 0 (suc (place_in x (span f (suc j) k))) → ((n : ℕ) → n < place_in x (span f (suc j) k) → eq_bytes x (f (suc j + n)) ≡ false) → eq_bytes x (f (j + i)) ≡ false
    by true e l on = absurd (omega arith)
    by false e l on = later i e l on

place_is : (x : List ℕ) (f : ℕ → List ℕ) (j k : ℕ) → place_in x (span f j k) < k → eq_bytes x (f (j + place_in x (span f j k))) ≡ true
unfolding place_in span
place_is x f j zero h = absurd (omega arith)
place_is x f j (suc k) h = by (eq_bytes x (f j)) refl h (λ l. place_is x f (suc j) k l)
  where
    by : (b : Bool) → eq_bytes x (f j) ≡ b → cond b 0 (suc (place_in x (span f (suc j) k))) < suc k → (place_in x (span f (suc j) k) < k → eq_bytes x (f (suc j + place_in x (span f (suc j) k))) ≡ true) → eq_bytes x (f (j + cond b 0 (suc (place_in x (span f (suc j) k))))) ≡ true
    by true e l on = let z : j + 0 ≡ j = omega arith in rw z e
    by false e l on = let z : j + suc (place_in x (span f (suc j) k)) ≡ suc j + place_in x (span f (suc j) k) = omega arith in rw z (on (omega arith))

place_most : (x : List ℕ) (f : ℕ → List ℕ) (j k : ℕ) → place_in x (span f j k) ≤ k
unfolding place_in span
place_most x f j zero = omega arith
place_most x f j (suc k) = by (eq_bytes x (f j)) (place_most x f (suc j) k)
  where
    by : (b : Bool) → place_in x (span f (suc j) k) ≤ k → cond b 0 (suc (place_in x (span f (suc j) k))) ≤ suc k
    by true l = omega arith
    by false l = omega arith

-- ---- the ways out

option_at : (r : Option ℕ) (n i : ℕ) → i < n → option_eq nat_eq r (Some i) ≡ eqb (unwrap_or r n) i
option_at (Some a) n i l = refl
option_at None n i l = sym (ne_eqb n i (λ e. omega arith))

module _ {cells picked spent s : List ℕ} (o : Places cells picked spent s) where
  pub places_whole : Whole picked
  places_whole = o.whole.picks

  pub places_held : Whole cells
  places_held = o.whole.held

  pub places_gone : Whole spent
  places_gone = o.whole.gone

  pub places_below : {i : ℕ} → i < length s → i < fix_count picked
  places_below l = let m = o.some in omega arith

  pub first-is : (list : List ℕ) (k : ℕ) {x : List ℕ} {r : Option ℕ} → Whole list → k < fix_count list → x ≡ fix_item list 36 k
      → (Index (key_of picked 36 0) (length s) s → r ≡ position (eq_bytes x) (span (key_of picked 36 0) 0 (length s))) → First (point_of picked) (length s) (point_of list k) r
  unfolding key_of
  first-is list k {x} {r} w h e f = record { inside = inside; first = record { before = before; there = there } }
    where
      n : ℕ
      n = length s

      g : ℕ → List ℕ
      g = fix_item picked 36

      y : List ℕ
      y = fix_item list 36 k

      found : r ≡ position (eq_bytes y) (span g 0 n)
      found = ∥∥₁_elim o.index (Prim.hlevel props) (λ i. f i ∙ ap (λ (z : List ℕ). position (eq_bytes z) (span g 0 n)) e)

      inside : (at : ℕ) → r ≡ Some at → at < n
      inside at q = let b = (position-Some (eq_bytes y) (span g 0 n) at [] (sym found ∙ q)).0 in omega (arith, span-length g 0 n)

      at : ℕ
      at = unwrap_or r n

      place : at ≡ place_in y (span g 0 n)
      place = ap (λ (t : Option ℕ). unwrap_or t n) found ∙ place_of_position y (span g 0 n) n (span-length g 0 n)

      most : at ≤ n
      most = let l = place_most y g 0 n in let p = place in omega arith

      before : (i : ℕ) → i < at → eq_point (point_of list k) (point_of picked i) ≡ false
      before i l =
          let m = o.some in
          let p = place in
          let q = most in
          let r : i < place_in y (span g 0 n) = omega arith in
          sym (same_bytes w o.whole.picks k i h (omega arith))
          ∙ ap (λ (v : ℕ). eq_bytes y (g v)) (sym (zero-add i))
          ∙ place-before y g 0 n i r

      there : at < n → eq_point (point_of list k) (point_of picked at) ≡ true
      there l =
          let m = o.some in
          let p = place in
          let r : place_in y (span g 0 n) < n = omega arith in
          let z : at ≡ 0 + place_in y (span g 0 n) = omega arith in
          sym (same_bytes w o.whole.picks k at h (omega arith))
          ∙ ap (λ (v : ℕ). eq_bytes y (g v)) z
          ∙ place_is y g 0 n r

module _ {g : ℕ → OutPoint} {n : ℕ} {q : OutPoint} where
  pub first_in : {at : ℕ} → First g n q (Some at) → at < n
  first_in {at} w = w.inside at refl

  pub first-yes : {r : Option ℕ} {i : ℕ} {b : Bool} → First g n q r → i < n → b ≡ option_eq nat_eq r (Some i) → b ≡ true → unwrap_or r n ≡ i
  first-yes {r} {i} w l e t = eqb-true (unwrap_or r n) i (sym (option_at r n i l) ∙ sym e ∙ t)

  pub first-no : {r : Option ℕ} {i : ℕ} {b : Bool} → First g n q r → i < n → b ≡ option_eq nat_eq r (Some i) → b ≡ false → (unwrap_or r n ≡ i → ⊥)
  first-no {r} {i} w l e t = eqb-false (unwrap_or r n) i (sym (option_at r n i l) ∙ sym e ∙ t)

pub places_are : (cells picked spent s : List ℕ) (n a b : ℕ) → AllWhole cells picked spent → n ≤ fix_count picked
    → (n ≤ a → n ≤ b → Index (key_of picked 36 0) n s) → n ≤ a → n ≤ b → Places cells picked spent (take n s)
places_are cells picked spent s n a b w m f p q =
    let o = f p q in
    let z : length (take n s) ≡ n = length-take-le n s o.room in
    record { whole = w; some = omega arith; index = ∣ index_front o ∣₁ }

pub whole-all : {cells picked spent : List ℕ} → Whole cells → Whole picked → Whole spent → AllWhole cells picked spent
whole-all a b c = record { held = a; picks = b; gone = c }
