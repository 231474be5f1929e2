-- A whole table: what its bytes are, from each of its entries on, and what bytes that were written mean.
use mathlib.Core.Path.{◌≡◌, refl, sym, ap, ap₂, ◌∙◌}
use Prim.Native.Nat.{ℕ, zero, suc, ◌+◌, ◌-◌, ◌*◌, ◌^◌, ◌≤◌, ◌<◌}
use mathlib.Core.Bool.{Bool, true, false, cond}
use mathlib.Core.List.{List, [], ◌++◌, append_assoc}
use native.Mathlib.Omega.{arith}
use borrow.Author.Tests.{eqb-true, leb-true, eq-eqb, le-leb}
use lib.Dec.{eqb, leb}
use lib.ListN.{length, take, drop, replicate, length-append, length-drop, length-replicate}
use lib.Seq.{drop-drop, take_at, take-add}
use Rattle.arithmetic.specs.LittleEndian.{le, to_le, AllBytes, num_at, u32_at}
use Rattle.arithmetic.proofs.LittleEndianLaws.{length-to_le, num_some}
use Rattle.molecule.specs.Partial.{All}
use Rattle.molecule.specs.Write.{splice, put_at}
use Rattle.molecule.proofs.WriteLaws.{put_yes, splice_zero}
use Rattle.molecule.proofs.ItemsLaws.{bytes_drop}
use Rattle.out_points.proofs.AgainLaws.{word_again, word_back, behind}
use Rattle.exclusion_entries.specs.Exclusions.{MapEntry, excluded}
use Rattle.exclusion_entries.specs.Entries.{entry_bytes, entries_bytes, map_bytes, FitEntry, map_entry_of, entry_size, entries_in, excluded_at, are_entries, map_size, is_map}
use Rattle.exclusion_entries.proofs.EntryLaws.{length-entry, points-count, entries-long, entries_fit, entries-back, entries_are, first-room, rest_are, entries_again, entries-size, points_most}
use Rattle.molecule.proofs.SpliceLaws.{splice-same}

-- ---- what the form says

module _ (s : List ℕ) (g : is_map s ≡ true) where
  form : (length s ≡ map_size) × (u32_at s 0 ≤ 64) × (are_entries (u32_at s 0) 512 (drop 4 s) ≡ true)
  unfolding is_map
  form = by (eqb (length s) map_size) (leb (u32_at s 0) 64) refl refl g
    where
      by : (a b : Bool) → eqb (length s) map_size ≡ a → leb (u32_at s 0) 64 ≡ b → cond a (cond b (are_entries (u32_at s 0) 512 (drop 4 s)) false) false ≡ true
          → (length s ≡ map_size) × (u32_at s 0 ≤ 64) × (are_entries (u32_at s 0) 512 (drop 4 s) ≡ true)
      by true true e f h = (eqb-true _ _ e, leb-true _ _ f, h)
      by true false e f h = absurd (let z : ◌≡◌ {A = ℕ} 0 1 = cc in omega arith)
      by false b e f h = absurd (let z : ◌≡◌ {A = ℕ} 0 1 = cc in omega arith)

  pub map-long : length s ≡ map_size
  map-long = form.0

  pub map-few : u32_at s 0 ≤ 64
  map-few = form.1

  pub map_are : are_entries (u32_at s 0) 512 (drop 4 s) ≡ true
  map_are = form.2

  map-room : 48 * u32_at s 0 + 36 * 512 ≤ length (drop 4 s)
  map-room = rw (length-drop 4 s) (omega (arith, map-long, map-few))

  pub map-count : length (excluded_at s) ≡ u32_at s 0
  unfolding excluded_at
  map-count = entries-long (u32_at s 0) (drop 4 s)

  pub map-points : length (excluded (excluded_at s)) ≤ 512
  unfolding excluded_at
  map-points = points_most (u32_at s 0) 512 (drop 4 s) map_are map-room

  module _ (b : AllBytes s) where
    pub map_again : drop 4 s ≡ entries_bytes (excluded_at s) ++ drop (length (entries_bytes (excluded_at s))) (drop 4 s)
    unfolding excluded_at
    map_again = entries_again (u32_at s 0) 512 (drop 4 s) (bytes_drop 4 s b) map_are map-room

    -- a table, written again
    pub map_same : splice s 0 (map_bytes (excluded_at s)) ≡ s
    unfolding map_bytes
    map_same =
        let B = entries_bytes (excluded_at s) in
        let C = to_le 4 (length (excluded_at s)) in
        let h : take 4 s ≡ C = sym (ap (to_le 4) map-count ∙ word_again 4 s 0 b (omega (arith, map-long))) in
        let t : take (length B) (drop 4 s) ≡ B = ap (take (length B)) map_again ∙ take_at B (drop (length B) (drop 4 s)) (length B) refl in
        let n : length (C ++ B) ≡ 4 + length B = length-append C B ∙ ap (λ (k : ℕ). k + length B) (length-to_le 4 (length (excluded_at s))) in
        splice-same s 0 (C ++ B) (ap (λ (k : ℕ). take k s) n ∙ take-add 4 (length B) s ∙ ap₂ (λ (x y : List ℕ). x ++ y) h t)

-- ---- from entry k on

pub record Cut (n m : ℕ) (x : List ℕ) (k : ℕ) : Type 0 where
  pub left : ℕ
  pub size : ℕ
  pub sized : size ≡ length (entries_bytes (take k (entries_in n x)))
  pub within : size + 48 * (n - k) + 36 * left ≤ 48 * n + 36 * m
  pub reads : are_entries (n - k) left (drop size x) ≡ true
  pub rest : entries_in (n - k) (drop size x) ≡ drop k (entries_in n x)

pub cut : (k n m : ℕ) (x : List ℕ) → k ≤ n → are_entries n m x ≡ true → 48 * n + 36 * m ≤ length x → Cut n m x k
unfolding entries_in entries_bytes
cut zero n m x h a r =
    let z : n - 0 ≡ n = omega arith in
    record { left = m; size = 0; sized = refl; within = omega arith; reads = rw z a; rest = rw z }
cut (suc k) zero m x h a r = absurd (omega arith)
cut (suc k) (suc n) m x h a r =
    let c = first-room n m x a in
    let y = drop (entry_size x) x in
    let w : Cut n (m - u32_at x 44) y k = cut k n (m - u32_at x 44) y (omega arith) (rest_are n m x a) (rw (length-drop (entry_size x) x) (omega arith)) in
    let d : drop w.size y ≡ drop (entry_size x + w.size) x = drop-drop w.size (entry_size x) x in
    let z : suc n - suc k ≡ n - k = omega arith in
    let l : length (entry_bytes (map_entry_of x)) ≡ entry_size x = length-entry (map_entry_of x) ∙ ap (λ (i : ℕ). 48 + 36 * i) (points-count x (omega arith)) in
    let i = w.within in
    record {
      left = w.left;
      size = entry_size x + w.size;
      sized = omega (arith, w.sized, length-append (entry_bytes (map_entry_of x)) (entries_bytes (take k (entries_in n y))));
      within = omega arith;
      reads = rw (z, ← d) w.reads;
      rest = rw (z, ← d) w.rest;
    }

-- ---- what was written is read

pub map-fits : (s : List ℕ) → AllBytes s → All FitEntry (excluded_at s)
unfolding excluded_at
map-fits s b = entries_fit (u32_at s 0) (drop 4 s) (bytes_drop 4 s b)

pub map-size : (l : List MapEntry) → length (map_bytes l) ≡ 4 + 48 * length l + 36 * length (excluded l)
unfolding map_bytes
map-size l = omega (arith, length-append (to_le 4 (length l)) (entries_bytes l), length-to_le 4 (length l), entries-size l)

module _ (l : List MapEntry) (z : List ℕ) where
  count-back : length l < 2 ^ 32 → u32_at (map_bytes l ++ z) 0 ≡ length l
  unfolding map_bytes
  count-back h = ap (λ (x : List ℕ). u32_at x 0) (append_assoc (to_le 4 (length l)) (entries_bytes l) z) ∙ word_back 4 (length l) [] (entries_bytes l ++ z) 0 refl h

  rest_back : drop 4 (map_bytes l ++ z) ≡ entries_bytes l ++ z
  unfolding map_bytes
  rest_back = ap (drop 4) (append_assoc (to_le 4 (length l)) (entries_bytes l) z) ∙ behind (to_le 4 (length l)) (entries_bytes l ++ z) 4 (length-to_le 4 (length l))

  pub map_back : length l < 2 ^ 32 → All FitEntry l → excluded_at (map_bytes l ++ z) ≡ l
  unfolding excluded_at
  map_back h f = ap₂ entries_in (count-back h) rest_back ∙ entries-back l z f

  map_is : length l ≤ 64 → length (excluded l) ≤ 512 → length (map_bytes l ++ z) ≡ map_size → is_map (map_bytes l ++ z) ≡ true
  unfolding is_map
  map_is h k n =
      rw (eq-eqb (length (map_bytes l ++ z)) map_size n, count-back (omega arith), le-leb (length l) 64 h, rest_back) (entries_are l 512 z k (omega arith))

-- a table of at most so many entries and out points, put where one was
pub put_is : (s : List ℕ) (l : List MapEntry) → is_map s ≡ true → length l ≤ 64 → length (excluded l) ≤ 512 → is_map (put_at s 0 (map_bytes l)) ≡ true
put_is s l g h k =
    let n = map-size l in
    let x = map_bytes l ++ drop (length (map_bytes l)) s in
    let e : put_at s 0 (map_bytes l) ≡ x = put_yes s 0 (map_bytes l) (omega (arith, map-long s g)) ∙ splice_zero s (map_bytes l) in
    let d = length-append (map_bytes l) (drop (length (map_bytes l)) s) in
    ap is_map e ∙ map_is l (drop (length (map_bytes l)) s) h k (omega (arith, length-drop (length (map_bytes l)) s, map-long s g))

pub splice-back : (s : List ℕ) (l : List MapEntry) {o : List ℕ} → length l < 2 ^ 32 → All FitEntry l → o ≡ splice s 0 (map_bytes l) → excluded_at o ≡ l
splice-back s l h f e = ap excluded_at (e ∙ splice_zero s (map_bytes l)) ∙ map_back l (drop (length (map_bytes l)) s) h f

-- all zeros are the empty table
pub map-zeros : excluded_at (replicate map_size 0) ≡ []
unfolding excluded_at entries_in num_at le
map-zeros = ap (λ (n : ℕ). entries_in n (drop 4 (replicate map_size 0))) (num_some 4 (replicate map_size 0) 0 (omega arith))

pub zeros_are : is_map (replicate map_size 0) ≡ true
unfolding is_map are_entries num_at le
zeros_are =
    let z : List ℕ = replicate map_size 0 in
    let l : length z ≡ map_size = length-replicate {A = ℕ} map_size 0 in
    let c : u32_at z 0 ≡ 0 = num_some 4 z 0 (omega arith) in
    rw (eq-eqb (length z) map_size l) (ap (λ (n : ℕ). cond (leb n 64) (are_entries n 512 (drop 4 z)) false) c)
