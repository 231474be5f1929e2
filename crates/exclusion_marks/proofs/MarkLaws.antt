-- The pass that gives entries their block.
use mathlib.Core.Path.{◌≡◌, refl, sym, ap, ap₂, ◌∙◌}
use Prim.Native.Nat.{ℕ, suc, ◌+◌, ◌-◌, ◌*◌, ◌^◌, ◌≤◌, ◌<◌}
use mathlib.Core.Bool.{Bool, true, false, not, cond}
use mathlib.Core.List.{List, [], ◌∷◌, ◌++◌, map, append_assoc}
use mathlib.Core.Option.{Option, some}
use native.Mathlib.Omega.{arith}
use borrow.Author.Tests.{not-true, not-false}
use lib.ListN.{length, take, drop, length-append, length-map, length-drop, take-append-drop}
use lib.Seq.{take_at, drop_at, drop-drop}
use Rattle.arithmetic.specs.LittleEndian.{to_le, AllBytes, u32_at}
use Rattle.arithmetic.proofs.LittleEndianLaws.{length-to_le}
use Rattle.units.specs.declared.{BlockNumber.BlockNumber}
use Rattle.molecule.specs.Layout.{part, word}
use Rattle.molecule.specs.Partial.{All}
use Rattle.molecule.specs.Write.{splice, put_at, put_end}
use Rattle.molecule.proofs.WriteLaws.{did, and_put, put_yes, splice-length}
use Rattle.out_points.specs.declared.{Byte32.Byte32}
use Rattle.out_points.specs.OutPoints.{eq_hash, hash_bytes, point_list}
use Rattle.out_points.proofs.PointLaws.{length-hash}
use Rattle.out_points.proofs.EqualLaws.{hash-same}
use Rattle.molecule.proofs.ItemsLaws.{bytes_drop}
use Rattle.out_points.proofs.AgainLaws.{word_again}
use Rattle.exclusion_entries.specs.Exclusions.{MapEntry, has_hash, committed_at}
use Rattle.exclusion_entries.specs.Entries.{state_kind, block_of, state_bytes, entry_bytes, entries_bytes, map_bytes, FitEntry, map_entry_of, entry_size, entries_in, excluded_at, are_entries, map_size, is_map}
use Rattle.exclusion_entries.proofs.EntryLaws.{from-here, entry_again, points-count, length-entry, first-is, first-room, rest_are, entries-long, entries-size, points_most}
use Rattle.exclusion_entries.proofs.MapLaws.{map-long, map-few, map_are, map-count, map-points, map-fits, splice-back}
use Rattle.molecule.proofs.SpliceLaws.{splice-none, drop-splice, splice-same, splice-then}
use Rattle.exclusion_marks.specs.Inner.{commit_one_bytes}

-- ---- one entry

module _ (s : List ℕ) (at : ℕ) (hash : Byte32) (block : BlockNumber) {x : List ℕ} {b : Bool} {n z : ℕ} (ex : x ≡ part s at (length s)) (eb : b ≡ has_hash hash (map_entry_of x)) (en : n ≡ u32_at x 44) (ez : z ≡ 48 + 36 * n) where
  here : x ≡ drop at s
  here = from-here s at ex

  pub mark_next : at + z ≡ at + entry_size (drop at s)
  mark_next = rw (ez, ← here, ← en)

  pub mark_other : not b ≡ true → s ≡ commit_one_bytes hash block at s
  unfolding commit_one_bytes
  mark_other h = rw (← here, ← eb, not-true b h)

  pub mark_room : at + entry_size (drop at s) ≤ length s → at + z ≤ length s
  mark_room h = let e = mark_next in omega arith

  pub mark_put : {o₁ o₂ : List ℕ} {n₁ : ℕ} → not b ≡ false → at + entry_size (drop at s) ≤ length s → o₁ ≡ put_at s (at + 32) (to_le 4 1) → n₁ ≡ put_end s (at + 32) (to_le 4 1) → o₂ ≡ put_at o₁ n₁ (to_le 8 block.0)
      → o₂ ≡ commit_one_bytes hash block at s
  unfolding commit_one_bytes state_bytes state_kind block_of
  mark_put {o₁} {o₂} {n₁} h r e₁ f₁ e₂ =
      let e = mark_next in
      let k₁ = length-to_le 4 1 in
      let k₂ = length-to_le 8 block.0 in
      let p = did (to_le 4 1) e₁ f₁ (omega arith) in
      let q = and_put (to_le 8 block.0) p e₂ refl (omega arith) in
      q.bytes ∙ rw (← here, ← eb, not-false b h)

-- ---- what it makes of the entry's bytes

length_state : (c : Option BlockNumber) → length (state_bytes c) ≡ 12
unfolding state_bytes
length_state c = simp (length-append, length-to_le)

-- with what follows it, it is the bytes that stand there, and the new state
module _ (s : List ℕ) (at : ℕ) (hash : Byte32) (block : BlockNumber) (e : MapEntry) (W : List ℕ) (stands : take (length (entry_bytes e)) (drop at s) ≡ entry_bytes e) (r : at + length (entry_bytes e) + length W ≤ length s) where
  marked_other : splice s (at + length (entry_bytes e)) W ≡ splice s at (entry_bytes e ++ W)
  marked_other = ap (λ (t : List ℕ). splice t (at + length (entry_bytes e)) W) (sym (splice-same s at (entry_bytes e) stands)) ∙ splice-then s at (entry_bytes e) W r

  marked-same : eq_hash e.hash hash ≡ true
      → splice (splice s (at + 32) (state_bytes (some block))) (at + length (entry_bytes e)) W ≡ splice s at (entry_bytes (record { hash = hash; committed = some block; points = e.points }) ++ W)
  unfolding entry_bytes
  marked-same h =
      let H = hash_bytes e.hash in
      let S = state_bytes e.committed in
      let T = state_bytes (some block) in
      let P = point_list e.points in
      let y = drop at s in
      let o = splice s (at + 32) T in
      let lH : length H ≡ 32 = length-hash e.hash in
      let lS = length_state e.committed in
      let lT = length_state (some block) in
      let lE : length (H ++ S ++ P) ≡ 44 + length P = simp (length-append, length-hash, length_state) (omega arith) in
      let Z = drop (length (H ++ S ++ P)) y in
      let all : y ≡ H ++ S ++ P ++ Z = sym (take-append-drop (length (H ++ S ++ P)) y) ∙ ap (λ (t : List ℕ). t ++ Z) stands in
      let h₁ : take (length H) y ≡ H = ap (take (length H)) (all ∙ simp append_assoc) ∙ take_at H (S ++ (P ++ Z)) (length H) refl in
      let d : drop (at + 44) s ≡ P ++ Z = sym (drop-drop 44 at s) ∙ ap (drop 44) (all ∙ append_assoc (H ++ S) P Z) ∙ drop_at (H ++ S) (P ++ Z) 44 (simp (length-append, length-hash, length_state)) in
      let z₁ : at + length H ≡ at + 32 = ap (λ (k : ℕ). at + k) lH in
      let z₂ : at + length (H ++ T) ≡ at + 44 = omega (arith, length-append H T) in
      let z₃ : at + length (H ++ S ++ P) ≡ at + 44 + length P = omega arith in
      let o₁ : splice s at (H ++ T) ≡ o =
      sym (splice-then s at H T (omega arith)) ∙ ap₂ (λ (t : List ℕ) (k : ℕ). splice t k T) (splice-same s at H h₁) z₁ in
      let lo : length o ≡ length s = splice-length s (at + 32) T (omega arith) in
      let d₂ : drop (at + 44) o ≡ drop (at + 44) s = drop-splice s (at + 32) T (at + 44) (omega arith) (omega arith) in
      let o₂ : splice o (at + 44) P ≡ o = splice-same o (at + 44) P (ap (take (length P)) (d₂ ∙ d) ∙ take_at P Z (length P) refl) in
      let left : splice o (at + length (H ++ S ++ P)) W ≡ splice o (at + 44) (P ++ W) =
      ap (λ (k : ℕ). splice o k W) z₃ ∙ ap (λ (t : List ℕ). splice t (at + 44 + length P) W) (sym o₂) ∙ splice-then o (at + 44) P W (omega arith) in
      left
      ∙ ap₂ (λ (t : List ℕ) (k : ℕ). splice t k (P ++ W)) (sym o₁) (sym z₂)
      ∙ splice-then s at (H ++ T) (P ++ W) (omega (arith, length-append P W, length-append H T))
      ∙ ap (splice s at) (sym (append_assoc (H ++ T) P W))
      ∙ ap (λ (k : Byte32). splice s at (hash_bytes k ++ T ++ P ++ W)) (hash-same e.hash hash h)

-- ---- all of them

pub record Marking (hash : Byte32) (block : BlockNumber) (s₀ : List ℕ) (n : ℕ) (s : List ℕ) (at i : ℕ) : Type 0 where
  pub left : ℕ
  pub bytes : AllBytes s₀
  pub long₀ : length s₀ ≡ map_size
  pub long : length s ≡ map_size
  pub within : i ≤ n
  pub room : at + 48 * (n - i) + 36 * left ≤ map_size
  pub reads : are_entries (n - i) left (drop at s₀) ≡ true
  pub unread : drop at s ≡ drop at s₀
  pub made : splice s at (entries_bytes (map (committed_at hash block) (entries_in (n - i) (drop at s₀)))) ≡ splice s₀ 4 (entries_bytes (map (committed_at hash block) (excluded_at s₀)))

pub mark_start : (hash : Byte32) (block : BlockNumber) (s : List ℕ) {n : ℕ} → AllBytes s → is_map s ≡ true → n ≡ word s 0 → Marking hash block s n s 4 0
unfolding excluded_at word
mark_start hash block s {n} b g e =
    let z : n - 0 ≡ u32_at s 0 = omega arith in
    let f = map-few s g in
    record {
      left = 512;
      bytes = b;
      long₀ = map-long s g;
      long = map-long s g;
      within = omega arith;
      room = omega arith;
      reads = rw z (map_are s g);
      unread = refl;
      made = rw z;
    }

marked-size : (hash : Byte32) (block : BlockNumber) (l : List MapEntry) → length (entries_bytes (map (committed_at hash block) l)) ≡ length (entries_bytes l)
unfolding entries_bytes committed_at
marked-size hash block [] = refl
marked-size hash block (e ∷ l) = by (marked-size hash block l) (has_hash hash e)
  where
    by : length (entries_bytes (map (committed_at hash block) l)) ≡ length (entries_bytes l) → (t : Bool)
        → length (entry_bytes (cond t (record { hash = hash; committed = some block; points = e.points }) e) ++ entries_bytes (map (committed_at hash block) l)) ≡ length (entry_bytes e ++ entries_bytes l)
    by r true = omega (arith, length-append (entry_bytes (record { hash = hash; committed = some block; points = e.points })) (entries_bytes (map (committed_at hash block) l)), length-append (entry_bytes e) (entries_bytes l), length-entry e, length-entry (record { hash = hash; committed = some block; points = e.points }))
    by r false = omega (arith, length-append (entry_bytes e) (entries_bytes (map (committed_at hash block) l)), length-append (entry_bytes e) (entries_bytes l))

module _ {hash : Byte32} {block : BlockNumber} {s₀ : List ℕ} {n : ℕ} {s : List ℕ} {at i : ℕ} (w : Marking hash block s₀ n s at i) where
  module _ (h : i < n) where
    next : n - i ≡ suc (n - (i + 1))
    next = omega arith

    abbrev x : List ℕ
    x = drop at s₀

    are : are_entries (suc (n - (i + 1))) w.left x ≡ true
    are = rw next at w.reads

    count_most : u32_at x 44 ≤ w.left
    count_most = first-room (n - (i + 1)) w.left x are

    long_x : entry_size x ≤ length x
    long_x = let r = w.room in let k = count_most in omega (arith, length-drop at s₀, w.long₀)

    pub marking_room : at + entry_size (drop at s) ≤ length s
    marking_room = rw w.unread (let r = w.room in let k = count_most in omega (arith, w.long))

    abbrev rest : List ℕ
    rest = entries_bytes (map (committed_at hash block) (entries_in (n - (i + 1)) (drop (entry_size x) x)))

    size_is : length (entry_bytes (map_entry_of x)) ≡ entry_size x
    size_is = length-entry (map_entry_of x) ∙ ap (λ (k : ℕ). 48 + 36 * k) (points-count x (let l = long_x in omega arith))

    stands : take (length (entry_bytes (map_entry_of x))) (drop at s) ≡ entry_bytes (map_entry_of x)
    stands = ap₂ take size_is w.unread ∙ sym (entry_again x (bytes_drop at s₀ w.bytes) (first-is (n - (i + 1)) w.left x are) long_x)

    rest-room : at + length (entry_bytes (map_entry_of x)) + length rest ≤ length s
    rest-room =
        let y = drop (entry_size x) x in
        let R = entries_in (n - (i + 1)) y in
        let r = w.room in
        let k = count_most in
        let q = points_most (n - (i + 1)) (w.left - u32_at x 44) y (rest_are (n - (i + 1)) w.left x are) (rw (length-drop (entry_size x) x) (omega (arith, long_x, length-drop at s₀, w.long₀))) in
        omega (arith, size_is, marked-size hash block R, entries-size R, entries-long (n - (i + 1)) y, w.long)

    on : (o : List ℕ) {j : ℕ} → j ≡ at + entry_size x → length o ≡ length s → drop (at + entry_size x) o ≡ drop (at + entry_size x) s → splice o (at + entry_size x) rest ≡ splice s₀ 4 (entries_bytes (map (committed_at hash block) (excluded_at s₀)))
        → Marking hash block s₀ n o j (i + 1)
    on o ej l u m =
        let r = w.room in
        let k = count_most in
        let beyond : drop (entry_size x) x ≡ drop (at + entry_size x) s₀ = drop-drop (entry_size x) at s₀ in
        let y : drop (at + entry_size x) s ≡ drop (at + entry_size x) s₀ = sym (drop-drop (entry_size x) at s) ∙ ap (drop (entry_size x)) w.unread ∙ beyond in
        record {
          left = w.left - u32_at x 44;
          bytes = w.bytes;
          long₀ = w.long₀;
          long = l ∙ w.long;
          within = omega arith;
          room = rw ej (omega arith);
          reads = rw (ej, ← beyond) (rest_are (n - (i + 1)) w.left x are);
          unread = rw ej (u ∙ y);
          made = rw (ej, ← beyond) m;
        }

    pub marking_more : {j : ℕ} {o : List ℕ} → j ≡ at + entry_size (drop at s) → o ≡ commit_one_bytes hash block at s → Marking hash block s₀ n o j (i + 1)
    unfolding commit_one_bytes entries_in entries_bytes committed_at has_hash
    marking_more {j} {o} ej eo = by (eq_hash (map_entry_of x).hash hash) refl (ej ∙ rw w.unread) (eo ∙ rw w.unread) (rw next at w.made)
      where
        by : (t : Bool) → eq_hash (map_entry_of x).hash hash ≡ t → j ≡ at + entry_size x → o ≡ cond t (splice s (at + 32) (state_bytes (some block))) s
            → splice s at (entry_bytes (cond t (record { hash = hash; committed = some block; points = (map_entry_of x).points }) (map_entry_of x)) ++ rest) ≡ splice s₀ 4 (entries_bytes (map (committed_at hash block) (excluded_at s₀)))
            → Marking hash block s₀ n o j (i + 1)
        by false k z f m = rw f (on s z refl refl (ap (λ (a : ℕ). splice s (at + a) rest) (sym size_is) ∙ marked_other s at hash block (map_entry_of x) rest stands rest-room ∙ m))
        by true k z f m =
            let T = state_bytes (some block) in
            let lT = length_state (some block) in
            let q = rest-room in
            let l = size_is in
            rw f
            (on (splice s (at + 32) T) z (splice-length s (at + 32) T (omega arith)) (drop-splice s (at + 32) T (at + entry_size x) (omega arith) (omega arith))
            (ap (λ (a : ℕ). splice (splice s (at + 32) T) (at + a) rest) (sym size_is) ∙ marked-same s at hash block (map_entry_of x) rest stands rest-room k ∙ m))

  pub marking_end : n ≤ i → s ≡ splice s₀ 4 (entries_bytes (map (committed_at hash block) (excluded_at s₀)))
  unfolding entries_in entries_bytes
  marking_end h =
      let z : n - i ≡ 0 = let k = w.within in omega arith in
      sym (splice-none s at) ∙ ap (λ (k : ℕ). splice s at (entries_bytes (map (committed_at hash block) (entries_in k (drop at s₀))))) (sym z) ∙ w.made

-- ---- the table: the count stays

record FitHash (h : Byte32) : Type 0 where
  a_fits : h.a < 2 ^ 64
  b_fits : h.b < 2 ^ 64
  c_fits : h.c < 2 ^ 64
  d_fits : h.d < 2 ^ 64

all_marked : (hash : Byte32) (block : BlockNumber) (l : List MapEntry) → FitHash hash → block.0 < 2 ^ 64 → All FitEntry l → All FitEntry (map (committed_at hash block) l)
unfolding committed_at block_of
all_marked hash block [] h b a = tt
all_marked hash block (e ∷ l) h b a = (by (has_hash hash e) a.0, all_marked hash block l h b a.1)
  where
    by : (t : Bool) → FitEntry e → FitEntry (cond t (record { hash = hash; committed = some block; points = e.points }) e)
    by false f = f
    by true f = record { a_fits = h.a_fits; b_fits = h.b_fits; c_fits = h.c_fits; d_fits = h.d_fits; block_fits = b; count_fits = f.count_fits; points-fit = f.points-fit }

module _ {hash : Byte32} {block : BlockNumber} {s₀ : List ℕ} {n : ℕ} {s : List ℕ} {at i : ℕ} (w : Marking hash block s₀ n s at i) (g : is_map s₀ ≡ true) (h : n ≤ i) where
  size-after : length (entries_bytes (map (committed_at hash block) (excluded_at s₀))) + 4 ≤ length s₀
  size-after = omega (arith, marked-size hash block (excluded_at s₀), entries-size (excluded_at s₀), map-count s₀ g, map-few s₀ g, map-points s₀ g, map-long s₀ g)

  whole : s ≡ splice s₀ 0 (map_bytes (map (committed_at hash block) (excluded_at s₀)))
  unfolding map_bytes
  whole =
      let L = map (committed_at hash block) (excluded_at s₀) in
      let C = to_le 4 (length L) in
      let lC : length C ≡ 4 = length-to_le 4 (length L) in
      let z : 0 + length C ≡ 4 = omega arith in
      let c : take (length C) (drop 0 s₀) ≡ C = ap (λ (k : ℕ). take k s₀) lC ∙ sym (ap (to_le 4) (length-map (excluded_at s₀) (committed_at hash block) ∙ map-count s₀ g) ∙ word_again 4 s₀ 0 w.bytes (omega (arith, map-long s₀ g))) in
      let q = size-after in
      marking_end w h ∙ ap₂ (λ (t : List ℕ) (k : ℕ). splice t k (entries_bytes L)) (sym (splice-same s₀ 0 C c)) (sym z) ∙ splice-then s₀ 0 C (entries_bytes L) (omega arith)

  pub marked_put : s ≡ put_at s₀ 0 (map_bytes (map (committed_at hash block) (excluded_at s₀)))
  unfolding map_bytes
  marked_put =
      let L = map (committed_at hash block) (excluded_at s₀) in
      let q = size-after in
      whole ∙ sym (put_yes s₀ 0 (map_bytes L) (omega (arith, length-append (to_le 4 (length L)) (entries_bytes L), length-to_le 4 (length L))))

  pub marked_means : hash.a < 2 ^ 64 → hash.b < 2 ^ 64 → hash.c < 2 ^ 64 → hash.d < 2 ^ 64 → block.0 < 2 ^ 64 → excluded_at s ≡ map (committed_at hash block) (excluded_at s₀)
  marked_means fa fb fc fd fk =
      let L = map (committed_at hash block) (excluded_at s₀) in
      splice-back s₀ L (omega (arith, length-map (excluded_at s₀) (committed_at hash block), map-count s₀ g, map-few s₀ g))
      (all_marked hash block (excluded_at s₀) (record { a_fits = fa; b_fits = fb; c_fits = fc; d_fits = fd }) fk (map-fits s₀ w.bytes)) whole
