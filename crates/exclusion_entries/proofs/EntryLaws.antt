-- An entry and a table in bytes: what was read is what stands there, and what was written is read.
use mathlib.Core.Path.{◌≡◌, refl, sym, ap, ap₂, ◌∙◌}
use Prim.Native.Nat.{ℕ, zero, suc, ◌+◌, ◌-◌, ◌*◌, ◌^◌, ◌≤◌, ◌<◌}
use mathlib.Core.Bool.{Bool, true, false, cond}
use mathlib.Core.List.{List, [], ◌∷◌, ◌++◌, append_assoc}
use mathlib.Core.Option.{Option, none, some}
use native.Mathlib.Omega.{arith}
use borrow.Author.Tests.{le-leb, leb-true, eqb-true}
use lib.Dec.{eqb, leb}
use lib.ListN.{length, take, drop, length-append, length-drop, take-append-drop}
use lib.Seq.{take-add, take_all, drop-drop}
use Rattle.arithmetic.specs.LittleEndian.{to_le, AllBytes, u32_at, u64_at}
use Rattle.arithmetic.proofs.LittleEndianLaws.{length-to_le, num_some}
use Rattle.units.specs.declared.{BlockNumber.BlockNumber}
use Rattle.molecule.specs.Layout.{part, word, fix_count}
use Rattle.molecule.specs.Partial.{All}
use Rattle.out_points.specs.OutPoints.{byte32_at, points, hash_bytes, points_bytes, point_list}
use Rattle.out_points.proofs.PointLaws.{length-hash}
use Rattle.out_points.proofs.ListLaws.{length-points, length_list}
use Rattle.molecule.proofs.ItemsLaws.{bytes_drop}
use Rattle.molecule.proofs.LayoutLaws.{fix_count-word, fix_count-below}
use Rattle.out_points.proofs.AgainLaws.{word_again, bytes_again, list_before, word_back, num_fits, points-fit, count_fits, behind}
use Rattle.exclusion_entries.specs.Exclusions.{MapEntry, excluded}
use Rattle.exclusion_entries.specs.Entries.{state_kind, block_of, state_bytes, entry_bytes, entries_bytes, FitEntry, state_of, map_entry_of, entry_size, entries_in, is_entry, are_entries}

-- ---- one entry

-- the bytes from an entry on
pub from-here : (s : List ℕ) (at : ℕ) {x : List ℕ} → x ≡ part s at (length s) → x ≡ drop at s
unfolding part
from-here s at e = e ∙ take_all (length s - at) (drop at s) (omega (arith, length-drop at s))

-- the count of the out points is that of their list
count-is : (x : List ℕ) → entry_size x ≤ length x → fix_count (drop 44 x) ≡ u32_at x 44
unfolding word
count-is x h =
    let w : word (drop 44 x) 0 ≡ u32_at x 44 = num_some 4 (drop 44 x) 0 (omega (arith, length-drop 44 x)) ∙ sym (num_some 4 x 44 (omega arith)) in
    fix_count-word (drop 44 x) (omega (arith, length-drop 44 x)) ∙ w

pub points-count : (x : List ℕ) → entry_size x ≤ length x → length (map_entry_of x).points ≡ u32_at x 44
unfolding map_entry_of
points-count x h = length-points (drop 44 x) ∙ count-is x h

pub length-entry : (e : MapEntry) → length (entry_bytes e) ≡ 48 + 36 * length e.points
unfolding entry_bytes state_bytes
length-entry e = simp (length-append, length-hash, length-to_le, length_list) (omega arith)

state_again : (x : List ℕ) → is_entry x ≡ true → state_bytes (state_of (u32_at x 32) (u64_at x 36)) ≡ to_le 4 (u32_at x 32) ++ to_le 8 (u64_at x 36)
unfolding is_entry state_bytes state_of state_kind block_of
state_again x h = by (eqb (u32_at x 32) 0) refl h
  where
    by : (t : Bool) → eqb (u32_at x 32) 0 ≡ t → cond t (eqb (u64_at x 36) 0) (eqb (u32_at x 32) 1) ≡ true
        → state_bytes (cond t none (some (record { 0 = u64_at x 36 }))) ≡ to_le 4 (u32_at x 32) ++ to_le 8 (u64_at x 36)
    by true e k = rw (eqb-true (u32_at x 32) 0 e, eqb-true (u64_at x 36) 0 k)
    by false e k = rw (eqb-true (u32_at x 32) 1 k)

hash_again : (x : List ℕ) → AllBytes x → 32 ≤ length x → hash_bytes (byte32_at x 0) ≡ take 32 x
unfolding hash_bytes byte32_at
hash_again x b h =
    rw (word_again 8 x 0 b (omega arith), word_again 8 x 8 b (omega arith), word_again 8 x 16 b (omega arith), word_again 8 x 24 b (omega arith))
    (sym (take-add 24 8 x ∙ ap (λ (y : List ℕ). y ++ take 8 (drop 24 x)) (take-add 16 8 x ∙ ap (λ (y : List ℕ). y ++ take 8 (drop 16 x)) (take-add 8 8 x))))

list_again : (x : List ℕ) → AllBytes x → 4 + 36 * fix_count x ≤ length x → point_list (points x) ≡ take (4 + 36 * fix_count x) x
unfolding point_list word
list_again x b h =
    ap₂ (λ (y z : List ℕ). y ++ z) (ap (to_le 4) (length-points x ∙ fix_count-below x (omega arith)) ∙ word_again 4 x 0 b (omega arith)) (bytes_again x 0 (fix_count x) b (omega arith) h)
    ∙ sym (take-add 4 (36 * fix_count x) x)

-- the bytes of the out points
pub points_again : (x : List ℕ) → AllBytes x → entry_size x ≤ length x → points_bytes (map_entry_of x).points ≡ take (36 * u32_at x 44) (drop 48 x)
unfolding map_entry_of
points_again x b h =
    let y = drop 44 x in
    let c = count-is x (omega arith) in
    bytes_again y 0 (fix_count y) (bytes_drop 44 x b) (omega arith) (omega (arith, length-drop 44 x)) ∙ ap₂ (λ (n : ℕ) (z : List ℕ). take (36 * n) z) c (drop-drop 4 44 x)

pub entry_again : (x : List ℕ) → AllBytes x → is_entry x ≡ true → entry_size x ≤ length x → entry_bytes (map_entry_of x) ≡ take (entry_size x) x
unfolding entry_bytes map_entry_of
entry_again x b k h =
    let c = count-is x (omega arith) in
    let l : point_list (points (drop 44 x)) ≡ take (4 + 36 * u32_at x 44) (drop 44 x) =
    list_again (drop 44 x) (bytes_drop 44 x b) (omega (arith, length-drop 44 x)) ∙ ap (λ (n : ℕ). take (4 + 36 * n) (drop 44 x)) c in
    let z : entry_size x ≡ 44 + (4 + 36 * u32_at x 44) = omega arith in
    let st : state_bytes (state_of (u32_at x 32) (u64_at x 36)) ≡ take 4 (drop 32 x) ++ take 8 (drop 36 x) =
    state_again x k ∙ ap₂ (λ (y w : List ℕ). y ++ w) (word_again 4 x 32 b (omega arith)) (word_again 8 x 36 b (omega arith)) in
    let head : take 44 x ≡ take 32 x ++ (take 4 (drop 32 x) ++ take 8 (drop 36 x)) =
    take-add 36 8 x ∙ ap (λ (y : List ℕ). y ++ take 8 (drop 36 x)) (take-add 32 4 x) ∙ append_assoc (take 32 x) (take 4 (drop 32 x)) (take 8 (drop 36 x)) in
    rw (hash_again x b (omega arith), st, l) (ap (λ (y : List ℕ). y ++ take (4 + 36 * u32_at x 44) (drop 44 x)) (sym head) ∙ sym (take-add 44 (4 + 36 * u32_at x 44) x) ∙ ap (λ (n : ℕ). take n x) (sym z))

pub entry-fits : (x : List ℕ) → AllBytes x → FitEntry (map_entry_of x)
unfolding map_entry_of byte32_at state_of block_of
entry-fits x b = record {
  a_fits = num_fits 8 x 0 b;
  b_fits = num_fits 8 x 8 b;
  c_fits = num_fits 8 x 16 b;
  d_fits = num_fits 8 x 24 b;
  block_fits = by (eqb (u32_at x 32) 0);
  count_fits = rw (length-points (drop 44 x)) (count_fits (drop 44 x) (bytes_drop 44 x b));
  points-fit = points-fit (drop 44 x) (bytes_drop 44 x b);
}
  where
    by : (t : Bool) → block_of (cond t none (some (record { 0 = u64_at x 36 }))) < 2 ^ 64
    by true = omega arith
    by false = num_fits 8 x 36 b

-- what is read of an entry that was written, whatever bytes follow
kind_back : (e : MapEntry) (z : List ℕ) → u32_at (entry_bytes e ++ z) 32 ≡ state_kind e.committed
unfolding entry_bytes state_bytes state_kind
kind_back e z =
    let N = to_le 8 (block_of e.committed) in
    ap (λ (x : List ℕ). u32_at x 32) (simp append_assoc) ∙ word_back 4 (state_kind e.committed) (hash_bytes e.hash) (N ++ (point_list e.points ++ z)) 32 (length-hash e.hash) (fits e.committed)
  where
    fits : (c : Option BlockNumber) → state_kind c < 256 ^ 4
    fits none = omega arith
    fits (some b) = omega arith

block_back : (e : MapEntry) (z : List ℕ) → block_of e.committed < 2 ^ 64 → u64_at (entry_bytes e ++ z) 36 ≡ block_of e.committed
unfolding entry_bytes state_bytes
block_back e z h =
    let K = to_le 4 (state_kind e.committed) in
    ap (λ (x : List ℕ). u64_at x 36) (simp append_assoc)
    ∙ word_back 8 (block_of e.committed) (hash_bytes e.hash ++ K) (point_list e.points ++ z) 36 (simp (length-append, length-hash, length-to_le)) h

count-back : (e : MapEntry) (z : List ℕ) → length e.points < 2 ^ 32 → u32_at (entry_bytes e ++ z) 44 ≡ length e.points
unfolding entry_bytes state_bytes point_list
count-back e z h =
    let K = to_le 4 (state_kind e.committed) in
    let N = to_le 8 (block_of e.committed) in
    ap (λ (x : List ℕ). u32_at x 44) (simp append_assoc)
    ∙ word_back 4 (length e.points) (hash_bytes e.hash ++ K ++ N) (points_bytes e.points ++ z) 44 (simp (length-append, length-hash, length-to_le)) h

entry-is : (e : MapEntry) (z : List ℕ) → is_entry (entry_bytes e ++ z) ≡ true
unfolding is_entry state_kind block_of
entry-is e z = by e.committed (kind_back e z) (block_back e z)
  where
    by : (c : Option BlockNumber) → u32_at (entry_bytes e ++ z) 32 ≡ state_kind c → (block_of c < 2 ^ 64 → u64_at (entry_bytes e ++ z) 36 ≡ block_of c)
        → cond (eqb (u32_at (entry_bytes e ++ z) 32) 0) (eqb (u64_at (entry_bytes e ++ z) 36) 0) (eqb (u32_at (entry_bytes e ++ z) 32) 1) ≡ true
    by none k b = rw (k, b (omega arith))
    by (some n) k b = rw k

-- and where its numbers fit, all of it
pub entry-back : (e : MapEntry) (z : List ℕ) → FitEntry e → map_entry_of (entry_bytes e ++ z) ≡ e
unfolding map_entry_of entry_bytes state_bytes state_of state_kind block_of hash_bytes byte32_at
entry-back e z f =
    let A = to_le 8 e.hash.a in
    let B = to_le 8 e.hash.b in
    let C = to_le 8 e.hash.c in
    let D = to_le 8 e.hash.d in
    let K = to_le 4 (state_kind e.committed) in
    let N = to_le 8 (block_of e.committed) in
    let P = point_list e.points in
    let s = A ++ B ++ C ++ D ++ (K ++ N) ++ P ++ z in
    let ea : u64_at s 0 ≡ e.hash.a = ap (λ (x : List ℕ). u64_at x 0) (simp append_assoc) ∙ word_back 8 e.hash.a [] (B ++ (C ++ (D ++ (K ++ (N ++ (P ++ z)))))) 0 refl f.a_fits in
    let eb : u64_at s 8 ≡ e.hash.b = ap (λ (x : List ℕ). u64_at x 8) (simp append_assoc) ∙ word_back 8 e.hash.b A (C ++ (D ++ (K ++ (N ++ (P ++ z))))) 8 (length-to_le 8 e.hash.a) f.b_fits in
    let ec : u64_at s 16 ≡ e.hash.c = ap (λ (x : List ℕ). u64_at x 16) (simp append_assoc) ∙ word_back 8 e.hash.c (A ++ B) (D ++ (K ++ (N ++ (P ++ z)))) 16 (simp (length-append, length-to_le)) f.c_fits in
    let ed : u64_at s 24 ≡ e.hash.d = ap (λ (x : List ℕ). u64_at x 24) (simp append_assoc) ∙ word_back 8 e.hash.d (A ++ B ++ C) (K ++ (N ++ (P ++ z))) 24 (simp (length-append, length-to_le)) f.d_fits in
    let g : s ≡ A ++ B ++ C ++ D ++ K ++ N ++ (P ++ z) = simp append_assoc in
    let ep : points (drop 44 s) ≡ e.points =
    ap (λ (x : List ℕ). points (drop 44 x)) g ∙ ap points (behind (A ++ B ++ C ++ D ++ K ++ N) (P ++ z) 44 (simp (length-append, length-to_le))) ∙ list_before e.points z f.count_fits f.points-fit in
    rw (ea, eb, ec, ed, kind_back e z, block_back e z f.block_fits, ep) (ap (λ (c : Option BlockNumber). record { hash = e.hash; committed = c; points = e.points }) (state_back e.committed))
  where
    state_back : (c : Option BlockNumber) → state_of (state_kind c) (block_of c) ≡ c
    state_back none = refl
    state_back (some b) = refl

-- ---- a list of entries

pub entries-long : (n : ℕ) (x : List ℕ) → length (entries_in n x) ≡ n
unfolding entries_in
entries-long zero x = refl
entries-long (suc n) x = ap suc (entries-long n (drop (entry_size x) x))

pub entries_fit : (n : ℕ) (x : List ℕ) → AllBytes x → All FitEntry (entries_in n x)
unfolding entries_in
entries_fit zero x b = tt
entries_fit (suc n) x b = (entry-fits x b, entries_fit n (drop (entry_size x) x) (bytes_drop (entry_size x) x b))

pub entries-back : (l : List MapEntry) (z : List ℕ) → All FitEntry l → entries_in (length l) (entries_bytes l ++ z) ≡ l
unfolding entries_in entries_bytes
entries-back [] z f = refl
entries-back (e ∷ l) z f =
    let s = entry_bytes e ++ (entries_bytes l ++ z) in
    let h : map_entry_of s ≡ e = entry-back e (entries_bytes l ++ z) f.0 in
    let c : entry_size s ≡ length (entry_bytes e) = ap (λ (n : ℕ). 48 + 36 * n) (count-back e (entries_bytes l ++ z) f.0.count_fits) ∙ sym (length-entry e) in
    let d : drop (entry_size s) s ≡ entries_bytes l ++ z = ap (λ (n : ℕ). drop n s) c ∙ behind (entry_bytes e) (entries_bytes l ++ z) (length (entry_bytes e)) refl in
    ap (λ (x : List ℕ). map_entry_of x ∷ entries_in (length l) (drop (entry_size x) x)) (append_assoc (entry_bytes e) (entries_bytes l) z)
    ∙ ap₂ (λ (a : MapEntry) (r : List MapEntry). a ∷ r) h (ap (entries_in (length l)) d ∙ entries-back l z f.1)

-- with at most m out points in all they have the form
pub entries_are : (l : List MapEntry) (m : ℕ) (z : List ℕ) → length (excluded l) ≤ m → m < 2 ^ 32 → are_entries (length l) m (entries_bytes l ++ z) ≡ true
unfolding are_entries entries_bytes excluded
entries_are [] m z h k = refl
entries_are (e ∷ l) m z h k =
    let y = entries_bytes l ++ z in
    let n = length-append e.points (excluded l) in
    let d : drop (48 + 36 * length e.points) (entry_bytes e ++ y) ≡ y = behind (entry_bytes e) y (48 + 36 * length e.points) (length-entry e) in
    ap (are_entries (suc (length l)) m) (append_assoc (entry_bytes e) (entries_bytes l) z)
    ∙ rw (entry-is e y, count-back e y (omega arith), le-leb (length e.points) m (omega arith), d) (entries_are l (m - length e.points) z (omega arith) (omega arith))

-- what a turn of the pass knows: the entry at the start of x is one, and the others follow
module _ (n m : ℕ) (x : List ℕ) (k : are_entries (suc n) m x ≡ true) where
  pub first-is : is_entry x ≡ true
  unfolding are_entries
  first-is = by (is_entry x) refl k
    where
      by : (t : Bool) → is_entry x ≡ t → cond t (cond (leb (u32_at x 44) m) (are_entries n (m - u32_at x 44) (drop (entry_size x) x)) false) false ≡ true → is_entry x ≡ true
      by true e h = e
      by false e h = absurd (let z : ◌≡◌ {A = ℕ} 0 1 = cc in omega arith)

  rest_both : (u32_at x 44 ≤ m) × (are_entries n (m - u32_at x 44) (drop (entry_size x) x) ≡ true)
  unfolding are_entries
  rest_both = by (leb (u32_at x 44) m) refl (rw first-is at k)
    where
      by : (t : Bool) → leb (u32_at x 44) m ≡ t → cond t (are_entries n (m - u32_at x 44) (drop (entry_size x) x)) false ≡ true → (u32_at x 44 ≤ m) × (are_entries n (m - u32_at x 44) (drop (entry_size x) x) ≡ true)
      by true e h = (leb-true _ _ e, h)
      by false e h = absurd (let z : ◌≡◌ {A = ℕ} 0 1 = cc in omega arith)

  pub first-room : u32_at x 44 ≤ m
  first-room = rest_both.0

  pub rest_are : are_entries n (m - u32_at x 44) (drop (entry_size x) x) ≡ true
  rest_are = rest_both.1

pub entries_again : (n m : ℕ) (x : List ℕ) → AllBytes x → are_entries n m x ≡ true → 48 * n + 36 * m ≤ length x → x ≡ entries_bytes (entries_in n x) ++ drop (length (entries_bytes (entries_in n x))) x
unfolding entries_in entries_bytes
entries_again zero m x b k h = refl
entries_again (suc n) m x b k h =
    let c = first-room n m x k in
    let y = drop (entry_size x) x in
    let w : entry_bytes (map_entry_of x) ≡ take (entry_size x) x = entry_again x b (first-is n m x k) (omega arith) in
    let l : length (entry_bytes (map_entry_of x)) ≡ entry_size x = length-entry (map_entry_of x) ∙ ap (λ (i : ℕ). 48 + 36 * i) (points-count x (omega arith)) in
    let r = entries_again n (m - u32_at x 44) y (bytes_drop (entry_size x) x b) (rest_are n m x k) (rw (length-drop (entry_size x) x) (omega arith)) in
    let E = entry_bytes (map_entry_of x) in
    let R = entries_bytes (entries_in n y) in
    let i : entry_size x + length R ≡ length (E ++ R) = omega (arith, length-append E R) in
    let d : drop (length R) y ≡ drop (length (E ++ R)) x = drop-drop (length R) (entry_size x) x ∙ ap (λ (j : ℕ). drop j x) i in
    sym (take-append-drop (entry_size x) x) ∙ ap₂ (λ (a c : List ℕ). a ++ c) (sym w) (r ∙ ap (λ (a : List ℕ). R ++ a) d) ∙ sym (append_assoc E R (drop (length (E ++ R)) x))

-- so many bytes
pub entries-size : (l : List MapEntry) → length (entries_bytes l) ≡ 48 * length l + 36 * length (excluded l)
unfolding entries_bytes excluded
entries-size [] = refl
entries-size (e ∷ l) = simp length-append (omega (arith, length-entry e, entries-size l, length-append e.points (excluded l)))

pub points_most : (n m : ℕ) (x : List ℕ) → are_entries n m x ≡ true → 48 * n + 36 * m ≤ length x → length (excluded (entries_in n x)) ≤ m
unfolding entries_in excluded
points_most zero m x k h = omega arith
points_most (suc n) m x k h =
    let c = first-room n m x k in
    let r = points_most n (m - u32_at x 44) (drop (entry_size x) x) (rest_are n m x k) (rw (length-drop (entry_size x) x) (omega arith)) in
    simp length-append (omega (arith, points-count x (omega arith)))

pub bytes-join : (l r : List MapEntry) → entries_bytes (l ++ r) ≡ entries_bytes l ++ entries_bytes r
unfolding entries_bytes
bytes-join [] r = refl
bytes-join (e ∷ l) r = ap (λ (x : List ℕ). entry_bytes e ++ x) (bytes-join l r) ∙ sym (append_assoc (entry_bytes e) (entries_bytes l) (entries_bytes r))
