-- Laws of specs/Rows.antt: one for each way out of the functions that read, look for and change rows.
use Rattle.std.proofs.Common.{Option, Some, None, refl, ◌≡◌, ℕ, ◌+◌, ◌-◌, ◌*◌, ◌%◌, ◌^◌, ◌<◌, ◌≤◌, Bool, true, false, List, ◌++◌, length, take, drop, sym, ap, ◌∙◌, ap₂, le_refl, mul-le-mul, mul-suc, add-one, arith, length-drop, length-take-le, take_all, w32, w64, Fits, le-ltb, lt-ltb, eq-eqb, ne_eqb, le-leb}
use borrow.Author.Tests.{lt-leb}
use Rattle.std.specs.List.{copy_within}
use Rattle.arithmetic.specs.LittleEndian.{to_le}
use Rattle.arithmetic.proofs.LittleEndianLaws.{wrapped}
use Rattle.molecule.specs.Layout.{part, span, word, fix_count, fix_item}
use Rattle.molecule.specs.Write.{splice, put_at}
use Rattle.molecule.proofs.WriteLaws.{put_yes}
use Rattle.lists.specs.Lists.{eq_bytes}
use Rattle.lists.proofs.SpanLaws.{span-on, span-end, span-whole}
use Rattle.rows.specs.Rows.{is_table, has_key, first_with, find, room_for, with_row, with_count, pushed, replaced, rows_behind, removed}

-- ---- places

-- where row i ends, row i + 1 begins
pub next_place : (k i : ℕ) → k * (i + 1) ≡ k * i + k
next_place k i = ap (λ (n : ℕ). k * n) (add-one i) ∙ mul-suc k i

pub place-order : (k : ℕ) {i j : ℕ} → i ≤ j → k * i ≤ k * j
place-order k h = mul-le-mul (le_refl k) h

-- a row ends no later than the last one
pub ends-within : (k : ℕ) {i n : ℕ} → i < n → 4 + k * i + k ≤ 4 + k * n
ends-within k {i} {n} h =
    let e = next_place k i in
    let o : k * (i + 1) ≤ k * n = place-order k (omega arith) in
    omega arith

-- what stands behind a row, up to the end of the last
pub later-there : (k : ℕ) {i n l : ℕ} → i < n → 4 + k * n ≤ l → 4 + k * i + k + (4 + k * n - (4 + k * i + k)) ≤ l
later-there k h r = let w = ends-within k h in omega arith

pub end_fits : (a b : ℕ) → Fits w32 a → Fits w32 b → Fits w64 (4 + a * b + a)
end_fits a b ha hb =
    let o : a * b ≤ 18446744065119617025 = mul-le-mul {n₂ = 4294967295} {m₂ = 4294967295} (omega arith) (omega arith) in
    omega arith

-- ---- is_table

module _ (k n : ℕ) (s : List ℕ) where
  pub table-long : (length s ≡ 4 + k * n → ⊥) → false ≡ is_table k n s
  unfolding is_table
  table-long h = rw (ne_eqb (length s) (4 + k * n) h)

  module _ {c : ℕ} (l : length s ≡ 4 + k * n) (e : c ≡ word s 0) where
    pub table_many : n < c → false ≡ is_table k n s
    unfolding is_table
    table_many h = rw (← e, eq-eqb (length s) (4 + k * n) l, lt-leb c n h)

    pub table_is : c ≤ n → true ≡ is_table k n s
    unfolding is_table
    table_is h = rw (← e, eq-eqb (length s) (4 + k * n) l, le-leb c n h)

-- ---- has_key and find

pub key_is : (row : List ℕ) (at : ℕ) (key : List ℕ) {rest x : List ℕ} {r : Bool} → rest ≡ part row at (length row) → x ≡ part rest 0 (length key) → r ≡ eq_bytes x key → r ≡ has_key at key row
unfolding has_key part
key_is row at key {rest} {x} er ex e =
    let d : rest ≡ drop at row = er ∙ take_all (length row - at) (drop at row) (omega (arith, length-drop at row)) in
    let z : length key - 0 ≡ length key = omega arith in
    e ∙ ap (λ (y : List ℕ). eq_bytes y key) (ex ∙ ap₂ take z d)

-- R is the answer: the rows from i on decide
pub record Seeking (k at : ℕ) (key s : List ℕ) (n i : ℕ) (R : Option ℕ) : Type 0 where
  pub rest : R ≡ first_with at key i (span (fix_item s k) i (n - i))

pub seek_start : (k at : ℕ) (key s : List ℕ) {n : ℕ} → n ≡ fix_count s → Seeking k at key s n 0 (find k at key s)
unfolding find
seek_start k at key s {n} e = record { rest = rw (← e) (ap (first_with at key 0) (span-whole (fix_item s k) n)) }

module _ {k at : ℕ} {key s : List ℕ} {n i : ℕ} {R : Option ℕ} (h : Seeking k at key s n i R) where
  pub seek_end : n ≤ i → None ≡ R
  unfolding first_with
  seek_end l = sym (h.rest ∙ rw (span-end (fix_item s k) i n l))

  module _ {x : List ℕ} {r : Bool} (l : i < n) (ex : x ≡ fix_item s k i) (e : r ≡ has_key at key x) where
    pub seek_found : r ≡ true → Some i ≡ R
    unfolding first_with
    seek_found t = sym (h.rest ∙ rw (span-on (fix_item s k) i n l, ← ex, ← e, t))

    pub seek_more : r ≡ false → Seeking k at key s n (i + 1) R
    unfolding first_with
    seek_more t = record { rest = h.rest ∙ rw (span-on (fix_item s k) i n l, ← ex, ← e, t, ← add-one i) }

-- ---- push

module _ (k : ℕ) (row s : List ℕ) where
  pub push_other : (length row ≡ k → ⊥) → s ≡ pushed k row s
  unfolding pushed
  push_other h = rw (ne_eqb (length row) k h)

  module _ (l : length row ≡ k) {n : ℕ} (e : n ≡ fix_count s) where
    pub push_full : length s < 4 + k * n + k → s ≡ pushed k row s
    unfolding pushed room_for
    push_full h =
        let o : length s < 4 + k * (n + 1) = omega (arith, next_place k n) in
        rw (← e, eq-eqb (length row) k l, lt-leb (4 + k * (n + 1)) (length s) o)

    pub push_is : {m : ℕ} {o t : List ℕ} → 4 + k * n + k ≤ length s → m ≡ (n + 1) % 2 ^ 32 → o ≡ put_at s (4 + k * n) row → t ≡ put_at o 0 (to_le 4 m) → t ≡ pushed k row s
    unfolding pushed room_for with_row with_count
    push_is {m} h em eo et =
        let r : 4 + k * (n + 1) ≤ length s = omega (arith, next_place k n) in
        let c : to_le 4 m ≡ to_le 4 (n + 1) = ap (to_le 4) em ∙ wrapped (n + 1) in
        et ∙ rw (eo, c, ← e, eq-eqb (length row) k l, le-leb (4 + k * (n + 1)) (length s) r)

-- ---- replace

module _ (k i : ℕ) (row s : List ℕ) {n : ℕ} (e : n ≡ fix_count s) where
  pub replace_past : n ≤ i → s ≡ replaced k i row s
  unfolding replaced
  replace_past h = rw (← e, le-ltb i n h)

  module _ (h : i < n) where
    pub replace_other : (length row ≡ k → ⊥) → s ≡ replaced k i row s
    unfolding replaced
    replace_other l = rw (← e, lt-ltb i n h, ne_eqb (length row) k l)

    pub replace_is : {o : List ℕ} → length row ≡ k → o ≡ put_at s (4 + k * i) row → o ≡ replaced k i row s
    unfolding replaced with_row
    replace_is l eo = eo ∙ rw (← e, lt-ltb i n h, eq-eqb (length row) k l)

-- ---- remove

-- the rows behind moved down
pub moved_down : (k i n : ℕ) (s : List ℕ) {o : List ℕ} → i < n → 4 + k * n ≤ length s → o ≡ copy_within s (4 + k * i + k) (4 + k * n) (4 + k * i)
    → o ≡ splice s (4 + k * i) (take (4 + k * n - (4 + k * i + k)) (drop (4 + k * i + k) s))
unfolding splice
moved_down k i n s h r e =
    let a = 4 + k * i in
    let b = 4 + k * i + k in
    let m = 4 + k * n - b in
    let w : b ≤ 4 + k * n = ends-within k h in
    let lx : length (take m (drop b s)) ≡ m = length-take-le m (drop b s) (omega (arith, length-drop b s)) in
    e ∙ ap (λ (x : ℕ). take a s ++ take m (drop b s) ++ drop (a + x) s) (sym lx)

module _ (k i : ℕ) (s : List ℕ) {n : ℕ} (e : n ≡ fix_count s) where
  pub remove_past : n ≤ i → s ≡ removed k i s
  unfolding removed
  remove_past h = rw (← e, le-ltb i n h)

  module _ (h : i < n) where
    pub remove_short : length s < 4 + k * n → s ≡ removed k i s
    unfolding removed room_for
    remove_short o = rw (← e, lt-ltb i n h, lt-leb (4 + k * n) (length s) o)

    pub remove-is : {o t : List ℕ} → 4 + k * n ≤ length s → o ≡ splice s (4 + k * i) (take (4 + k * n - (4 + k * i + k)) (drop (4 + k * i + k) s)) → t ≡ put_at o 0 (to_le 4 (n - 1)) → t ≡ removed k i s
    unfolding removed room_for with_row with_count rows_behind part
    remove-is {o} r eo et =
        let a = 4 + k * i in
        let b = 4 + k * i + k in
        let m = 4 + k * n - b in
        let w : b ≤ 4 + k * n = ends-within k h in
        let lx : length (take m (drop b s)) ≡ m = length-take-le m (drop b s) (omega (arith, length-drop b s)) in
        let room : a + length (take m (drop b s)) ≤ length s = omega arith in
        et ∙ rw (eo, ← put_yes s a (take m (drop b s)) room, ← e, lt-ltb i n h, le-leb (4 + k * n) (length s) r)

    pub remove_done : 4 + k * n ≤ length s → put_at (copy_within s (4 + k * i + k) (4 + k * n) (4 + k * i)) 0 (to_le 4 (n - 1)) ≡ removed k i s
    remove_done r = remove-is r (moved_down k i n s h r refl) refl
