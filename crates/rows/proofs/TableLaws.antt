-- What a table means after push, replace and remove, what `find` answers, and rows as bytes: the proofs of what RowTheorems.antt states.
use Rattle.std.proofs.Common.{Option, Some, None, ◌≡◌, ℕ, zero, suc, ◌+◌, ◌-◌, ◌*◌, ◌^◌, ◌<◌, ◌≤◌, Bool, true, false, cond, ◌&&◌, eqb, ltb, leb, List, [], ◌∷◌, ◌++◌, length, take, drop, set, replicate, sym, refl, ap, ◌∙◌, ap₂, append_assoc, append-nil, mul-zero, mul-suc, mul-add, add-one, arith, length-append, length-drop, take-append-drop, drop_of_length-le, length-take-le, take_all, take_at, take-add, drop_at, ltb-false, ltb-true, eqb-true, leb-true}
use mathlib.Core.Bool.{and-eq-true_iff}
use mathlib.Core.List.{flatten}
use native.Mathlib.Nat.{le_of_mul-le-mul_left}
use lib.ListN.{length-replicate, replicate-append-replicate}
use lib.Seq.{set_split, set_out}
use Rattle.arithmetic.specs.LittleEndian.{le, to_le, AllBytes}
use Rattle.arithmetic.proofs.LittleEndianLaws.{length-to_le, le-to_le, to_le-le, num_some}
use Rattle.molecule.specs.Items.{fix_list}
use Rattle.molecule.specs.Layout.{span, word, fix_count, fix_item}
use Rattle.molecule.specs.Partial.{All}
use Rattle.molecule.specs.Write.{splice}
use Rattle.molecule.proofs.Offsets.{span-length}
use Rattle.molecule.proofs.ItemsLaws.{bytes_take}
use Rattle.molecule.proofs.LayoutLaws.{fix_count-word, fix_count_said}
use Rattle.molecule.proofs.SpliceLaws.{drop-splice}
use Rattle.molecule.proofs.WriteLaws.{put_yes}
use Rattle.lists.proofs.RunLaws.{item_run, next_run}
use Rattle.lists.proofs.SpanLaws.{span-split}
use Rattle.rows.specs.Rows.{is_table, row_count, row_at, rows_of, has_key, first_with, find, room_for, pushed, replaced, removed}
use Rattle.rows.proofs.RowLaws.{next_place, place-order, ends-within, table_is, push_is, push_full, replace_is, replace_past, remove-is, remove_past}
use Rattle.rows.proofs.ChangeLaws.{inside-write, part-within, span_same, span-take, span-behind, span-first, table-length, table-word, rows-below, count_word, put_long, put_word, put_before, counted-long, counted-word, counted_row}

length_part : (s : List ℕ) (from n : ℕ) → from + n ≤ length s → length (take n (drop from s)) ≡ n
length_part s from n h = length-take-le n (drop from s) (rw (length-drop from s) (omega arith))

below_or_not : (i n : ℕ) (P : Type 0) → (i < n → P) → (n ≤ i → P) → P
below_or_not i n P f g = by (ltb i n) refl
  where
    by : (b : Bool) → ltb i n ≡ b → P
    by true e = f (ltb-true i n e)
    by false e = g (ltb-false i n e)

-- ---- a table's rows

pub rows-counted : (k : ℕ) (s : List ℕ) → length (rows_of k s) ≡ row_count s
rows-counted k s = span-length (fix_item s k) 0 (row_count s)

module _ (k n : ℕ) (s : List ℕ) (p : 0 < k) (t : is_table k n s ≡ true) where
  -- no more than there is room for
  pub rows_most : row_count s ≤ n
  rows_most = omega (arith, count_word k n s p t, table-word k n s t)

  rows-room : 4 + k * row_count s ≤ length s
  rows-room = let o : k * fix_count s ≤ k * n = place-order k rows_most in omega (arith, table-length k n s t)

  said : word s 0 ≡ row_count s
  said = sym (count_word k n s p t)

  row_run : (x : ℕ) → x < row_count s → row_at k s x ≡ take k (drop (4 + k * x) s)
  row_run x h = item_run s k x (omega (arith, said))

  -- each of k bytes
  pub row_length : (x : ℕ) → x < row_count s → length (row_at k s x) ≡ k
  row_length x h =
      let w = ends-within k h in
      ap length (row_run x h) ∙ length_part s (4 + k * x) k (omega (arith, rows-room))

  -- a table of the same length with a count of m rows
  table_with : (o : List ℕ) (m : ℕ) → length o ≡ length s → word o 0 ≡ m → m ≤ n → is_table k n o ≡ true
  table_with o m l w h = sym (table_is k n o (l ∙ table-length k n s t) (sym w) h)

  count_with : (o : List ℕ) (m : ℕ) → length o ≡ length s → word o 0 ≡ m → m ≤ n → row_count o ≡ m
  count_with o m l w h = fix_count-word o (omega (arith, table-length k n s t, rows-below k n p)) ∙ w

  -- ---- push

  module _ (q : n < 2 ^ 32) (row : List ℕ) (l : length row ≡ k) (r : row_count s < n) where
    push_room : 4 + k * row_count s + length row ≤ length s
    push_room = let w = ends-within k r in omega (arith, table-length k n s t)

    push_fits : row_count s + 1 < 2 ^ 32
    push_fits = omega arith

    abbrev after_push : List ℕ
    after_push = splice (splice s (4 + k * row_count s) row) 0 (to_le 4 (row_count s + 1))

    push_bytes : pushed k row s ≡ after_push
    push_bytes =
        let a = put_long k s (row_count s) row push_room in
        sym
        (push_is k row s l refl (omega (arith, push_room)) (omega arith) (sym (put_yes s (4 + k * row_count s) row push_room))
        (sym (put_yes (splice s (4 + k * row_count s) row) 0 (to_le 4 (row_count s + 1)) (omega (arith, table-length k n s t, length-to_le 4 (row_count s + 1))))))

    pushed_long : length (pushed k row s) ≡ length s
    pushed_long = ap length push_bytes ∙ counted-long k s (row_count s) row push_room (row_count s + 1) push_fits

    pushed-word : word (pushed k row s) 0 ≡ row_count s + 1
    pushed-word = ap (λ (o : List ℕ). word o 0) push_bytes ∙ counted-word k s (row_count s) row push_room (row_count s + 1) push_fits

    pub push_count : row_count (pushed k row s) ≡ row_count s + 1
    push_count = count_with (pushed k row s) (row_count s + 1) pushed_long pushed-word (omega arith)

    pushed-table : is_table k n (pushed k row s) ≡ true
    pushed-table = table_with (pushed k row s) (row_count s + 1) pushed_long pushed-word (omega arith)

    pub push_rows : rows_of k (pushed k row s) ≡ rows_of k s ++ (row ∷ [])
    unfolding span
    push_rows =
        let c = row_count s in
        let o = after_push in
        let old : (x : ℕ) → x < c → fix_item o k x ≡ fix_item s k x =
        λ x h. counted_row k s c row push_room (c + 1) push_fits x (omega arith) ∙ put_before k s c row push_room x h ∙ sym (row_run x h) in
        let z : 4 + k * c + 0 ≡ 4 + k * c = omega arith in
        let y : 0 + c ≡ c = omega arith in
        let new : fix_item o k c ≡ row =
        counted_row k s c row push_room (c + 1) push_fits c (omega arith)
        ∙ ap (λ (a : ℕ). take k (drop a (splice s (4 + k * c) row))) (sym z)
        ∙ inside-write s (4 + k * c) row 0 k push_room (omega arith)
        ∙ take_all k row (omega arith) in
        ap (λ (m : ℕ). span (fix_item (pushed k row s) k) 0 m) push_count
        ∙ ap (λ (x : List ℕ). span (fix_item x k) 0 (c + 1)) push_bytes
        ∙ span-split (fix_item o k) 0 c 1
        ∙ ap₂ (λ (a b : List (List ℕ)). a ++ b) (span-first (fix_item o k) (fix_item s k) c old) (ap (λ (x : List ℕ). x ∷ []) (ap (fix_item o k) y ∙ new))

  -- a table with no room stays as it was
  pub push_none : (row : List ℕ) → length row ≡ k → n ≤ row_count s → pushed k row s ≡ s
  push_none row l h =
      let o : k * n ≤ k * row_count s = place-order k h in
      sym (push_full k row s l refl (omega (arith, table-length k n s t)))

  -- whatever row was pushed
  pub push_table : n < 2 ^ 32 → (row : List ℕ) → is_table k n (pushed k row s) ≡ true
  unfolding pushed room_for
  push_table q row = by (eqb (length row) k && room_for k s (row_count s + 1)) refl
    where
      by : (b : Bool) → eqb (length row) k && room_for k s (row_count s + 1) ≡ b → is_table k n (pushed k row s) ≡ true
      by false e = ap (is_table k n) (rw e) ∙ t
      by true e =
          let (a, b) = (and-eq-true_iff (eqb (length row) k) (leb (4 + k * (row_count s + 1)) (length s))).0 e in
          let o : 4 + k * (row_count s + 1) ≤ length s = leb-true (4 + k * (row_count s + 1)) (length s) b in
          let o' : k * (row_count s + 1) ≤ k * n = omega (arith, table-length k n s t) in
          let r : row_count s + 1 ≤ n = le_of_mul-le-mul_left o' p in
          pushed-table q row (eqb-true (length row) k a) (omega arith)

  -- ---- replace

  module _ (i : ℕ) (row : List ℕ) (l : length row ≡ k) (h : i < row_count s) where
    replace_room : 4 + k * i + length row ≤ length s
    replace_room = let w = ends-within k h in omega (arith, rows-room)

    abbrev after_replace : List ℕ
    after_replace = splice s (4 + k * i) row

    replace_bytes : replaced k i row s ≡ after_replace
    replace_bytes = sym (replace_is k i row s refl h l (sym (put_yes s (4 + k * i) row replace_room)))

    replaced-long : length (replaced k i row s) ≡ length s
    replaced-long = ap length replace_bytes ∙ put_long k s i row replace_room

    replaced-word : word (replaced k i row s) 0 ≡ row_count s
    replaced-word = ap (λ (o : List ℕ). word o 0) replace_bytes ∙ put_word k s i row replace_room ∙ said

    replaced-count : row_count (replaced k i row s) ≡ row_count s
    replaced-count = count_with (replaced k i row s) (row_count s) replaced-long replaced-word rows_most

    replaced-table : is_table k n (replaced k i row s) ≡ true
    replaced-table = table_with (replaced k i row s) (row_count s) replaced-long replaced-word rows_most

    replaced-rows : rows_of k (replaced k i row s) ≡ set (rows_of k s) i row
    unfolding span
    replaced-rows =
        let c = row_count s in
        let o = after_replace in
        let rest = c - (i + 1) in
        let wo : word o 0 ≡ c = put_word k s i row replace_room ∙ said in
        let there : (x : ℕ) → x < c → fix_item o k x ≡ take k (drop (4 + k * x) o) = λ x b. item_run o k x (omega arith) in
        let before : (x : ℕ) → x < i → fix_item o k x ≡ fix_item s k x =
        λ x b. there x (omega arith) ∙ put_before k s i row replace_room x b ∙ sym (row_run x (omega arith)) in
        let behind : (x : ℕ) → x < rest → fix_item o k (suc i + x) ≡ fix_item s k (i + 1 + x) =
        λ x b.
        let y : suc i + x ≡ i + 1 + x = omega arith in
        let w : 4 + k * i + k ≤ 4 + k * (i + 1 + x) = ends-within k (omega arith) in
        ap (fix_item o k) y ∙ there (i + 1 + x) (omega arith) ∙ ap (take k) (drop-splice s (4 + k * i) row (4 + k * (i + 1 + x)) replace_room (omega arith)) ∙ sym (row_run (i + 1 + x) (omega arith)) in
        let z : 4 + k * i + 0 ≡ 4 + k * i = omega arith in
        let new : fix_item o k i ≡ row =
        there i h ∙ ap (λ (a : ℕ). take k (drop a o)) (sym z) ∙ inside-write s (4 + k * i) row 0 k replace_room (omega arith) ∙ take_all k row (omega arith) in
        let y : 0 + i ≡ i = omega arith in
        let parts : c ≡ i + suc rest = omega arith in
        ap (λ (m : ℕ). span (fix_item (replaced k i row s) k) 0 m) (replaced-count ∙ parts)
        ∙ ap (λ (x : List ℕ). span (fix_item x k) 0 (i + suc rest)) replace_bytes
        ∙ span-split (fix_item o k) 0 i (suc rest)
        ∙ ap₂ (λ (a b : List (List ℕ)). a ++ b)
        (span-first (fix_item o k) (fix_item s k) i before ∙ sym (span-take (fix_item s k) i c (omega arith)))
        (ap (λ (a : ℕ). span (fix_item o k) a (suc rest)) y
        ∙ ap₂ (λ (x : List ℕ) (b : List (List ℕ)). x ∷ b) new (span_same (fix_item o k) (fix_item s k) (suc i) (i + 1) rest behind ∙ sym (span-behind (fix_item s k) i c) ∙ ap (λ (m : ℕ). drop m (rows_of k s)) (add-one i)))
        ∙ sym (set_split (rows_of k s) i row (omega (arith, span-length (fix_item s k) 0 c)))

  module _ (i : ℕ) (row : List ℕ) where
    -- past the last row there is none to replace
    pub replace_none : row_count s ≤ i → replaced k i row s ≡ s
    replace_none h = sym (replace_past k i row s refl h)

    -- whatever the place
    pub replace_rows : length row ≡ k → rows_of k (replaced k i row s) ≡ set (rows_of k s) i row
    replace_rows l =
        below_or_not i (row_count s) (rows_of k (replaced k i row s) ≡ set (rows_of k s) i row) (λ h. replaced-rows i row l h)
        (λ h. ap (rows_of k) (replace_none h) ∙ sym (set_out (rows_of k s) i row (omega (arith, span-length (fix_item s k) 0 (row_count s)))))

    -- whatever the row
    pub replace_table : is_table k n (replaced k i row s) ≡ true
    unfolding replaced
    replace_table = by (ltb i (row_count s) && eqb (length row) k) refl
      where
        by : (b : Bool) → ltb i (row_count s) && eqb (length row) k ≡ b → is_table k n (replaced k i row s) ≡ true
        by false e = ap (is_table k n) (rw e) ∙ t
        by true e =
            let (a, b) = (and-eq-true_iff (ltb i (row_count s)) (eqb (length row) k)).0 e in
            replaced-table i row (eqb-true (length row) k b) (ltb-true i (row_count s) a)

    pub replace_count : row_count (replaced k i row s) ≡ row_count s
    unfolding replaced
    replace_count = by (ltb i (row_count s) && eqb (length row) k) refl
      where
        by : (b : Bool) → ltb i (row_count s) && eqb (length row) k ≡ b → row_count (replaced k i row s) ≡ row_count s
        by false e = ap (λ (o : List ℕ). row_count o) (rw e)
        by true e =
            let (a, b) = (and-eq-true_iff (ltb i (row_count s)) (eqb (length row) k)).0 e in
            replaced-count i row (eqb-true (length row) k b) (ltb-true i (row_count s) a)

  -- ---- remove

  module _ (q : n < 2 ^ 32) (i : ℕ) (h : i < row_count s) where
    abbrev behind_row : List ℕ
    behind_row = take (4 + k * row_count s - (4 + k * i + k)) (drop (4 + k * i + k) s)

    behind-long : length behind_row ≡ 4 + k * row_count s - (4 + k * i + k)
    behind-long = let w = ends-within k h in length_part s (4 + k * i + k) (4 + k * row_count s - (4 + k * i + k)) (omega (arith, rows-room))

    remove-room : 4 + k * i + length behind_row ≤ length s
    remove-room = let w = ends-within k h in omega (arith, rows-room, behind-long)

    remove-fits : row_count s - 1 < 2 ^ 32
    remove-fits = omega (arith, rows_most)

    abbrev after-remove : List ℕ
    after-remove = splice (splice s (4 + k * i) behind_row) 0 (to_le 4 (row_count s - 1))

    remove-bytes : removed k i s ≡ after-remove
    remove-bytes =
        let a = put_long k s i behind_row remove-room in
        sym
        (remove-is k i s refl h rows-room refl
        (sym (put_yes (splice s (4 + k * i) behind_row) 0 (to_le 4 (row_count s - 1)) (omega (arith, table-length k n s t, length-to_le 4 (row_count s - 1))))))

    removed-long : length (removed k i s) ≡ length s
    removed-long = ap length remove-bytes ∙ counted-long k s i behind_row remove-room (row_count s - 1) remove-fits

    removed-word : word (removed k i s) 0 ≡ row_count s - 1
    removed-word = ap (λ (o : List ℕ). word o 0) remove-bytes ∙ counted-word k s i behind_row remove-room (row_count s - 1) remove-fits

    pub remove-count : row_count (removed k i s) ≡ row_count s - 1
    remove-count = count_with (removed k i s) (row_count s - 1) removed-long removed-word (omega (arith, rows_most))

    removed-table : is_table k n (removed k i s) ≡ true
    removed-table = table_with (removed k i s) (row_count s - 1) removed-long removed-word (omega (arith, rows_most))

    removed-rows : rows_of k (removed k i s) ≡ take i (rows_of k s) ++ drop (i + 1) (rows_of k s)
    removed-rows =
        let c = row_count s in
        let o = after-remove in
        let rest = c - (i + 1) in
        let there : (x : ℕ) → x < c - 1 → fix_item o k x ≡ take k (drop (4 + k * x) (splice s (4 + k * i) behind_row)) =
        λ x b. counted_row k s i behind_row remove-room (c - 1) remove-fits x b in
        let before : (x : ℕ) → x < i → fix_item o k x ≡ fix_item s k x =
        λ x b. there x (omega arith) ∙ put_before k s i behind_row remove-room x b ∙ sym (row_run x (omega arith)) in
        let behind : (x : ℕ) → x < rest → fix_item o k (0 + i + x) ≡ fix_item s k (i + 1 + x) =
        λ x b.
        let y : 0 + i + x ≡ i + x = omega arith in
        let d : k * (i + x) ≡ k * i + k * x = mul-add k i x in
        let d' : k * (i + 1 + x) ≡ k * (i + 1) + k * x = mul-add k (i + 1) x in
        let u = next_place k i in
        let z : 4 + k * (i + x) ≡ 4 + k * i + k * x = omega arith in
        let z' : 4 + k * i + k + k * x ≡ 4 + k * (i + 1 + x) = omega arith in
        let e : i + 1 + x < c = omega arith in
        let w : 4 + k * (i + 1 + x) + k ≤ 4 + k * c = ends-within k e in
        ap (fix_item o k) y
        ∙ there (i + x) (omega arith)
        ∙ ap (λ (a : ℕ). take k (drop a (splice s (4 + k * i) behind_row))) z
        ∙ inside-write s (4 + k * i) behind_row (k * x) k remove-room (omega (arith, behind-long))
        ∙ part-within s (4 + k * i + k) (4 + k * c - (4 + k * i + k)) (k * x) k (omega arith) (omega (arith, rows-room))
        ∙ ap (λ (a : ℕ). take k (drop a s)) z'
        ∙ sym (row_run (i + 1 + x) e) in
        let parts : c - 1 ≡ i + rest = omega arith in
        ap (λ (m : ℕ). span (fix_item (removed k i s) k) 0 m) (remove-count ∙ parts)
        ∙ ap (λ (x : List ℕ). span (fix_item x k) 0 (i + rest)) remove-bytes
        ∙ span-split (fix_item o k) 0 i rest
        ∙ ap₂ (λ (a b : List (List ℕ)). a ++ b)
        (span-first (fix_item o k) (fix_item s k) i before ∙ sym (span-take (fix_item s k) i c (omega arith)))
        (span_same (fix_item o k) (fix_item s k) (0 + i) (i + 1) rest behind ∙ sym (span-behind (fix_item s k) i c))

  module _ (q : n < 2 ^ 32) (i : ℕ) where
    -- past the last row there is none to remove
    pub remove-none : row_count s ≤ i → removed k i s ≡ s
    remove-none h = sym (remove_past k i s refl h)

    -- whatever the place
    pub remove-rows : rows_of k (removed k i s) ≡ take i (rows_of k s) ++ drop (i + 1) (rows_of k s)
    remove-rows =
        below_or_not i (row_count s) (rows_of k (removed k i s) ≡ take i (rows_of k s) ++ drop (i + 1) (rows_of k s)) (λ h. removed-rows q i h)
        (λ h.
        let l = span-length (fix_item s k) 0 (row_count s) in
        ap (rows_of k) (remove-none h)
        ∙ sym (append-nil (rows_of k s))
        ∙ ap₂ (λ (a b : List (List ℕ)). a ++ b) (sym (take_all i (rows_of k s) (omega arith))) (sym (drop_of_length-le (rows_of k s) {i = i + 1} (omega arith))))

    pub remove-table : is_table k n (removed k i s) ≡ true
    remove-table = below_or_not i (row_count s) (is_table k n (removed k i s) ≡ true) (λ h. removed-table q i h) (λ h. ap (is_table k n) (remove-none h) ∙ t)

-- ---- a row that is looked for

-- 0 for nothing, and the place and 1
answer : Option ℕ → ℕ
answer None = 0
answer (Some i) = suc i

-- of the rows f from i on, m of them: row j has the key, and none before it
pub record First (at : ℕ) (key : List ℕ) (f : ℕ → List ℕ) (i m j : ℕ) : Type 0 where
  pub from : i ≤ j
  pub within : j < i + m
  pub has : has_key at key (f j) ≡ true
  pub earlier : (x : ℕ) → i ≤ x → x < j → has_key at key (f x) ≡ false

passed : (at : ℕ) (key : List ℕ) (f : ℕ → List ℕ) (i j x : ℕ) → has_key at key (f i) ≡ false → ((y : ℕ) → suc i ≤ y → y < j → has_key at key (f y) ≡ false)
    → i ≤ x → x < j → has_key at key (f x) ≡ false
passed at key f i j x h r u v =
    below_or_not i x (has_key at key (f x) ≡ false) (λ l. r x (omega arith) v) (λ l. let y : x ≡ i = omega arith in ap (λ (z : ℕ). has_key at key (f z)) y ∙ h)

first-at : (at : ℕ) (key : List ℕ) (f : ℕ → List ℕ) (i m j : ℕ) → first_with at key i (span f i m) ≡ Some j → First at key f i m j
unfolding first_with span answer
first-at at key f i zero j e = absurd (let z : ◌≡◌ {A = ℕ} 0 (suc j) = ap answer e in omega arith)
first-at at key f i (suc m) j e = by (λ g. first-at at key f (suc i) m j g) (has_key at key (f i)) refl e
  where
    by : (first_with at key (suc i) (span f (suc i) m) ≡ Some j → First at key f (suc i) m j) → (b : Bool) → has_key at key (f i) ≡ b
        → cond b (Some i) (first_with at key (suc i) (span f (suc i) m)) ≡ Some j → First at key f i (suc m) j
    by r true h g =
        let z : suc i ≡ suc j = ap answer g in
        let y : i ≡ j = omega arith in
        record { from = omega arith; within = omega arith; has = ap (λ (x : ℕ). has_key at key (f x)) (sym y) ∙ h; earlier = λ x a b. absurd (omega arith) }
    by r false h g =
        let w = r g in
        let a = w.from in
        let b = w.within in
        record { from = omega arith; within = omega arith; has = w.has; earlier = λ x u v. passed at key f i j x h w.earlier u v }

pub none_has : (at : ℕ) (key : List ℕ) (f : ℕ → List ℕ) (i m : ℕ) → first_with at key i (span f i m) ≡ None → (x : ℕ) → i ≤ x → x < i + m → has_key at key (f x) ≡ false
unfolding first_with span answer
none_has at key f i zero e x u v = absurd (omega arith)
none_has at key f i (suc m) e x u v = by (λ g. none_has at key f (suc i) m g) (has_key at key (f i)) refl e
  where
    by : (first_with at key (suc i) (span f (suc i) m) ≡ None → (x : ℕ) → suc i ≤ x → x < suc i + m → has_key at key (f x) ≡ false) → (b : Bool) → has_key at key (f i) ≡ b
        → cond b (Some i) (first_with at key (suc i) (span f (suc i) m)) ≡ None → has_key at key (f x) ≡ false
    by r true h g = absurd (let z : ◌≡◌ {A = ℕ} (suc i) 0 = ap answer g in omega arith)
    by r false h g = passed at key f i (i + suc m) x h (λ y a b. r g y a (omega arith)) u v

-- Of any bytes, a table or not.
module _ (k at : ℕ) (key s : List ℕ) where
  module _ (i : ℕ) (e : find k at key s ≡ Some i) where
    pub found_first : First at key (row_at k s) 0 (row_count s) i
    unfolding find
    found_first = first-at at key (row_at k s) 0 (row_count s) i e

-- ---- zeros

abbrev zeros : ℕ → List ℕ
zeros m = replicate m 0

zeros-length : (m : ℕ) → length (zeros m) ≡ m
zeros-length m = length-replicate {A = ℕ} m 0

zeros-word : (m : ℕ) → word (zeros (4 + m)) 0 ≡ 0
unfolding word le
zeros-word m =
    num_some 4 (zeros (4 + m)) 0 (omega (arith, zeros-length (4 + m)))
    ∙ ap (λ (x : List ℕ). le (take 4 x)) (sym (replicate-append-replicate {A = ℕ} 4 m 0))
    ∙ ap le (take_at (zeros 4) (zeros m) 4 (zeros-length 4))

module _ (k n : ℕ) where
  pub is_table-zeros : is_table k n (replicate (4 + k * n) 0) ≡ true
  is_table-zeros = sym (table_is k n (zeros (4 + k * n)) (zeros-length (4 + k * n)) (sym (zeros-word (k * n))) (omega arith))

  pub zeros-rows : rows_of k (replicate (4 + k * n) 0) ≡ []
  unfolding span
  zeros-rows =
      let z : fix_count (zeros (4 + k * n)) ≡ 0 = omega (arith, fix_count_said (zeros (4 + k * n)), zeros-word (k * n)) in
      ap (span (fix_item (zeros (4 + k * n)) k) 0) z

-- ---- rows as bytes

-- of the rows from i on
items_back : (k : ℕ) (s z : List ℕ) (i : ℕ) (rows : List (List ℕ)) → All (λ row. length row ≡ k) rows → i + length rows ≤ word s 0 → drop (4 + k * i) s ≡ flatten rows ++ z
    → span (fix_item s k) i (length rows) ≡ rows
unfolding span flatten
items_back k s z i [] a n e = refl
items_back k s z i (row ∷ rows) a n e =
    let g : drop (4 + k * i) s ≡ row ++ (flatten rows ++ z) = e ∙ append_assoc row (flatten rows) z in
    let item : fix_item s k i ≡ row = item_run s k i (omega arith) ∙ ap (take k) g ∙ take_at row (flatten rows ++ z) k a.0 in
    let next : drop (4 + k * suc i) s ≡ flatten rows ++ z = sym (next_run s k i) ∙ ap (drop k) g ∙ drop_at row (flatten rows ++ z) k a.0 in
    ap₂ (λ (x : List ℕ) (l : List (List ℕ)). x ∷ l) item (items_back k s z (suc i) rows a.1 (omega arith) next)

flatten_length : (k : ℕ) (rows : List (List ℕ)) → All (λ row. length row ≡ k) rows → length (flatten rows) ≡ k * length rows
unfolding flatten
flatten_length k [] a = sym (mul-zero k)
flatten_length k (row ∷ rows) a =
    length-append row (flatten rows) ∙ ap₂ ◌+◌ a.0 (flatten_length k rows a.1) ∙ omega (arith, mul-suc k (length rows))

-- rows written are read, whatever bytes follow
pub rows_back : (k : ℕ) (rows : List (List ℕ)) (z : List ℕ) → 0 < k → length rows < 2 ^ 32 → All (λ row. length row ≡ k) rows → rows_of k (fix_list rows ++ z) ≡ rows
unfolding fix_list word
rows_back k rows z p h a =
    let C = to_le 4 (length rows) in
    let s = C ++ flatten rows ++ z in
    let l : length C ≡ 4 = length-to_le 4 (length rows) in
    let o : s ≡ C ++ (flatten rows ++ z) = append_assoc C (flatten rows) z in
    let ls : length s ≡ 4 + k * length rows + length z = ap length o ∙ length-append C (flatten rows ++ z) ∙ ap₂ ◌+◌ l (length-append (flatten rows) z ∙ ap (λ (m : ℕ). m + length z) (flatten_length k rows a)) ∙ omega arith in
    let w : word s 0 ≡ length rows = num_some 4 s 0 (omega arith) ∙ ap (λ (x : List ℕ). le (take 4 x)) o ∙ ap le (take_at C (flatten rows ++ z) 4 l) ∙ le-to_le 4 (length rows) h in
    let c : fix_count s ≡ length rows = fix_count-word s (omega (arith, rows-below k (length rows) p)) ∙ w in
    let y : 4 + k * 0 ≡ 4 = omega (arith, mul-zero k) in
    ap (span (fix_item s k) 0) c
    ∙ items_back k s z 0 rows a (omega arith) (ap (λ (m : ℕ). drop m s) y ∙ ap (drop 4) o ∙ drop_at C (flatten rows ++ z) 4 l)

-- m rows from row i on, as bytes
items_again : (k : ℕ) (s : List ℕ) (i m : ℕ) → i + m ≤ word s 0 → flatten (span (fix_item s k) i m) ≡ take (k * m) (drop (4 + k * i) s)
unfolding span flatten
items_again k s i zero h = sym (ap (λ (n : ℕ). take n (drop (4 + k * i) s)) (mul-zero k))
items_again k s i (suc m) h =
    let e : k * suc m ≡ k + k * m = omega (arith, mul-suc k m) in
    ap₂ (λ (x y : List ℕ). x ++ y) (item_run s k i (omega arith)) (items_again k s (suc i) m (omega arith) ∙ ap (take (k * m)) (sym (next_run s k i)))
    ∙ sym (ap (λ (n : ℕ). take n (drop (4 + k * i) s)) e ∙ take-add k (k * m) (drop (4 + k * i) s))

-- a table is its rows, written, and the bytes behind them
pub rows_again : (k n : ℕ) (s : List ℕ) → 0 < k → is_table k n s ≡ true → AllBytes s → fix_list (rows_of k s) ++ drop (4 + k * row_count s) s ≡ s
unfolding fix_list word
rows_again k n s p t b =
    let c = row_count s in
    let ls = table-length k n s t in
    let w = count_word k n s p t in
    let l : length (take 4 s) ≡ 4 = length-take-le 4 s (omega arith) in
    let first : to_le 4 (length (rows_of k s)) ≡ take 4 s =
    ap (to_le 4) (span-length (fix_item s k) 0 c ∙ w ∙ num_some 4 s 0 (omega arith))
    ∙ ap (λ (m : ℕ). to_le m (le (take 4 s))) (sym l)
    ∙ to_le-le (take 4 s) (bytes_take 4 s b) in
    let y : 4 + k * 0 ≡ 4 = omega (arith, mul-zero k) in
    let rest : flatten (rows_of k s) ≡ take (k * c) (drop 4 s) = items_again k s 0 c (omega arith) ∙ ap (λ (m : ℕ). take (k * c) (drop m s)) y in
    ap (λ (x : List ℕ). x ++ drop (4 + k * c) s) (ap₂ (λ (x y : List ℕ). x ++ y) first rest ∙ sym (take-add 4 (k * c) s))
    ∙ take-append-drop (4 + k * c) s
