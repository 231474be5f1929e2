-- What is read by index is what the schema's value says: the items of what is decoded are the parts of its value, written.
use mathlib.Core.Path.{◌≡◌, refl, sym, ap, ap₂, ◌∙◌}
use Prim.Native.Nat.{ℕ, zero, suc, ◌+◌, ◌-◌, ◌*◌, ◌≤◌}
use native.Mathlib.Nat.{mul-suc, mul-le-mul_left}
use native.Mathlib.Omega.{arith}
use mathlib.Core.List.{List, [], ◌∷◌, map, flatten}
use mathlib.Core.Bool.{Bool, true, false, cond, not}
use mathlib.Core.Option.{Option, none, some, bind-eq-some_iff, none-ne-some, some-injective}
use borrow.Author.Tests.{lt-ltb, eq-eqb}
use lib.ListN.{length, take, drop, length-drop}
use lib.Seq.{drop-drop, take_all}
use lib.Dec.{T, eqb→eq, ltb→lt}
use mir.Facts.{and_yes}
use Rattle.arithmetic.specs.LittleEndian.{le, AllBytes}
use Rattle.molecule.specs.Partial.{each, All}
use Rattle.molecule.specs.Items.{split}
use Rattle.molecule.specs.Molecule.{Ty, byte, array, struct, fixvec, dynvec, table, option, Fields, end, ◌&◌, Value, Values, size, encode, chunks, decode, decodes}
use Rattle.molecule.proofs.Valid.{fixed, has_bytes, valid}
use Rattle.molecule.specs.Layout.{part, word, span, splits_into, has_items, field_of, item_count, item_of, items_of, fix_count, fix_item, fix_items, content, entry_of, entries_of}
use Rattle.molecule.proofs.PartialLaws.{only-some, both_some, map_each}
use Rattle.molecule.proofs.ItemsLaws.{split-bytes, bytes_drop}
use Rattle.molecule.proofs.ChunksLaws.{bytes-chunks, chunks_long, flatten_chunks}
use Rattle.molecule.proofs.MoleculeLaws.{fixed_valid, one_byte_lem, fixvec_read, encode-decode}
use Rattle.molecule.proofs.Offsets.{offsets_ok}
use Rattle.molecule.proofs.LayoutLaws.{fix_count-word}
use Rattle.molecule.proofs.HeaderLaws.{word-is, split-is, split_n, count}

-- ---- what is split

pub split-items : (s : List ℕ) (xs : List (List ℕ)) → split s ≡ some xs → items_of s ≡ xs
split-items s xs e = by (offsets_ok s (item_count s)) (sym (split-is s) ∙ e)
  where
    by : (b : Bool) → cond b (some (items_of s)) none ≡ some xs → items_of s ≡ xs
    by true q = some-injective _ _ q
    by false q = absurd (none-ne-some xs q)

pub split_fields : (s : List ℕ) (n : ℕ) (xs : List (List ℕ)) → length xs ≡ n → split s ≡ some xs → span (field_of s n) 0 n ≡ xs
unfolding has_items splits_into
split_fields s n xs l e =
    let h : has_items s n ≡ true = ap (λ (o : Option (List (List ℕ))). splits_into o n) e ∙ eq-eqb _ _ l in
    some-injective _ _ (sym (split_n s n h) ∙ e)

length-decodes : (ts : Fields) (xs : List (List ℕ)) (v : Values ts) → decodes ts xs ≡ some v → length xs ≡ count ts
unfolding decode count
length-decodes end [] v e = refl
length-decodes end (x ∷ xs) v e = absurd (none-ne-some v e)
length-decodes (t & ts) [] v e = absurd (none-ne-some v e)
length-decodes (t & ts) (x ∷ xs) v e = let b = both_some _ _ _ e in ap suc (length-decodes ts xs b.right b.is_right)

-- the fields of a table that is read are read
pub table-decodes : (ts : Fields) (s : List ℕ) (v : Values ts) → decode (table ts) s ≡ some v → decodes ts (span (field_of s (count ts)) 0 (count ts)) ≡ some v
unfolding decode
table-decodes ts s v e =
    let c = (bind-eq-some_iff _ _).0 e in
    let f : span (field_of s (count ts)) 0 (count ts) ≡ c.0 = split_fields s (count ts) c.0 (length-decodes ts c.0 v c.2) c.1 in
    ap (decodes ts) f ∙ c.2

-- the first field, and the rest
module _ (t : Ty) (ts : Fields) (x : List ℕ) (xs : List (List ℕ)) (v : Values (t & ts)) (e : decodes (t & ts) (x ∷ xs) ≡ some v) where
  pub first_field : decode t x ≡ some v.0
  unfolding decode
  first_field = let b = both_some _ (decode t x) (decodes ts xs) e in b.is-left ∙ ap (λ (w : Values (t & ts)). some w.0) b.is-both

  pub later_fields : decodes ts xs ≡ some v.1
  unfolding decode
  later_fields = let b = both_some _ (decode t x) (decodes ts xs) e in b.is_right ∙ ap (λ (w : Values (t & ts)). some w.1) b.is-both

-- ---- the parts are those of the value, written

-- items that are each read
each_decoded : (t : Ty) → T (valid t) → (xs : List (List ℕ)) (v : List (Value t)) → All AllBytes xs → each (λ x. decode t x) xs ≡ some v
    → xs ≡ map (λ x. encode t x) v
each_decoded t ok xs v b e = sym (map_each (λ x. decode t x) AllBytes (λ x. encode t x) (λ x w b e. encode-decode t ok x w b e) xs v b e)

pub dynvec_decoded : (t : Ty) (s : List ℕ) (v : List (Value t)) → decode (dynvec t) s ≡ some v → AllBytes s → T (valid (dynvec t))
    → items_of s ≡ map (λ x. encode t x) v
unfolding decode valid
dynvec_decoded t s v e b ok =
    let c = (bind-eq-some_iff _ _).0 e in
    let ok' = (and_yes (not (fixed t)) (valid t) ok).1 in
    split-items s c.0 c.1 ∙ each_decoded t ok' c.0 v (split-bytes s c.0 b c.1) c.2

-- the items of a fixvec by index are the pieces behind its count
span-chunks : (k : ℕ) (s : List ℕ) (m i : ℕ) → i + m ≤ word s 0 → span (fix_item s k) i m ≡ chunks m k (drop (4 + k * i) s)
unfolding span chunks fix_item part
span-chunks k s zero i e = refl
span-chunks k s (suc m) i e =
    let z : 4 + k * i + k - (4 + k * i) ≡ k = omega arith in
    let y : 4 + k * i + k ≡ 4 + k * suc i = omega (arith, mul-suc k i) in
    ap₂ ◌∷◌ (rw (lt-ltb i (word s 0) (omega arith), z))
    (span-chunks k s m (suc i) (omega arith) ∙ ap (chunks m k) (ap (λ (j : ℕ). drop j s) (sym y) ∙ sym (drop-drop k (4 + k * i) s)))

-- a fixvec that is read has no more items than bytes
pub items-few : (w k : ℕ) {l : ℕ} → 1 ≤ k → l ≡ 4 + w * k → w ≤ l
items-few w k h e = omega (arith, mul-le-mul_left w h)

pub has-size : (t : Ty) → T (fixed t) → T (has_bytes t) → 1 ≤ size t
unfolding fixed has_bytes size
has-size byte f h = omega arith
has-size (array t n) f h = ltb→lt _ _ h
has-size (struct ts) f h = ltb→lt _ _ h
has-size (fixvec t) f h = absurd f
has-size (dynvec t) f h = absurd f
has-size (table ts) f h = absurd f
has-size (option t) f h = absurd f

pub fix_chunks : (k : ℕ) (s : List ℕ) → 4 ≤ length s → le (take 4 s) ≤ length s → fix_items k s ≡ chunks (le (take 4 s)) k (drop 4 s)
fix_chunks k s h few =
    let w : le (take 4 s) ≡ word s 0 = word-is s 0 (omega arith) in
    let n : fix_count s ≡ word s 0 = fix_count-word s (omega arith) in
    let z : 4 + k * 0 ≡ 4 = omega arith in
    span-chunks k s (fix_count s) 0 (omega arith)
    ∙ ap₂ (λ (n j : ℕ). chunks n k (drop j s)) (n ∙ sym w) z

pub fixvec_decoded : (t : Ty) (s : List ℕ) (v : List (Value t)) → decode (fixvec t) s ≡ some v → AllBytes s → T (valid (fixvec t))
    → fix_items (size t) s ≡ map (λ x. encode t x) v
unfolding valid
fixvec_decoded t s v e b ok =
    let r = fixvec_read t s v e in
    let sized = and_yes (fixed t) (has_bytes t) ok in
    let ok' = fixed_valid t sized.0 in
    fix_chunks (size t) s r.four (items-few (le (take 4 s)) (size t) (has-size t sized.0 sized.1) r.long)
    ∙ each_decoded t ok' _ v (bytes-chunks (le (take 4 s)) (size t) (drop 4 s) (bytes_drop 4 s b)) r.items

-- ---- bytes

bytes_again : (v : List ℕ) → flatten (map (λ x. encode byte x) v) ≡ v
unfolding encode flatten
bytes_again [] = refl
bytes_again (x ∷ v) = ap (λ (r : List ℕ). x ∷ r) (bytes_again v)

pub encode-array-byte : (n : ℕ) (v : List ℕ) → encode (array byte n) v ≡ v
unfolding encode
encode-array-byte n v = bytes_again v

-- bytes that are read one by one
one_by_one : (n : ℕ) (s v : List ℕ) → length s ≡ n * 1 → each (λ x. decode byte x) (chunks n 1 s) ≡ some v → s ≡ v
unfolding decode encode
one_by_one n s v l e =
    sym (flatten_chunks n 1 s l)
    ∙ ap flatten (sym (map_each (λ x. decode byte x) (λ (x : List ℕ). length x ≡ 1) (λ x. encode byte x) (λ x w _ e. one_byte_lem x w e) _ v (chunks_long n 1 s l) e))
    ∙ bytes_again v

pub bytes_decoded : (n : ℕ) (s v : List ℕ) → decode (array byte n) s ≡ some v → s ≡ v
unfolding decode size
bytes_decoded n s v e = let c = only-some _ _ e in one_by_one n s v (eqb→eq _ _ c.0) c.1

pub content_decoded : (s v : List ℕ) → decode (fixvec byte) s ≡ some v → content s ≡ v
unfolding content part size
content_decoded s v e =
    let r = fixvec_read byte s v e in
    let l : length (drop 4 s) ≡ le (take 4 s) * 1 = omega (arith, length-drop 4 s, r.long) in
    take_all (length s - 4) (drop 4 s) (omega (arith, length-drop 4 s)) ∙ one_by_one (le (take 4 s)) (drop 4 s) v l r.items

entries_are : (s : List ℕ) (i k : ℕ) (v : List (List ℕ)) → each (λ x. decode (fixvec byte) x) (span (item_of s) i k) ≡ some v → span (entry_of s) i k ≡ v
unfolding each span entry_of
entries_are s i zero v e = some-injective _ _ e
entries_are s i (suc k) v e =
    let b = both_some _ _ _ e in
    ap₂ ◌∷◌ (content_decoded (item_of s i) b.left b.is-left) (entries_are s (suc i) k b.right b.is_right) ∙ b.is-both

pub entries_decoded : (s : List ℕ) (v : List (List ℕ)) → decode (dynvec (fixvec byte)) s ≡ some v → entries_of s ≡ v
unfolding decode
entries_decoded s v e =
    let c = (bind-eq-some_iff _ _).0 e in
    entries_are s 0 (item_count s) v (ap (each (λ x. decode (fixvec byte) x)) (split-items s c.0 c.1) ∙ c.2)
