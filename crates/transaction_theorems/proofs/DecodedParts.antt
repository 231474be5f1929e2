-- The parts of a decoded table or struct, and the items of a decoded list, of any type: each is the encoding of its part of the value, and is
-- read as that part.
use mathlib.Core.Path.{◌≡◌, refl, sym, ap, ap₂, ◌∙◌}
use Prim.Native.Nat.{ℕ, zero, suc, ◌+◌, ◌*◌, ◌≤◌, ◌<◌}
use mathlib.Core.List.{List, [], ◌∷◌, map}
use mathlib.Core.Option.{Option, none, some, bind-eq-some_iff, none-ne-some}
use native.Mathlib.Decide.{dec_lt}
use native.Mathlib.Omega.{arith}
use lib.ListN.{length, take, get_or, get_or-eq_default}
use lib.Seq.{take_all}
use lib.Dec.{T, eqb→eq}
use mir.Facts.{and_yes}
use Rattle.arithmetic.specs.LittleEndian.{le, AllBytes, num_at}
use Rattle.arithmetic.proofs.LittleEndianLaws.{num_some}
use Rattle.molecule.specs.Partial.{each, All}
use Rattle.molecule.specs.Molecule.{Ty, byte, array, struct, fixvec, dynvec, table, Fields, end, ◌&◌, Value, Values, size, sizes, encode, pieces, decode, decodes}
use Rattle.molecule.proofs.Valid.{fixed, has_bytes, valid, all_valid}
use Rattle.molecule.specs.Layout.{span, field_of, item_count, item_of, fix_count, fix_item, entry_of}
use Rattle.molecule.proofs.PartialLaws.{only-some, both_some}
use Rattle.molecule.proofs.ChunksLaws.{bytes-pieces}
use Rattle.molecule.proofs.MoleculeLaws.{all_fixed_valid, one_byte_lem, fixvec_read, encode-decode}
use Rattle.molecule.proofs.Offsets.{span-length}
use Rattle.molecule.proofs.HeaderLaws.{count}
use Rattle.molecule.proofs.LayoutLaws.{bytes_field, item_past, fix_past, entry_past}
use Rattle.molecule.proofs.DecodedLaws.{split-items, table-decodes, first_field, later_fields, items-few, has-size, fix_chunks, fixvec_decoded, dynvec_decoded, entries_decoded, bytes_decoded, encode-array-byte}
use Rattle.transaction_theorems.proofs.Claims.{Encoding, Listed, Items}

-- ---- the parts of a value

-- one string for each field, each the encoding of the field's value
abbrev pub Parts : (ts : Fields) → List (List ℕ) → Values ts → Type 0
Parts end xs v = Unit {0}
Parts (t & ts) [] v = ⊥
Parts (t & ts) (x ∷ xs) v = Encoding t x v.0 × Parts ts xs v.1

pub parts : (ts : Fields) → T (all_valid ts) → (xs : List (List ℕ)) (v : Values ts) → All AllBytes xs → decodes ts xs ≡ some v → Parts ts xs v
unfolding valid
parts end ok xs v b e = tt
parts (t & ts) ok [] v b e = absurd (none-ne-some v (unfold decode in e))
parts (t & ts) ok (x ∷ xs) v b e =
    let oks = and_yes (valid t) (all_valid ts) ok in
    let f : decode t x ≡ some v.0 = first_field t ts x xs v e in
    (record { written = sym (encode-decode t oks.0 x v.0 b.0 f); value = f }, parts ts oks.1 xs v.1 b.1 (later_fields t ts x xs v e))

pub bytes-item : (s : List ℕ) (i : ℕ) → AllBytes s → AllBytes (item_of s i)
unfolding item_of
bytes-item s i b = bytes_field s (item_count s) i b

all_span : {A : Type 0} (P : A → Type 0) (f : ℕ → A) (i k : ℕ) → ((j : ℕ) → P (f j)) → All P (span f i k)
unfolding span
all_span P f i zero h = tt
all_span P f i (suc k) h = (h i, all_span P f (suc i) k h)

-- the fields of a table, and the pieces of a struct
pub table-parts : (ts : Fields) → T (valid (table ts)) → (s : List ℕ) → AllBytes s → (v : Values ts) → decode (table ts) s ≡ some v
    → Parts ts (span (field_of s (count ts)) 0 (count ts)) v
unfolding valid
table-parts ts ok s b v e = parts ts ok _ v (all_span AllBytes (field_of s (count ts)) 0 (count ts) (λ i. bytes_field s (count ts) i b)) (table-decodes ts s v e)

pub struct_parts : (ts : Fields) → T (valid (struct ts)) → (s : List ℕ) → AllBytes s → (v : Values ts) → decode (struct ts) s ≡ some v → Parts ts (pieces ts s) v
unfolding valid decode
struct_parts ts ok s b v e = parts ts (all_fixed_valid ts ok) (pieces ts s) v (bytes-pieces ts s b) (only-some _ _ e).1

pub struct-length : (ts : Fields) (s : List ℕ) (v : Values ts) → decode (struct ts) s ≡ some v → length s ≡ sizes ts
unfolding decode
struct-length ts s v e = eqb→eq _ _ (only-some _ _ e).0

-- ---- numbers

pub number : (k : ℕ) (x v : List ℕ) → decode (array byte k) x ≡ some v → num_at k x 0 ≡ le v
unfolding decode size
number k x v e =
    let l : length x ≡ k * 1 = eqb→eq _ _ (only-some _ _ e).0 in
    num_some k x 0 (omega arith) ∙ ap le (take_all k x (omega arith) ∙ bytes_decoded k x v e)

pub one_number : (x : List ℕ) (v : ℕ) → decode byte x ≡ some v → get_or x 0 0 ≡ v
unfolding decode
one_number x v e = ap (λ (l : List ℕ). get_or l 0 0) (sym (one_byte_lem x v e))

-- ---- the items of a list

get_or-span : {A : Type 0} (f : ℕ → A) (j k : ℕ) (d : A) (i : ℕ) → i < k → get_or (span f j k) i d ≡ f (j + i)
unfolding span
get_or-span f j zero d i h = absurd (omega arith)
get_or-span f j (suc k) d zero h = let z : j ≡ j + 0 = omega arith in ap f z
get_or-span f j (suc k) d (suc i) h = let z : suc j + i ≡ j + suc i = omega arith in get_or-span f (suc j) k d i (omega arith) ∙ ap f z

pub listed : {A : Type 0} (empty : A) (n : ℕ) (item : ℕ → A) (xs : List A) → ((i : ℕ) → n ≤ i → item i ≡ empty) → span item 0 n ≡ xs → Listed empty n item xs
listed empty n item xs past e =
    let l : length xs ≡ n = ap length (sym e) ∙ span-length item 0 n in
    record { count = sym l; at = λ i. at i l }
  where
    at : (i : ℕ) → length xs ≡ n → item i ≡ get_or xs i empty
    at i l =
        elim (dec_lt i n) [
          | yes h ↦ let z : 0 + i ≡ i = omega arith in sym (ap (λ (ys : List _). get_or ys i empty) (sym e) ∙ get_or-span item 0 n empty i h ∙ ap item z)
          | no h ↦ past i (omega arith) ∙ sym (get_or-eq_default xs empty (omega arith))
        ]

-- what each takes an item to
each_at : {A B : Type 0} (f : A → Option B) (item : ℕ → A) (j k : ℕ) (v : List B) → each f (span item j k) ≡ some v
    → (i : ℕ) → i < k → f (item (j + i)) ≡ get_or (map some v) i none
unfolding each span
each_at f item j zero v e i h = absurd (omega arith)
each_at f item j (suc k) v e zero h =
    let c = both_some _ _ _ e in
    let z : j + 0 ≡ j = omega arith in
    ap (λ (m : ℕ). f (item m)) z ∙ c.is-left ∙ ap (λ (w : List _). get_or (map some w) 0 none) c.is-both
each_at f item j (suc k) v e (suc i) h =
    let c = both_some _ _ _ e in
    let z : j + suc i ≡ suc j + i = omega arith in
    ap (λ (m : ℕ). f (item m)) z
    ∙ each_at f item (suc j) k c.right c.is_right i (omega arith)
    ∙ ap (λ (w : List _). get_or (map some w) (suc i) none) c.is-both

items : (t : Ty) (n : ℕ) (item : ℕ → List ℕ) (v : List (Value t)) → ((i : ℕ) → n ≤ i → item i ≡ [])
    → span item 0 n ≡ map (λ x. encode t x) v → each (λ x. decode t x) (span item 0 n) ≡ some v → Items t n item v
items t n item v past e d = record {
  strings = listed [] n item (map (λ x. encode t x) v) past e;
  value = λ i h. let z : i ≡ 0 + i = omega arith in ap (λ (m : ℕ). decode t (item m)) z ∙ each_at (λ x. decode t x) item 0 n v d i h;
}

pub fixvec-items : (t : Ty) (k : ℕ) → size t ≡ k → T (valid (fixvec t)) → (s : List ℕ) → AllBytes s → (v : List (Value t)) → decode (fixvec t) s ≡ some v
    → Items t (fix_count s) (fix_item s k) v
fixvec-items t k z ok s b v e =
    let r = fixvec_read t s v e in
    let sized = and_yes (fixed t) (has_bytes t) (unfold valid in ok) in
    let x = fix_chunks (size t) s r.four (items-few (le (take 4 s)) (size t) (has-size t sized.0 sized.1) r.long) in
    let y : Items t (fix_count s) (fix_item s (size t)) v =
    items t (fix_count s) (fix_item s (size t)) v (λ i h. fix_past s (size t) i h) (fixvec_decoded t s v e b ok) (ap (each (λ x. decode t x)) x ∙ r.items) in
    rw z at y

pub dynvec-items : (t : Ty) → T (valid (dynvec t)) → (s : List ℕ) → AllBytes s → (v : List (Value t)) → decode (dynvec t) s ≡ some v
    → Items t (item_count s) (item_of s) v
unfolding decode
dynvec-items t ok s b v e =
    let c = (bind-eq-some_iff _ _).0 e in
    items t (item_count s) (item_of s) v (λ i h. item_past s i h) (dynvec_decoded t s v e b ok)
    (ap (each (λ x. decode t x)) (split-items s c.0 c.1) ∙ c.2)

pub entries : (s : List ℕ) (v : List (List ℕ)) → decode (dynvec (fixvec byte)) s ≡ some v → Listed [] (item_count s) (entry_of s) v
entries s v e = listed [] (item_count s) (entry_of s) v (λ i h. entry_past s i h) (entries_decoded s v e)

-- strings of k bytes are their own encodings
pub encode_arrays : (k : ℕ) (v : List (List ℕ)) → map (λ x. encode (array byte k) x) v ≡ v
encode_arrays k [] = refl
encode_arrays k (x ∷ v) = ap₂ ◌∷◌ (encode-array-byte k x) (encode_arrays k v)
