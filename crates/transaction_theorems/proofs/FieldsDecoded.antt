-- What the accessors give are the fields of the decoded value: one theorem for each kind of string (proofs/Claims.antt).
use mathlib.Core.Path.{◌≡◌, refl, sym, ap, ap₂, ◌∙◌}
use Prim.Native.Nat.{ℕ, zero, suc, ◌<◌}
use mathlib.Core.List.{List, [], ◌∷◌, map}
use mathlib.Core.Bool.{cond}
use mathlib.Core.Option
use mathlib.Core.Option.{Option, none, some, map-eq-some_iff, none-ne-some, some-injective}
use native.Mathlib.Decide.{dec_lt}
use native.Mathlib.Omega.{arith}
use borrow.Author.Tests.{ne_eqb}
use lib.ListN.{length, drop, get_or, length-map, get_or-eq_default}
use lib.Seq.{get_or-take, get_or-drop}
use lib.Dec.{T, eqb}
use Rattle.arithmetic.specs.LittleEndian.{le, AllBytes}
use Rattle.arithmetic.proofs.LittleEndianLaws.{num_some}
use Rattle.molecule.specs.Partial.{only, there}
use Rattle.molecule.specs.Molecule.{Ty, byte, fixvec, dynvec, table, option, end, ◌&◌, Value, size, pieces, encode, decode, readable}
use Rattle.molecule.proofs.Valid.{fixed, has_bytes, valid}
use Rattle.molecule.specs.Layout.{part, span, field_of, item_count, item_of, fix_count, fix_item, entry_of}
use Rattle.molecule.proofs.LayoutLaws.{bytes_field, item_past}
use Rattle.molecule.proofs.HeaderLaws.{count}
use Rattle.molecule.proofs.DecodedLaws.{content_decoded, entries_decoded, bytes_decoded, fixvec_decoded, dynvec_decoded}
use Rattle.transaction.specs.Ckb.{Uint32, Uint64, Byte32, Bytes, OutPoint, OutPoints, CellDep, CellDeps, CellInput, Script, CellOutput, RawTransaction, Transaction, TokenCell, TokenCells, Record, Records}
use Rattle.transaction.specs.Tx.{raw_field, witnesses_of, tx_at, read_tx, args_of, capacity_of, lock_of, type_of, previous_output_of, first_of, data_of}
use Rattle.transaction.proofs.FieldLaws.{bytes_raw}
use Rattle.transaction_theorems.proofs.Claims.{Decoded, Encoding, OutPointFields, InputFields, CellDepFields, ScriptFields, OutputFields, CellFields, Optional, Listed, Items, record_at, value_record, value_tx, TransactionFields, TransactionParts}
use Rattle.transaction_theorems.proofs.DecodedParts.{Parts, table-parts, struct_parts, struct-length, number, one_number, fixvec-items, dynvec-items, entries, encode_arrays, bytes-item}

-- ---- structs

pub out-point_fields : Decoded OutPoint OutPointFields
unfolding valid fixed size pieces part
out-point_fields p b v e =
    let l : length p ≡ 36 = struct-length (Byte32 & Uint32 & end) p v e in
    let c = struct_parts (Byte32 & Uint32 & end) tt p b v e in
    record {
      tx_hash = bytes_decoded 32 _ v.0 c.0.value;
      index = num_some 4 p 32 (omega arith) ∙ ap le (bytes_decoded 4 _ v.1.0 c.1.0.value);
    }

pub input_fields : Decoded CellInput InputFields
unfolding valid fixed size pieces previous_output_of part
input_fields i b v e =
    let l : length i ≡ 44 = struct-length (Uint64 & OutPoint & end) i v e in
    let c = struct_parts (Uint64 & OutPoint & end) tt i b v e in
    record { since = num_some 8 i 0 (omega arith) ∙ ap le (bytes_decoded 8 _ v.0 c.0.value); previous_output = c.1.0 }

pub cell-dep_fields : Decoded CellDep CellDepFields
unfolding valid fixed size pieces part
cell-dep_fields d b v e =
    let c = struct_parts (OutPoint & byte & end) tt d b v e in
    record {
      out_point = c.0;
      dep_type = sym (get_or-drop 36 d 0 0) ∙ sym (get_or-take 1 (drop 36 d) 0 0 (omega arith)) ∙ one_number _ v.1.0 c.1.0.value;
    }

-- ---- tables

pub script_fields : Decoded Script ScriptFields
unfolding valid fixed has_bytes count span args_of
script_fields s b v e =
    let c = table-parts (Byte32 & byte & Bytes & end) tt s b v e in
    record {
      code_hash = bytes_decoded 32 _ v.0 c.0.value;
      hash_type = one_number _ v.1.0 c.1.0.value;
      args = content_decoded _ v.1.1.0 c.1.1.0.value;
    }

pub output_fields : Decoded CellOutput OutputFields
unfolding valid fixed has_bytes count span capacity_of lock_of type_of
output_fields o b v e =
    let c = table-parts (Uint64 & Script & option Script & end) tt o b v e in
    record { capacity = number 8 _ v.0 c.0.value; lock = c.1.0; type_script = c.1.1.0 }

cell_fields : (t : Ty) → T (valid (table (t & Bytes & end))) → Decoded (table (t & Bytes & end)) (CellFields t)
unfolding count span first_of data_of
cell_fields t ok s b v e =
    let c = table-parts (t & Bytes & end) ok s b v e in
    record { first = c.0; content = content_decoded _ v.1.0 c.1.0.value }

pub record_fields : Decoded Record (CellFields CellOutput)
unfolding valid fixed has_bytes
record_fields = cell_fields CellOutput tt

pub token-cell_fields : Decoded TokenCell (CellFields OutPoint)
unfolding valid fixed has_bytes
token-cell_fields = cell_fields OutPoint tt

-- ---- what may be missing

optional : (t : Ty) (P : List ℕ → Value t → Type 0) → Decoded t P → Decoded (option t) (Optional P)
unfolding decode
optional t P h [] b none e = refl
optional t P h [] b (some v) e = absurd (none-ne-some v (some-injective _ _ e))
optional t P h (x ∷ s) b none e = let m = (map-eq-some_iff some (decode t (x ∷ s))).0 e in absurd (none-ne-some m.0 (sym m.2))
optional t P h (x ∷ s) b (some v) e =
    let m = (map-eq-some_iff some (decode t (x ∷ s))).0 e in
    (omega arith, h (x ∷ s) b v (m.1 ∙ m.2))

pub optional_script : Decoded (option Script) (Optional ScriptFields)
optional_script = optional Script ScriptFields script_fields

pub optional_record : Decoded (option Record) (Optional (CellFields CellOutput))
optional_record = optional Record (CellFields CellOutput) record_fields

-- ---- lists

pub out-points-items : Decoded OutPoints (λ s v. Items OutPoint (fix_count s) (fix_item s 36) v)
unfolding valid fixed has_bytes size
out-points-items = fixvec-items OutPoint 36 refl tt

pub cell-deps-items : Decoded CellDeps (λ s v. Items CellDep (fix_count s) (fix_item s 37) v)
unfolding valid fixed has_bytes size
cell-deps-items = fixvec-items CellDep 37 refl tt

pub inputs-items : Decoded (fixvec CellInput) (λ s v. Items CellInput (fix_count s) (fix_item s 44) v)
unfolding valid fixed has_bytes size
inputs-items = fixvec-items CellInput 44 refl tt

pub header-deps-items : Decoded (fixvec Byte32) (λ s v. Listed [] (fix_count s) (fix_item s 32) v)
unfolding valid fixed has_bytes size
header-deps-items s b v e = rw (encode_arrays 32 v) at (fixvec-items Byte32 32 refl tt s b v e).strings

pub outputs-items : Decoded (dynvec CellOutput) (λ s v. Items CellOutput (item_count s) (item_of s) v)
unfolding valid fixed has_bytes
outputs-items = dynvec-items CellOutput tt

pub token-cells-items : Decoded TokenCells (λ s v. Items TokenCell (item_count s) (item_of s) v)
unfolding valid fixed has_bytes
token-cells-items = dynvec-items TokenCell tt

pub byte_strings : Decoded (dynvec Bytes) (λ s v. Listed [] (item_count s) (entry_of s) v)
byte_strings s b v e = entries s v e

-- ---- a list of records

-- the i-th of a list, as it is and as g takes it
record Place {A B : Type 0} (g : A → Option B) (v : List A) (i : ℕ) : Type 0 where
  pub is : A
  pub here : get_or (map some v) i none ≡ some is
  pub image : get_or (map g v) i none ≡ g is

place : {A B : Type 0} (g : A → Option B) (v : List A) (i : ℕ) → i < length v → Place g v i
place g [] i h = absurd (omega arith)
place g (x ∷ v) zero h = record { is = x; here = refl; image = refl }
place g (x ∷ v) (suc i) h = let p = place g v i (omega arith) in record { is = p.is; here = p.here; image = p.image }

one_record : (x : List ℕ) (w : Value (option Record)) → Optional (CellFields CellOutput) x w
    → cond (eqb (length x) 0) none (some (first_of x, data_of x)) ≡ value_record w
one_record x none h = rw h
one_record x (some v) h =
    let more : length x ≡ 0 → ⊥ = λ e. omega (arith, h.0) in
    rw (ne_eqb (length x) 0 more) (ap₂ (λ (o d : List ℕ). some (o, d)) h.1.first.written h.1.content)

pub records-items : Decoded Records (λ s v. Listed none (item_count s) (record_at s) (map value_record v))
unfolding valid fixed has_bytes
records-items s b v e =
    let y = dynvec-items (option Record) tt s b v e in
    let n : item_count s ≡ length v = y.strings.count ∙ length-map v (λ x. encode (option Record) x) in
    record { count = n ∙ sym (length-map v value_record); at = λ i. at n y i }
  where
    at : item_count s ≡ length v → Items (option Record) (item_count s) (item_of s) v → (i : ℕ) → record_at s i ≡ get_or (map value_record v) i none
    at n y i =
        elim (dec_lt i (item_count s)) [
          | yes h ↦
              let p = place value_record v i (omega arith) in
              one_record (item_of s i) p.is (optional_record (item_of s i) (bytes-item s i b) p.is (y.value i h ∙ p.here)) ∙ sym p.image
          | no h ↦
              rw (item_past s i (omega arith)) (sym (get_or-eq_default (map value_record v) none (omega (arith, length-map v value_record))))
        ]

-- ---- a transaction

module _ (s : List ℕ) (b : AllBytes s) (v : Value Transaction) (e : decode Transaction s ≡ some v) where
  raw_bytes_lem : (i : ℕ) → AllBytes (raw_field s i)
  raw_bytes_lem i = bytes_raw s i b

  outer : Encoding RawTransaction (field_of s 2 0) v.0 × Encoding (dynvec Bytes) (witnesses_of s) v.1.0
  unfolding valid fixed has_bytes size count span witnesses_of
  outer = let c = table-parts (RawTransaction & dynvec Bytes & end) tt s b v e in (c.0, c.1.0)

  raw : Parts (Uint32 & CellDeps & fixvec Byte32 & fixvec CellInput & dynvec CellOutput & dynvec Bytes & end)
      (raw_field s 0 ∷ raw_field s 1 ∷ raw_field s 2 ∷ raw_field s 3 ∷ raw_field s 4 ∷ raw_field s 5 ∷ []) v.0
  unfolding valid fixed has_bytes size count span raw_field
  raw =
      table-parts (Uint32 & CellDeps & fixvec Byte32 & fixvec CellInput & dynvec CellOutput & dynvec Bytes & end) tt
      (field_of s 2 0) (bytes_field s 2 0 b) v.0 outer.0.value

  all_fields : tx_at s ≡ value_tx v
  unfolding valid fixed has_bytes size
  all_fields =
      let version = number 4 (raw_field s 0) v.0.0 raw.0.value in
      let cell_deps = fixvec_decoded CellDep (raw_field s 1) v.0.1.0 raw.1.0.value (raw_bytes_lem 1) tt in
      let header_deps = fixvec_decoded Byte32 (raw_field s 2) v.0.1.1.0 raw.1.1.0.value (raw_bytes_lem 2) tt ∙ encode_arrays 32 v.0.1.1.0 in
      let inputs = fixvec_decoded CellInput (raw_field s 3) v.0.1.1.1.0 raw.1.1.1.0.value (raw_bytes_lem 3) tt in
      let outputs = dynvec_decoded CellOutput (raw_field s 4) v.0.1.1.1.1.0 raw.1.1.1.1.0.value (raw_bytes_lem 4) tt in
      let outputs_data = entries_decoded (raw_field s 5) v.0.1.1.1.1.1.0 raw.1.1.1.1.1.0.value in
      let witnesses = entries_decoded (witnesses_of s) v.1.0 outer.1.value in
      λ i. record {
        version = version i;
        cell_deps = cell_deps i;
        header_deps = header_deps i;
        inputs = inputs i;
        outputs = outputs i;
        outputs_data = outputs_data i;
        witnesses = witnesses i;
      }

pub transaction-parts : Decoded Transaction TransactionParts
transaction-parts s b v e =
    let f = raw s b v e in
    record {
      raw = (outer s b v e).0;
      cell_deps = f.1.0;
      header_deps = f.1.1.0;
      inputs = f.1.1.1.0;
      outputs = f.1.1.1.1.0;
      outputs_data = f.1.1.1.1.1.0;
      witnesses = (outer s b v e).1;
    }

pub transaction_fields : Decoded Transaction TransactionFields
transaction_fields s b v e =
    let f = raw s b v e in
    record {
      fields = all_fields s b v e;
      parts = transaction-parts s b v e;
      cell_deps = cell-deps-items (raw_field s 1) (raw_bytes_lem s b v e 1) _ f.1.0.value;
      header_deps = header-deps-items (raw_field s 2) (raw_bytes_lem s b v e 2) _ f.1.1.0.value;
      inputs = inputs-items (raw_field s 3) (raw_bytes_lem s b v e 3) _ f.1.1.1.0.value;
      outputs = outputs-items (raw_field s 4) (raw_bytes_lem s b v e 4) _ f.1.1.1.1.0.value;
      outputs_data = entries (raw_field s 5) _ f.1.1.1.1.1.0.value;
      witnesses = entries (witnesses_of s) _ (outer s b v e).1.value;
    }

pub optional_transaction : Decoded (option Transaction) (Optional TransactionFields)
optional_transaction = optional Transaction TransactionFields transaction_fields

-- what is read as a transaction is what is decoded
pub fields_read : (s : List ℕ) → AllBytes s → read_tx s ≡ Option.map value_tx (decode Transaction s)
unfolding read_tx readable there only
fields_read s b = by (decode Transaction s) refl
  where
    by : (o : Option (Value Transaction)) → decode Transaction s ≡ o → only (there o) (some (tx_at s)) ≡ Option.map value_tx o
    by none e = refl
    by (some v) e = ap some (all_fields s b v e)
