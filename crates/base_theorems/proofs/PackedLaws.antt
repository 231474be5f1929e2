-- A transaction packed from lists of items in their forms is readable, and its lists are those lists.
use mathlib.Core.Path.{◌≡◌, refl, sym, ap, ap₂, ◌∙◌, subst}
use Prim.Native.Nat.{ℕ, zero, suc, ◌+◌, ◌-◌, ◌*◌, ◌^◌, ◌≤◌, ◌<◌}
use mathlib.Core.Bool.{true}
use mathlib.Core.List.{List, ◌∷◌, map, flatten}
use mathlib.Core.Option.{Option}
use native.Mathlib.Omega.{arith}
use borrow.Author.Tests.{lt-ltb, le-leb, eq-eqb}
use lib.Dec.{T}
use lib.ListN.{length, take, drop, length-append}
use lib.Seq.{take_at, drop_at, take_all}
use Rattle.arithmetic.specs.LittleEndian.{le, to_le}
use Rattle.arithmetic.proofs.LittleEndianLaws.{length-to_le, le-to_le}
use Rattle.molecule.specs.Items.{join, fix_list}
use Rattle.molecule.specs.Layout.{part, span, item_of, items_of, fix_items, content, entry_of}
use Rattle.molecule.specs.Molecule.{Ty, byte, fixvec, dynvec, size, readable, chunks}
use Rattle.molecule.proofs.Valid.{fixed, all_fixed}
use Rattle.molecule.proofs.ItemsLaws.{split-join}
use Rattle.molecule.proofs.ChunksLaws.{Long, chunks_flatten}
use Rattle.molecule.proofs.ReadableLaws.{holds, every, readable-dynvec, readable-fixvec}
use Rattle.molecule.proofs.DecodedLaws.{items-few, fix_chunks, split-items}
use Rattle.transaction.specs.Ckb.{Byte32, Bytes, CellDep, CellInput, CellOutput, Transaction}
use Rattle.transaction.proofs.ListLaws.{hash-size, dep-size, input-size}
use Rattle.transaction.specs.Tx.{tx_at}
use Rattle.transaction_writer.specs.Written.{in_form}
use Rattle.transaction_writer.proofs.PutLaws.{tx_length}
use Rattle.list_writer.specs.ListWriter.{bytes_item}
use Rattle.cell_deps.proofs.LongLaws.{list_long}
use Rattle.transaction_theorems.proofs.WrittenReads.{HasFields, written-readable, written_fields}
use Rattle.funding_builder.specs.Base.{Packed, packed}

-- ---- a list of sized items

module _ (t : Ty) (ok : T (fixed t)) (xs : List (List ℕ)) (long : Long (size t) xs) (few : length xs < 2 ^ 32) where
  count : le (take 4 (fix_list xs)) ≡ length xs
  unfolding fix_list
  count = ap le (take_at (to_le 4 (length xs)) (flatten xs) 4 (length-to_le 4 (length xs))) ∙ le-to_le 4 (length xs) (omega arith)

  behind : drop 4 (fix_list xs) ≡ flatten xs
  unfolding fix_list
  behind = drop_at (to_le 4 (length xs)) (flatten xs) 4 (length-to_le 4 (length xs))

  whole : length (fix_list xs) ≡ 4 + length xs * size t
  whole = list_long (size t) xs long

  four : 4 ≤ length (fix_list xs)
  four = omega (arith, whole)

  pub fix_readable : length (fix_list xs) < 2 ^ 32 → readable (fixvec t) (fix_list xs) ≡ true
  fix_readable short = readable-fixvec t ok (fix_list xs) ∙ rw (count, lt-ltb _ _ short, le-leb 4 _ four, eq-eqb _ _ whole)

  pub fix_items_lem : 1 ≤ size t → fix_items (size t) (fix_list xs) ≡ xs
  fix_items_lem one =
      fix_chunks (size t) (fix_list xs) four (subst (λ (w : ℕ). w ≤ length (fix_list xs)) (sym count) (items-few (length xs) (size t) one whole))
      ∙ ap₂ (λ (n : ℕ) (s : List ℕ). chunks n (size t) s) count behind
      ∙ chunks_flatten (length xs) (size t) xs refl long

-- ---- a list of unsized items

module _ (xs : List (List ℕ)) (short : length (join xs) < 2 ^ 32) where
  pub dyn_readable : (t : Ty) → every (readable t) xs ≡ true → readable (dynvec t) (join xs) ≡ true
  unfolding holds
  dyn_readable t all = readable-dynvec t (join xs) ∙ ap (λ (o : Option (List (List ℕ))). holds o (every (readable t))) (split-join xs short) ∙ all

  pub dyn_items : items_of (join xs) ≡ xs
  dyn_items = split-items (join xs) xs (split-join xs short)

pub entries_are : (s : List ℕ) (i k : ℕ) → span (entry_of s) i k ≡ map content (span (item_of s) i k)
unfolding span entry_of
entries_are s i zero = refl
entries_are s i (suc k) = ap (λ (r : List (List ℕ)). content (item_of s i) ∷ r) (entries_are s (suc i) k)

-- ---- bytes with their count

module _ (s : List ℕ) where
  item-length : length (bytes_item s) ≡ 4 + length s
  unfolding bytes_item
  item-length = length-append (to_le 4 (length s)) s ∙ ap (λ (n : ℕ). n + length s) (length-to_le 4 (length s))

  item_count_lem : length s < 2 ^ 32 → le (take 4 (bytes_item s)) ≡ length s
  unfolding bytes_item
  item_count_lem few = ap le (take_at (to_le 4 (length s)) s 4 (length-to_le 4 (length s))) ∙ le-to_le 4 (length s) (omega arith)

  pub item-readable : length s < 2 ^ 31 → readable Bytes (bytes_item s) ≡ true
  unfolding fixed size
  item-readable few =
      let e : length (bytes_item s) ≡ 4 + length s * 1 = omega (arith, item-length) in
      readable-fixvec byte tt (bytes_item s)
      ∙ rw (item_count_lem (omega arith), lt-ltb _ _ (let h : length (bytes_item s) < 2 ^ 32 = omega (arith, item-length) in h), le-leb 4 _ (let h : 4 ≤ length (bytes_item s) = omega (arith, item-length) in h), eq-eqb _ _ e)

  pub item-content : content (bytes_item s) ≡ s
  unfolding content part
  item-content =
      take_all (length (bytes_item s) - 4) (drop 4 (bytes_item s)) (omega (arith, item-length, ap length behind-count)) ∙ behind-count
    where
      behind-count : drop 4 (bytes_item s) ≡ s
      behind-count = unfold bytes_item in drop_at (to_le 4 (length s)) s 4 (length-to_le 4 (length s))

-- ---- the whole

-- each list is in its form
pub record Formed (t : Packed) : Type 0 where
  pub low : t.version < 2 ^ 32
  pub cell_deps : Long 37 t.cell_deps
  pub header_deps : Long 32 t.header_deps
  pub inputs : Long 44 t.inputs
  pub outputs : every (readable CellOutput) t.outputs ≡ true
  pub outputs_data : every (readable Bytes) t.outputs_data ≡ true
  pub witnesses : every (readable Bytes) t.witnesses ≡ true

-- what the bytes s say is the packed transaction t
pub record ReadsAs (t : Packed) (s : List ℕ) : Type 0 where
  pub is_readable : readable Transaction s ≡ true
  pub fields : HasFields s t.version (fix_list t.cell_deps) (fix_list t.header_deps) (fix_list t.inputs) (join t.outputs) (join t.outputs_data) (join t.witnesses)
  pub cell_deps : (tx_at s).cell_deps ≡ t.cell_deps
  pub header_deps : (tx_at s).header_deps ≡ t.header_deps
  pub inputs : (tx_at s).inputs ≡ t.inputs
  pub outputs : (tx_at s).outputs ≡ t.outputs
  pub outputs_data : (tx_at s).outputs_data ≡ map content t.outputs_data
  pub witnesses : (tx_at s).witnesses ≡ map content t.witnesses

module _ (t : Packed) (f : Formed t) (short : length (packed t) ≤ 133116) where
  abbrev s : List ℕ
  s = packed t

  lengths : length (packed t) ≡ 44 + length (fix_list t.cell_deps) + length (fix_list t.header_deps) + length (fix_list t.inputs) + length (join t.outputs) + length (join t.outputs_data) + length (join t.witnesses)
  unfolding packed
  lengths = tx_length t.version (fix_list t.cell_deps) (fix_list t.header_deps) (fix_list t.inputs) (join t.outputs) (join t.outputs_data) (join t.witnesses)

  deps-few : length t.cell_deps < 2 ^ 32
  deps-few = omega (arith, lengths, list_long 37 t.cell_deps f.cell_deps)

  headers-few : length t.header_deps < 2 ^ 32
  headers-few = omega (arith, lengths, list_long 32 t.header_deps f.header_deps)

  inputs-few : length t.inputs < 2 ^ 32
  inputs-few = omega (arith, lengths, list_long 44 t.inputs f.inputs)

  deps-long : Long (size CellDep) t.cell_deps
  deps-long = rw dep-size f.cell_deps

  headers-long : Long (size Byte32) t.header_deps
  headers-long = rw hash-size f.header_deps

  inputs_long : Long (size CellInput) t.inputs
  inputs_long = rw input-size f.inputs

  outputs_short : length (join t.outputs) < 2 ^ 32
  outputs_short = omega (arith, lengths)

  data_short : length (join t.outputs_data) < 2 ^ 32
  data_short = omega (arith, lengths)

  witnesses_short : length (join t.witnesses) < 2 ^ 32
  witnesses_short = omega (arith, lengths)

  formed : in_form (fix_list t.cell_deps) (fix_list t.header_deps) (fix_list t.inputs) (join t.outputs) (join t.outputs_data) (join t.witnesses) ≡ true
  unfolding in_form fixed all_fixed
  formed =
      let a = fix_readable CellDep tt t.cell_deps deps-long deps-few (omega (arith, lengths)) in
      let b = fix_readable Byte32 tt t.header_deps headers-long headers-few (omega (arith, lengths)) in
      let c = fix_readable CellInput tt t.inputs inputs_long inputs-few (omega (arith, lengths)) in
      let d = dyn_readable t.outputs outputs_short CellOutput f.outputs in
      let e = dyn_readable t.outputs_data data_short Bytes f.outputs_data in
      let w = dyn_readable t.witnesses witnesses_short Bytes f.witnesses in
      rw (a, b, c, d, e, w)

  has : HasFields s t.version (fix_list t.cell_deps) (fix_list t.header_deps) (fix_list t.inputs) (join t.outputs) (join t.outputs_data) (join t.witnesses)
  unfolding packed
  has = written_fields _ _ _ _ _ _ _ (omega arith) f.low

  pub reads_as : ReadsAs t (packed t)
  unfolding fixed all_fixed
  reads_as = record {
    is_readable = unfold packed in written-readable _ _ _ _ _ _ _ (omega arith) formed;
    fields = has;
    cell_deps = ap (fix_items 37) has.cell_deps ∙ rw dep-size at (fix_items_lem CellDep tt t.cell_deps deps-long deps-few (omega (arith, dep-size)));
    header_deps = ap (fix_items 32) has.header_deps ∙ rw hash-size at (fix_items_lem Byte32 tt t.header_deps headers-long headers-few (omega (arith, hash-size)));
    inputs = ap (fix_items 44) has.inputs ∙ rw input-size at (fix_items_lem CellInput tt t.inputs inputs_long inputs-few (omega (arith, input-size)));
    outputs = ap items_of has.outputs ∙ dyn_items t.outputs outputs_short;
    outputs_data = entries_are _ 0 _ ∙ ap (map content) (ap items_of has.outputs_data ∙ dyn_items t.outputs_data data_short);
    witnesses = entries_are _ 0 _ ∙ ap (map content) (ap items_of has.witnesses ∙ dyn_items t.witnesses witnesses_short);
  }
