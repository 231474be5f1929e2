-- Writing the fields of a readable transaction yields it again (docs/RULES.md, demand 2: "writing its fields, within the rules' limit, yields it again").
use mathlib.Core.Path.{◌≡◌, sym, ap, ◌∙◌, subst}
use Prim.Native.Nat.{ℕ}
use mathlib.Core.Bool.{Bool, true, ◌&&◌, and-eq-true_iff}
use mathlib.Core.List.{List}
use native.Mathlib.Omega.{arith}
use borrow.Author.Tests.{eqb-true}
use lib.ListN.{length}
use lib.Seq.{take_all}
use Rattle.arithmetic.specs.LittleEndian.{le, to_le, AllBytes, u32_at}
use Rattle.arithmetic.proofs.LittleEndianLaws.{to_le-le, num_some}
use Rattle.error.specs.Outcome.{Outcome, check, check_with, ◌>>◌}
use Rattle.molecule.specs.Partial.{All}
use Rattle.molecule.specs.Items.{join}
use Rattle.molecule.specs.Molecule.{fixvec, dynvec, table, Fields, end, ◌&◌, size, readable}
use Rattle.molecule.proofs.Valid.{fixed}
use Rattle.molecule.specs.Layout.{span, has_items, field_of}
use Rattle.molecule.proofs.ItemsLaws.{join-split, split-bytes}
use Rattle.molecule.proofs.ReadableLaws.{all_readable, readable_fixed}
use Rattle.molecule.proofs.HeaderLaws.{count, split_n, table-readable}
use Rattle.transaction.specs.Ckb.{Uint32, Byte32, Bytes, CellInput, CellDep, CellOutput, RawTransaction, Transaction}
use Rattle.transaction.specs.Tx.{raw_field, witnesses_of, tx_at}
use Rattle.transaction_writer.specs.declared.TxFields.{TxFields}
use Rattle.transaction_writer.specs.Written.{raw_bytes, tx_bytes, in_form, bytes_if, written}
use Rattle.transaction_writer.specs.TxFields.{AreTxFields, fields_bytes, are_in_form}

-- ---- a readable table is its fields joined

module _ (ts : Fields) (s : List ℕ) (h : readable (table ts) s ≡ true) where
  parts : (has_items s (count ts) ≡ true) × (all_readable ts (span (field_of s (count ts)) 0 (count ts)) ≡ true)
  parts = (and-eq-true_iff (has_items s (count ts)) _).0 (sym (table-readable ts s) ∙ h)

  table-join : AllBytes s → join (span (field_of s (count ts)) 0 (count ts)) ≡ s
  table-join b = join-split s _ b (split_n s (count ts) parts.0)

  table-bytes : AllBytes s → All AllBytes (span (field_of s (count ts)) 0 (count ts))
  table-bytes b = split-bytes s _ b (split_n s (count ts) parts.0)

-- ---- a number of four bytes, read and written

word_back : (f : List ℕ) → length f ≡ 4 → AllBytes f → to_le 4 (u32_at f 0) ≡ f
word_back f h b =
    let e : u32_at f 0 ≡ le f = num_some 4 f 0 (omega arith) ∙ ap le (take_all 4 f (omega arith)) in
    ap (to_le 4) e ∙ subst (λ (w : ℕ). to_le w (le f) ≡ f) h (to_le-le f b)

-- ---- the raw transaction

abbrev raw_fields : Fields
raw_fields = Uint32 & fixvec CellDep & fixvec Byte32 & fixvec CellInput & dynvec CellOutput & dynvec Bytes & end

module _ (r : List ℕ) (h : readable RawTransaction r ≡ true) where
  abbrev field : ℕ → List ℕ
  field i = field_of r 6 i

  fields_readable : (readable Uint32 (field 0)) && (readable (fixvec CellDep) (field 1) && (readable (fixvec Byte32) (field 2) && (readable (fixvec CellInput) (field 3)
      && (readable (dynvec CellOutput) (field 4) && (readable (dynvec Bytes) (field 5) && true))))) ≡ true
  unfolding count all_readable span
  fields_readable = (parts raw_fields r h).1

  pub raw_again : AllBytes r → raw_bytes (u32_at (field 0) 0) (field 1) (field 2) (field 3) (field 4) (field 5) ≡ r
  unfolding raw_bytes count span size fixed
  raw_again b =
      let first = ((and-eq-true_iff (readable Uint32 (field 0)) _).0 fields_readable).0 in
      let four : length (field 0) ≡ 4 = eqb-true _ _ (sym (readable_fixed Uint32 tt (field 0)) ∙ first) in
      rw (word_back (field 0) four (table-bytes raw_fields r h b).0) (table-join raw_fields r h b)

-- ---- the transaction

abbrev tx_fields : Fields
tx_fields = RawTransaction & dynvec Bytes & end

module _ (s : List ℕ) (h : readable Transaction s ≡ true) where
  both-readable : readable RawTransaction (field_of s 2 0) && (readable (dynvec Bytes) (field_of s 2 1) && true) ≡ true
  unfolding count all_readable span
  both-readable = (parts tx_fields s h).1

  raw_readable : readable RawTransaction (field_of s 2 0) ≡ true
  raw_readable = ((and-eq-true_iff (readable RawTransaction (field_of s 2 0)) _).0 both-readable).0

  -- the fields of a readable transaction, written, are that transaction
  pub written_again : AllBytes s
      → tx_bytes (tx_at s).version (raw_field s 1) (raw_field s 2) (raw_field s 3) (raw_field s 4) (raw_field s 5) (witnesses_of s) ≡ s
  unfolding tx_bytes raw_field witnesses_of count span
  written_again b = rw (raw_again (field_of s 2 0) raw_readable (table-bytes tx_fields s h b).0) (table-join tx_fields s h b)

  -- the lists of a readable transaction are in their forms
  pub lists_in_form : in_form (raw_field s 1) (raw_field s 2) (raw_field s 3) (raw_field s 4) (raw_field s 5) (witnesses_of s) ≡ true
  unfolding in_form raw_field witnesses_of
  lists_in_form =
      let w = ((and-eq-true_iff (readable (dynvec Bytes) (field_of s 2 1)) true).0 ((and-eq-true_iff (readable RawTransaction (field_of s 2 0)) _).0 both-readable).1).0 in
      let a = ((and-eq-true_iff (readable Uint32 (field (field_of s 2 0) raw_readable 0)) _).0 (fields_readable (field_of s 2 0) raw_readable)).1 in
      let b = (and-eq-true_iff (readable (fixvec CellDep) (field (field_of s 2 0) raw_readable 1)) _).0 a in
      let c = (and-eq-true_iff (readable (fixvec Byte32) (field (field_of s 2 0) raw_readable 2)) _).0 b.1 in
      let d = (and-eq-true_iff (readable (fixvec CellInput) (field (field_of s 2 0) raw_readable 3)) _).0 c.1 in
      let e = (and-eq-true_iff (readable (dynvec CellOutput) (field (field_of s 2 0) raw_readable 4)) _).0 d.1 in
      let f = (and-eq-true_iff (readable (dynvec Bytes) (field (field_of s 2 0) raw_readable 5)) true).0 e.1 in
      rw (b.0, c.0, d.0, e.0, f.0, w)

-- ---- the way out of `rewrite` that writes

module _ (s out : List ℕ) {r : Bool} {f : TxFields} (q : r ≡ readable Transaction s) (n : r ≡ true) (bytes : AllBytes s) (e : AreTxFields f s) where
  good : readable Transaction s ≡ true
  good = sym q ∙ n

  same_bytes : fields_bytes f ≡ s
  same_bytes = rw (e.version, e.deps, e.headers, e.inputs, e.outputs, e.datas, e.witnesses) (written_again s good bytes)

  same_form : are_in_form f ≡ true
  same_form = rw (e.deps, e.headers, e.inputs, e.outputs, e.datas, e.witnesses) (lists_in_form s good)

  pub rewrote : {x : Outcome ℕ} {after : List ℕ} → (x, after) ≡ written (bytes_if 3 (are_in_form f) (fields_bytes f)) out
      → (x, after) ≡ written (bytes_if 1 (readable Transaction s) s) out
  unfolding bytes_if check check_with ◌>>◌
  rewrote h = h ∙ rw (same_form, same_bytes, good)
