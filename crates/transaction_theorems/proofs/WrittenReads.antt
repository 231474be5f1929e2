-- The bytes that `write_transaction` writes are a transaction with exactly the given fields: they are readable (`written-readable`), each field
-- reads back as it was given (`written_fields`), and they are the schema's encoding of the fields' values (`written-encodes`).
-- `fits_reads` says the first two where the bytes fit, `wrote_reads` where the call answers how many they are, and `wrote_bytes` that the buffer then holds them.
use mathlib.Core.Path.{◌≡◌, refl, sym, ap, ◌∙◌}
use Prim.Native.Nat.{ℕ, ◌^◌, ◌<◌, ◌≤◌}
use mathlib.Core.Bool.{Bool, true, false, and-eq-true_iff}
use mathlib.Core.List.{List, [], ◌∷◌}
use mathlib.Core.Option.{some}
use native.Mathlib.Omega.{arith}
use borrow.Author.Tests.{leb-true, eq-eqb}
use lib.Dec.{leb}
use lib.ListN.{length, take}
use lib.Seq.{take_at, take_all}
use Rattle.arithmetic.specs.LittleEndian.{le, to_le, AllBytes, u32_at}
use Rattle.arithmetic.proofs.LittleEndianLaws.{length-to_le, le-to_le, num_some}
use Rattle.error.specs.Outcome.{Outcome, fine, answer_by, check, check_with, ◌>>=◌, ◌>>◌}
use Rattle.error.proofs.Passed.{never, fine_inj}
use Rattle.molecule.specs.Items.{split}
use Rattle.molecule.specs.Layout.{span, field_of}
use Rattle.molecule.specs.Molecule.{fixvec, dynvec, Value, size, encode, decode, readable}
use Rattle.molecule.proofs.Valid.{fixed, has_bytes, valid}
use Rattle.molecule.proofs.ItemsLaws.{split-join}
use Rattle.molecule.proofs.ReadableLaws.{holds, all_readable, readable-table, readable_fixed}
use Rattle.molecule.proofs.MoleculeLaws.{encode-decode}
use Rattle.molecule.proofs.DecodedLaws.{split_fields, encode-array-byte}
use Rattle.transaction.specs.Ckb.{Uint32, Byte32, Bytes, CellInput, CellDep, CellOutput, RawTransaction, Transaction}
use Rattle.transaction.specs.Tx.{raw_field, witnesses_of, tx_at}
use Rattle.transaction_writer.specs.Written.{raw_bytes, tx_bytes, in_form, fits, bytes_if, in_room, written}
use Rattle.transaction_writer.proofs.PutLaws.{raw_length, tx_length}

-- what the bytes s say their fields are: the version, and each list in its list form
pub record HasFields (s : List ℕ) (v : ℕ) (a b c d e w : List ℕ) : Type 0 where
  pub version : (tx_at s).version ≡ v
  pub cell_deps : raw_field s 1 ≡ a
  pub header_deps : raw_field s 2 ≡ b
  pub inputs : raw_field s 3 ≡ c
  pub outputs : raw_field s 4 ≡ d
  pub outputs_data : raw_field s 5 ≡ e
  pub witnesses : witnesses_of s ≡ w

-- a number of four bytes, written and read
read_word : (v : ℕ) → v < 2 ^ 32 → u32_at (to_le 4 v) 0 ≡ v
read_word v h =
    let l = length-to_le 4 v in
    num_some 4 (to_le 4 v) 0 (omega arith) ∙ ap le (take_all 4 (to_le 4 v) (omega arith)) ∙ le-to_le 4 v (omega arith)

-- bytes that were written were right, and there was room
wrote : (right : Bool) (bytes out : List ℕ) (number n : ℕ) → fine n ≡ (written (bytes_if number right bytes) out).0
    → (right ≡ true) × (fits (length bytes) (length out) ≡ true) × (length bytes ≡ n)
unfolding bytes_if in_room answer_by check check_with ◌>>=◌ ◌>>◌
wrote true bytes out number n h = by (fits (length bytes) (length out)) refl
  where
    by : (b : Bool) → fits (length bytes) (length out) ≡ b → (true ≡ true) × (fits (length bytes) (length out) ≡ true) × (length bytes ≡ n)
    by true e = (refl, e, sym (fine_inj (rw e at h)))
    by false e = absurd (never 13 [] n (sym (rw e at h)))
wrote false bytes out number n h = absurd (never number [] n (sym h))

module _ (v : ℕ) (a b c d e w : List ℕ) where
  abbrev raw : List ℕ
  raw = raw_bytes v a b c d e

  abbrev tx : List ℕ
  tx = tx_bytes v a b c d e w

  -- ---- below 2^32 bytes

  module _ (short : length (tx_bytes v a b c d e w) < 2 ^ 32) where
    tx_split : split tx ≡ some (raw ∷ w ∷ [])
    unfolding tx_bytes
    tx_split = split-join _ short

    raw_split : split raw ≡ some (to_le 4 v ∷ a ∷ b ∷ c ∷ d ∷ e ∷ [])
    unfolding raw_bytes
    raw_split = split-join _ (omega (arith, tx_length v a b c d e w, raw_length v a b c d e))

    pub written-readable : in_form a b c d e w ≡ true → readable Transaction (tx_bytes v a b c d e w) ≡ true
    unfolding in_form holds all_readable size fixed
    written-readable form =
        let f = (and-eq-true_iff _ (readable (dynvec Bytes) w)).0 form in
        let g = (and-eq-true_iff _ (readable (dynvec Bytes) e)).0 f.0 in
        let h = (and-eq-true_iff _ (readable (dynvec CellOutput) d)).0 g.0 in
        let i = (and-eq-true_iff _ (readable (fixvec CellInput) c)).0 h.0 in
        let j = (and-eq-true_iff (readable (fixvec CellDep) a) (readable (fixvec Byte32) b)).0 i.0 in
        let k : readable Uint32 (to_le 4 v) ≡ true = readable_fixed Uint32 tt (to_le 4 v) ∙ eq-eqb _ _ (length-to_le 4 v) in
        let r : readable RawTransaction raw ≡ true = readable-table _ raw ∙ rw (raw_split, k, j.0, j.1, i.1, h.1, g.1) in
        readable-table _ tx ∙ rw (tx_split, r, f.1)

    tx_fields : field_of tx 2 0 ∷ field_of tx 2 1 ∷ [] ≡ raw ∷ w ∷ []
    unfolding span
    tx_fields = split_fields tx 2 _ refl tx_split

    raw_fields : raw_field tx 0 ∷ raw_field tx 1 ∷ raw_field tx 2 ∷ raw_field tx 3 ∷ raw_field tx 4 ∷ raw_field tx 5 ∷ [] ≡ to_le 4 v ∷ a ∷ b ∷ c ∷ d ∷ e ∷ []
    unfolding span raw_field
    raw_fields = let r : field_of tx 2 0 ≡ raw = cc tx_fields in rw r (split_fields raw 6 _ refl raw_split)

    pub written_fields : v < 2 ^ 32 → HasFields (tx_bytes v a b c d e w) v a b c d e w
    unfolding witnesses_of
    written_fields low =
        let word : raw_field tx 0 ≡ to_le 4 v = cc raw_fields in
        record {
          version = ap (λ (s : List ℕ). u32_at s 0) word ∙ read_word v low;
          cell_deps = cc raw_fields;
          header_deps = cc raw_fields;
          inputs = cc raw_fields;
          outputs = cc raw_fields;
          outputs_data = cc raw_fields;
          witnesses = cc tx_fields;
        }

  -- ---- where they fit

  pub fits_reads : (room : ℕ) → v < 2 ^ 32 → in_form a b c d e w ≡ true → fits (length (tx_bytes v a b c d e w)) room ≡ true
      → (readable Transaction (tx_bytes v a b c d e w) ≡ true) × HasFields (tx_bytes v a b c d e w) v a b c d e w
  unfolding fits
  fits_reads room low form fit =
      let h : length tx ≤ 133116 = leb-true _ _ ((and-eq-true_iff (leb (length tx) 133116) _).0 fit).0 in
      let short : length tx < 2 ^ 32 = omega arith in
      (written-readable short form, written_fields short low)

  -- ---- where `write_transaction` answers that it wrote n bytes

  module _ (number : ℕ) (out after : List ℕ) (n : ℕ) (h : (fine n, after) ≡ written (bytes_if number (in_form a b c d e w) (tx_bytes v a b c d e w)) out) where
    passed : (in_form a b c d e w ≡ true) × (fits (length tx) (length out) ≡ true) × (length tx ≡ n)
    passed = wrote (in_form a b c d e w) tx out number n (ap (λ (r : Outcome ℕ × List ℕ). r.0) h)

    pub wrote_reads : v < 2 ^ 32 → (readable Transaction (tx_bytes v a b c d e w) ≡ true) × HasFields (tx_bytes v a b c d e w) v a b c d e w
    wrote_reads low = fits_reads (length out) low passed.0 passed.1

    -- the first n bytes of the buffer are the transaction
    pub wrote_bytes : take n after ≡ tx_bytes v a b c d e w
    unfolding bytes_if in_room check check_with ◌>>=◌ ◌>>◌
    wrote_bytes = let e : after ≡ (written (bytes_if number (in_form a b c d e w) tx) out).1 = ap (λ (r : Outcome ℕ × List ℕ). r.1) h in rw e (rw (passed.0, passed.1) (take_at tx _ n passed.2))

  -- ---- the schema's encoding

  module _ (va : Value (fixvec CellDep)) (vb : Value (fixvec Byte32)) (vc : Value (fixvec CellInput)) (vd : Value (dynvec CellOutput)) (ve vw : Value (dynvec Bytes)) where
    pub written-encodes : AllBytes a → AllBytes b → AllBytes c → AllBytes d → AllBytes e → AllBytes w
        → decode (fixvec CellDep) a ≡ some va → decode (fixvec Byte32) b ≡ some vb → decode (fixvec CellInput) c ≡ some vc
        → decode (dynvec CellOutput) d ≡ some vd → decode (dynvec Bytes) e ≡ some ve → decode (dynvec Bytes) w ≡ some vw
        → tx_bytes v a b c d e w ≡ encode Transaction ((to_le 4 v, (va, (vb, (vc, (vd, (ve, tt)))))), (vw, tt))
    unfolding tx_bytes raw_bytes encode valid fixed has_bytes size
    written-encodes ba bb bc bd be bw ea eb ec ed ee ew =
        let xa = encode-decode (fixvec CellDep) tt a va ba ea in
        let xb = encode-decode (fixvec Byte32) tt b vb bb eb in
        let xc = encode-decode (fixvec CellInput) tt c vc bc ec in
        let xd = encode-decode (dynvec CellOutput) tt d vd bd ed in
        let xe = encode-decode (dynvec Bytes) tt e ve be ee in
        let xw = encode-decode (dynvec Bytes) tt w vw bw ew in
        rw (encode-array-byte 4 (to_le 4 v), xa, xb, xc, xd, xe, xw)
