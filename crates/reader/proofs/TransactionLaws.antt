-- Of a transaction a reader reads what stands in it: the place that it is moved to is where the field starts (specs/Tx.antt of crate transaction), and the list there is the field.
use mathlib.Core.Path.{◌≡◌, refl, sym, ap, ◌∙◌}
use Prim.Native.Nat.{ℕ, ◌+◌, ◌*◌, ◌^◌, ◌≤◌, ◌<◌}
use mathlib.Core.List.{List}
use mathlib.Core.Bool.{true, ◌&&◌, and-eq-true_iff}
use native.Mathlib.Nat.{zero-add}
use native.Mathlib.Omega.{arith}
use borrow.Author.Tests.{leb-true, eqb-true}
use lib.ListN.{length}
use lib.Dec.{T, leb, ltb, eqb}
use Rattle.std.proofs.lemmas.Bool.Decides.{nat_tests}
use Rattle.arithmetic.specs.LittleEndian.{u32_at}
use Rattle.molecule.specs.Molecule.{Ty, fixvec, dynvec, size, readable}
use Rattle.molecule.specs.Layout.{word, has_items, field_of, field_start, item_count, item_of, fix_count}
use Rattle.molecule.proofs.Valid.{fixed}
use Rattle.molecule.proofs.Offsets.{offsets-parts, up_to}
use Rattle.molecule.proofs.HeaderLaws.{offsets-has, dynvec-readable, fixvec-says, fixvec-count}
use Rattle.transaction.specs.Ckb.{Byte32, Bytes, CellDep, CellInput, CellOutput, RawTransaction, Transaction}
use Rattle.transaction.specs.Tx.{raw_field, raw_start, witnesses_of}
use Rattle.transaction.proofs.TableLaws.{raw_is, transaction_is}
use Rattle.reader.specs.Places.{table_at, table_start, fixvec_at, fixvec_start, field_at, raw_at, witnesses_at}
use Rattle.reader.proofs.StandsLaws.{Stands, stands-whole, stands-number, stands-table, stands-table-start, stands-fixvec, stands-fixvec-start, field_at_lem, field_stands}

-- ---- strings that say how long they are

record IsTable (f : List ℕ) : Type 0 where
  four : 4 ≤ length f
  says : word f 0 ≡ length f

has-table : (f : List ℕ) (n : ℕ) → has_items f n ≡ true → IsTable f
has-table f n h = let o = offsets-parts f n (offsets-has f n ∙ h) in record { four = omega (arith, o.room); says = o.size }

dynvec-table : (t : Ty) (f : List ℕ) → readable (dynvec t) f ≡ true → IsTable f
dynvec-table t f h = has-table f (item_count f) ((and-eq-true_iff (has_items f (item_count f)) (up_to (λ i. readable t (item_of f i)) (item_count f))).0 (sym (dynvec-readable t f) ∙ h)).0

record IsFixvec (f : List ℕ) (k : ℕ) : Type 0 where
  four : 4 ≤ length f
  says : length f ≡ 4 + k * word f 0
  counts : word f 0 ≡ fix_count f

fixvec-is : (t : Ty) → T (fixed t) → (k : ℕ) → size t ≡ k → 1 ≤ k → (f : List ℕ) → readable (fixvec t) f ≡ true → IsFixvec f k
fixvec-is t ok k e one f h =
    let a = (and-eq-true_iff (ltb (length f) (2 ^ 32) && leb 4 (length f)) (eqb (length f) (4 + size t * word f 0))).0 (sym (fixvec-says t ok f) ∙ h) in
    let b = (and-eq-true_iff (ltb (length f) (2 ^ 32)) (leb 4 (length f))).0 a.0 in
    record {
      four = leb-true 4 (length f) b.1;
      says = eqb-true (length f) (4 + size t * word f 0) a.1 ∙ ap (λ (n : ℕ). 4 + n * word f 0) e;
      counts = sym (fixvec-count t ok (omega arith) f h);
    }

-- ---- what is read where f stands, which is a

pub record ReadsDynvec (s : List ℕ) (at : ℕ) (f : List ℕ) (a : ℕ) : Type 0 where
  pub list : table_at s at ≡ f
  pub begins : table_start s at ≡ a

pub record ReadsFixvec (s : List ℕ) (at k : ℕ) (f : List ℕ) (a : ℕ) : Type 0 where
  pub count : u32_at s at ≡ fix_count f
  pub list : fixvec_at s at k ≡ f
  pub begins : fixvec_start s at k ≡ a

module _ (f s : List ℕ) (at a : ℕ) (h : Stands f s a) (e : at ≡ a) where
  reads_number : 4 ≤ length f → u32_at s at ≡ word f 0
  reads_number four = rw e (stands-number f s a h four)

  reads_dynvec : IsTable f → ReadsDynvec s at f a
  reads_dynvec z = rw e (record { list = stands-table f s a h z.four z.says; begins = stands-table-start f s a h z.four z.says })

  reads_fixvec : (k : ℕ) → IsFixvec f k → ReadsFixvec s at k f a
  reads_fixvec k z =
      rw e (record {
        count = stands-number f s a h z.four ∙ z.counts;
        list = stands-fixvec f s a h z.four k z.says;
        begins = stands-fixvec-start f s a h z.four k z.says;
      })

-- ---- the parts of a transaction

module _ (tx : List ℕ) (h : readable Transaction tx ≡ true) where
  abbrev raw_tx : List ℕ
  raw_tx = field_of tx 2 0

  tx_parts : (has_items tx 2 ≡ true) × (readable RawTransaction raw_tx ≡ true) × (readable (dynvec Bytes) (field_of tx 2 1) ≡ true)
  tx_parts =
      let k : (has_items tx 2 && readable RawTransaction raw_tx && readable (dynvec Bytes) (field_of tx 2 1)) ≡ true = sym (transaction_is tx) ∙ h in
      grind arith

  raw_parts : (has_items raw_tx 6 ≡ true) × (length (field_of raw_tx 6 0) ≡ 4) × (readable (fixvec CellDep) (field_of raw_tx 6 1) ≡ true)
      × (readable (fixvec Byte32) (field_of raw_tx 6 2) ≡ true)
      × (readable (fixvec CellInput) (field_of raw_tx 6 3) ≡ true)
      × (readable (dynvec CellOutput) (field_of raw_tx 6 4) ≡ true)
      × (readable (dynvec Bytes) (field_of raw_tx 6 5) ≡ true)
  raw_parts =
      let k : (has_items raw_tx 6 && eqb (length (field_of raw_tx 6 0)) 4 && readable (fixvec CellDep) (field_of raw_tx 6 1) && readable (fixvec Byte32) (field_of raw_tx 6 2)
      && readable (fixvec CellInput) (field_of raw_tx 6 3)
      && readable (dynvec CellOutput) (field_of raw_tx 6 4)
      && readable (dynvec Bytes) (field_of raw_tx 6 5)) ≡ true = sym (raw_is raw_tx) ∙ tx_parts.1 in
      grind (arith, nat_tests)

  -- ---- where they stand

  module _ (i : ℕ) (l : i < 2) (four : 4 ≤ length (field_of tx 2 i)) where
    z : IsTable tx
    z = has-table tx 2 tx_parts.0

    top_at : field_at tx 0 i ≡ field_start tx 2 i
    top_at = field_at_lem tx tx 0 (stands-whole tx) z.four z.says 2 i l four ∙ zero-add _

    top_stands : Stands (field_of tx 2 i) tx (field_start tx 2 i)
    top_stands = rw (← zero-add (field_start tx 2 i)) (field_stands tx tx 0 (stands-whole tx) z.four z.says 2 i l four)

  module _ (i : ℕ) (l : i < 6) (four : 4 ≤ length (field_of raw_tx 6 i)) where
    y : IsTable raw_tx
    y = has-table raw_tx 6 raw_parts.0

    raw_at_lem : raw_at tx i ≡ raw_start tx i
    unfolding raw_start
    raw_at_lem = ap (λ (p : ℕ). field_at tx p i) (top_at 0 (omega arith) y.four) ∙ field_at_lem raw_tx tx (field_start tx 2 0) (top_stands 0 (omega arith) y.four) y.four y.says 6 i l four

    raw_stands : Stands (raw_field tx i) tx (raw_start tx i)
    unfolding raw_field raw_start
    raw_stands = field_stands raw_tx tx (field_start tx 2 0) (top_stands 0 (omega arith) y.four) y.four y.says 6 i l four

  -- ---- what is read there

  pub reads_version : u32_at tx (raw_at tx 0) ≡ u32_at (raw_field tx 0) 0
  unfolding raw_field word
  reads_version = let four : 4 ≤ length (field_of raw_tx 6 0) = omega (arith, raw_parts.1) in reads_number _ tx _ _ (raw_stands 0 (omega arith) four) (raw_at_lem 0 (omega arith) four) four

  fixvec-there : (i : ℕ) → i < 6 → (k : ℕ) → IsFixvec (field_of raw_tx 6 i) k → ReadsFixvec tx (raw_at tx i) k (raw_field tx i) (raw_start tx i)
  unfolding raw_field
  fixvec-there i l k c = reads_fixvec _ tx _ _ (raw_stands i l c.four) (raw_at_lem i l c.four) k c

  dynvec-there : (i : ℕ) → i < 6 → IsTable (field_of raw_tx 6 i) → ReadsDynvec tx (raw_at tx i) (raw_field tx i) (raw_start tx i)
  unfolding raw_field
  dynvec-there i l c = reads_dynvec _ tx _ _ (raw_stands i l c.four) (raw_at_lem i l c.four) c

  pub reads_cell-deps : ReadsFixvec tx (raw_at tx 1) 37 (raw_field tx 1) (raw_start tx 1)
  unfolding fixed size
  reads_cell-deps = fixvec-there 1 (omega arith) 37 (fixvec-is CellDep tt 37 refl (omega arith) _ raw_parts.2)

  pub reads_header-deps : ReadsFixvec tx (raw_at tx 2) 32 (raw_field tx 2) (raw_start tx 2)
  unfolding fixed size
  reads_header-deps = fixvec-there 2 (omega arith) 32 (fixvec-is Byte32 tt 32 refl (omega arith) _ raw_parts.3)

  pub reads_inputs : ReadsFixvec tx (raw_at tx 3) 44 (raw_field tx 3) (raw_start tx 3)
  unfolding fixed size
  reads_inputs = fixvec-there 3 (omega arith) 44 (fixvec-is CellInput tt 44 refl (omega arith) _ raw_parts.4)

  pub reads_outputs : ReadsDynvec tx (raw_at tx 4) (raw_field tx 4) (raw_start tx 4)
  reads_outputs = dynvec-there 4 (omega arith) (dynvec-table CellOutput _ raw_parts.5)

  pub reads_outputs_data : ReadsDynvec tx (raw_at tx 5) (raw_field tx 5) (raw_start tx 5)
  reads_outputs_data = dynvec-there 5 (omega arith) (dynvec-table Bytes _ raw_parts.6)

  pub reads_witnesses : ReadsDynvec tx (witnesses_at tx) (witnesses_of tx) (field_start tx 2 1)
  unfolding witnesses_of
  reads_witnesses = let c = dynvec-table Bytes _ tx_parts.2 in reads_dynvec _ tx _ _ (top_stands 1 (omega arith) c.four) (top_at 1 (omega arith) c.four) c
