-- The claims on the base transaction, proved.
use mathlib.Core.Path.{◌≡◌, refl, sym, ap, ap₂, ◌∙◌, subst}
use Prim.Native.Nat.{ℕ, zero, suc, ◌+◌, ◌-◌, ◌^◌, ◌≤◌, ◌<◌}
use mathlib.Core.Bool.{Bool, true, false, not, cond, ◌&&◌, and-eq-true_iff}
use Rattle.std.specs.Prelude.{Ok}
use mathlib.Core.List.{List, [], ◌∷◌, ◌++◌, map}
use native.Mathlib.Omega.{arith}
use borrow.Author.Tests.{leb-true}
use lib.Dec.{leb}
use lib.ListN.{length, take, drop, length-append, length-drop}
use lib.Seq.{take_at}
use Rattle.arithmetic.specs.LittleEndian.{to_le, AllBytes}
use Rattle.arithmetic.proofs.LittleEndianLaws.{length-to_le}
use Rattle.molecule.specs.Partial.{All}
use Rattle.molecule.specs.Items.{join, fix_list}
use Rattle.molecule.specs.Layout.{span, item_of, items_of, item_count, fix_items, content, entry_of}
use Rattle.molecule.specs.Molecule.{size, decode, readable, option}
use Rattle.molecule.proofs.Valid.{fixed, has_bytes, valid}
use Rattle.molecule.proofs.PartialLaws.{there-some}
use Rattle.molecule.proofs.MoleculeLaws.{accepted}
use Rattle.molecule.proofs.ItemsLaws.{short_join}
use Rattle.molecule.proofs.Offsets.{span-length}
use Rattle.molecule.proofs.ReadableLaws.{every}
use Rattle.lists.proofs.SpanLaws.{span-drop}
use Rattle.transaction.specs.Ckb.{Bytes, CellDep, CellDeps, Script, CellOutput, Transaction, TokenCells}
use Rattle.transaction.specs.Tx.{Tx, tx_at, raw_field, are_scripts}
use Rattle.transaction_writer.specs.Written.{fits, in_room, written}
use Rattle.transaction_writer.proofs.PutLaws.{tx_length}
use Rattle.transaction.specs.Cells.{Cell, pair, cells}
use Rattle.error.specs.Outcome.{Outcome, fine, refused, told, answer_by, putting, check, ◌>>◌}
use Rattle.lists.specs.Lists.{is_empty}
use Rattle.units.specs.Units.{Figures}
use Rattle.lists.specs.Prefix.{Prefix}
use Rattle.lists.proofs.PrefixLaws.{prefix_trans, prefix_length}
use Rattle.error.proofs.Passed.{is_true, never, fine_inj, bound-fine, check-fine, check_last, then-fine}
use Rattle.funding_cell.specs.declared.FundingRequest.{FundingRequest}
use Rattle.funding_cell.specs.FundingCell.{funding_cell}
use Rattle.funding_cell.proofs.FundingCellLaws.{capacity-low}
use Rattle.cell_output.specs.CellOutput.{cell_output}
use Rattle.udt_cells.proofs.OutputReads.{output-readable, output-lock, output-type, output-capacity}
use Rattle.udt_cells.specs.Pick.{Pick, pick_typed}
use Rattle.list_writer.specs.ListWriter.{bytes_item, items_after_first, if_any, if_positive}
use Rattle.list_writer.proofs.HeadLaws.{later-length}
use Rattle.list_writer.proofs.AgainLaws.{if_readable}
use Rattle.base_inputs.specs.BaseInputs.{picked, input_list}
use Rattle.base_lists.specs.BaseLists.{amount_item, output_list, data_list}
use Rattle.cell_deps.specs.CellDeps.{push_all, all_deps, cell_deps}
use Rattle.cell_deps.proofs.LongLaws.{long-append, cell-deps-long}
use Rattle.transaction_theorems.proofs.FieldsDecoded.{transaction_fields}
use Rattle.funding_builder.specs.Base.{Lent, Packed, packed, base_tx, change_output_capacity, supplied, lists, with_pick, with_cell, with_request, build_base}
use Rattle.funding_builder.proofs.PresentLaws.{deps-readable, option-of}
use Rattle.base_theorems.proofs.Claims.{Figured, ReadsBack, fields_of, Encodes, Funds, Keeps, Distinct, Built, Readable, Encoded, FirstOutput, Kept, Tidy, Tidied, Changes, Balanced, InBalance, OfCalls}
use Rattle.base_theorems.proofs.PackedLaws.{Formed, ReadsAs, reads_as, item-readable, item-content}
use Rattle.base_theorems.proofs.BeginLaws.{prefix_append, deps_begin, all_distinct, entries_begin, map-append}
use Rattle.base_theorems.proofs.FormLaws.{Present, present, version_low, every_append, later-is, later-outputs, later_data, all_right, last_every, witnesses-readable, typed-within, picked-long}
use Rattle.base_theorems.proofs.ChangeLaws.{spends, typed-amounts, change-count, change-cells, map-length, behind}

-- ---- what a call that is not refused has found

record Made (l : Lent) (request : FundingRequest) (bytes : List ℕ) : Type 0 where
  pub cell : Figures
  pub pick : Pick
  pub figured : Figured l request cell pick
  pub is : packed (base_tx l cell pick) ≡ bytes
  pub ours : readable (option Transaction) l.ours ≡ true
  pub lock : readable Script l.lock ≡ true
  pub udt : readable (option Script) l.udt ≡ true
  pub source : readable Script l.source ≡ true
  pub cells : readable TokenCells l.cells ≡ true
  pub udt_deps : readable (option CellDeps) l.udt_deps ≡ true
  pub lock_dep : readable (option CellDep) l.lock_dep ≡ true
  pub extra_deps : readable CellDeps l.extra_deps ≡ true

made : (l : Lent) (request : FundingRequest) (bytes : List ℕ) → build_base l request ≡ fine bytes → Made l request bytes
unfolding build_base with_request with_cell with_pick lists
made l request bytes e =
    let (o, e₁) = check-fine 1 (readable (option Transaction) l.ours) _ bytes e in
    let (s, e₂) = check-fine 3 (are_scripts l.lock l.udt l.source) _ bytes e₁ in
    let (i, e₃) = then-fine (lists l.cells l.udt_deps l.lock_dep l.extra_deps) _ bytes e₂ in
    let (cell, c, e₄) = bound-fine (funding_cell (not (is_empty (tx_at l.ours).outputs)) (not (is_empty l.udt)) request) _ bytes e₃ in
    let (pick, p, e₅) = bound-fine (pick_typed l.udt request.local_amount (items_of l.cells)) _ bytes e₄ in
    let (_, e₆) = check-fine 11 (supplied pick.taken l.udt_deps) _ bytes e₅ in
    let (_, e₇) = check-fine 11 (supplied pick.taken l.lock_dep) _ bytes e₆ in
    let s₁ = (and-eq-true_iff _ (readable Script l.source)).0 (is_true _ s) in
    let s₂ = (and-eq-true_iff (readable Script l.lock) (readable (option Script) l.udt)).0 s₁.0 in
    let i₁ = check-fine 3 (readable TokenCells l.cells) _ tt i in
    let i₂ = check-fine 3 (readable (option CellDeps) l.udt_deps) _ tt i₁.1 in
    let i₃ = check-fine 3 (readable (option CellDep) l.lock_dep) _ tt i₂.1 in
    record {
      cell = cell;
      pick = pick;
      figured = record { is_cell = c; is_pick = p };
      is = fine_inj e₇;
      ours = is_true _ o;
      lock = s₂.0;
      udt = s₂.1;
      source = s₁.1;
      cells = is_true _ i₁.0;
      udt_deps = is_true _ i₂.0;
      lock_dep = is_true _ i₃.0;
      extra_deps = is_true _ (check_last 3 (readable CellDeps l.extra_deps) tt i₃.1);
    }

-- a token amount as data
amount-readable : (n : ℕ) → readable Bytes (amount_item n) ≡ true
amount-readable n = item-readable (to_le 16 n) (omega (arith, length-to_le 16 n))

first-content : (typed : Bool) (n : ℕ) → content (cond typed (amount_item n) (bytes_item [])) ≡ cond typed (to_le 16 n) []
first-content true n = item-content (to_le 16 n)
first-content false n = item-content []

-- which lists of a base go on from those of the present transaction: cell deps, if none stands there twice; outputs; data entries, if no more than outputs
pub record GoesOn (ours after : Tx) : Type 0 where
  pub cell_deps : Distinct ours.cell_deps → Prefix ours.cell_deps after.cell_deps
  pub outputs : length ours.outputs ≤ length after.outputs
  pub as_many : length ours.outputs_data ≤ length ours.outputs → length ours.outputs_data ≤ length after.outputs_data
  pub entries : length ours.outputs_data ≤ length ours.outputs → Prefix (drop 1 ours.outputs_data) (drop 1 after.outputs_data)

module _ (l : Lent) (request : FundingRequest) (bytes : List ℕ) (b : AllBytes l.ours) (e : build_base l request ≡ fine bytes) (short : length bytes ≤ 133116) where
  abbrev m : Made l request bytes
  m = made l request bytes e

  abbrev base : Packed
  base = base_tx l m.cell m.pick

  abbrev ours : Present l.ours
  ours = present l.ours m.ours

  abbrev after : ℕ
  after = length (tx_at l.ours).outputs - 1

  abbrev back : ℕ
  back = change_output_capacity m.pick.change l.source l.udt

  base_short : length (packed base) ≤ 133116
  base_short = rw m.is short

  outputs_are : base.outputs ≡ cell_output m.cell.capacity l.lock l.udt ∷ items_after_first (raw_field l.ours 4) after ++ if_any (if_positive back (cell_output back l.source l.udt))
  unfolding base_tx output_list
  outputs_are = refl

  data_are : base.outputs_data ≡ cond (not (is_empty l.udt)) (amount_item m.cell.token) (bytes_item []) ∷ items_after_first (raw_field l.ours 5) after ++ if_any (if_positive m.pick.change (amount_item m.pick.change))
  unfolding base_tx data_list
  data_are = refl

  outputs_all : All (λ (x : List ℕ). length x < 2 ^ 32) (cell_output m.cell.capacity l.lock l.udt ∷ items_after_first (raw_field l.ours 4) after ++ if_any (if_positive back (cell_output back l.source l.udt)))
  unfolding packed
  outputs_all =
      let n = tx_length base.version (fix_list base.cell_deps) (fix_list base.header_deps) (fix_list base.inputs) (join base.outputs) (join base.outputs_data) (join base.witnesses) in
      let j : length (join base.outputs) < 2 ^ 32 = omega (arith, base_short) in
      rw outputs_are at (short_join (2 ^ 32) base.outputs j)

  outputs-readable : every (readable CellOutput) base.outputs ≡ true
  unfolding every
  outputs-readable =
      ap (every (readable CellOutput)) outputs_are
      ∙ ap₂ ◌&&◌ (output-readable m.cell.capacity l.lock l.udt outputs_all.0 m.lock m.udt)
      (every_append (readable CellOutput) (items_after_first (raw_field l.ours 4) after) (if_any (if_positive back (cell_output back l.source l.udt)))
      (later-outputs (raw_field l.ours 4) after refl ours.outputs)
      (last_every (readable CellOutput) back (cell_output back l.source l.udt) (λ few. output-readable back l.source l.udt few m.source m.udt)
      (all_right (λ (x : List ℕ). length x < 2 ^ 32) (items_after_first (raw_field l.ours 4) after) _ outputs_all.1)))

  first_data : (typed : Bool) → readable Bytes (cond typed (amount_item m.cell.token) (bytes_item [])) ≡ true
  first_data true = amount-readable m.cell.token
  first_data false = item-readable [] (omega arith)

  last_data : (n k : ℕ) → every (readable Bytes) (if_any (if_positive k (amount_item n))) ≡ true
  unfolding if_any if_positive every
  last_data n zero = refl
  last_data n (suc k) = by (amount_item n) (amount-readable n)
    where
      by : (x : List ℕ) → readable Bytes x ≡ true → every (readable Bytes) (if_any x) ≡ true
      by [] h = refl
      by (c ∷ x) h = ap (λ (d : Bool). d && true) h

  data_readable : every (readable Bytes) base.outputs_data ≡ true
  unfolding every
  data_readable =
      ap (every (readable Bytes)) data_are
      ∙ ap₂ ◌&&◌ (first_data (not (is_empty l.udt)))
      (every_append (readable Bytes) (items_after_first (raw_field l.ours 5) after) (if_any (if_positive m.pick.change (amount_item m.pick.change)))
      (later_data (raw_field l.ours 5) after ours.outputs_data) (last_data m.pick.change m.pick.change))

  formed : Formed base
  unfolding base_tx input_list
  formed = record {
    low = version_low l.ours m.ours b;
    cell_deps =
        cell-deps-long (raw_field l.ours 1) (if_positive m.pick.taken l.udt_deps) (if_positive m.pick.taken l.lock_dep) l.extra_deps
        (deps-readable l.ours m.ours) (if_readable CellDeps m.pick.taken l.udt_deps m.udt_deps) (if_readable CellDep m.pick.taken l.lock_dep m.lock_dep) (option-of CellDeps l.extra_deps m.extra_deps);
    header_deps = ours.header_deps;
    inputs =
        long-append 44 (fix_items 44 (raw_field l.ours 3)) (span (picked l.cells) 0 m.pick.taken) ours.inputs
        (picked-long l.udt l.cells request.local_amount m.pick m.cells m.figured.is_pick);
    outputs = outputs-readable;
    outputs_data = data_readable;
    witnesses = witnesses-readable (length (tx_at l.ours).inputs) m.pick.taken;
  }

  reads : ReadsAs base bytes
  reads = rw m.is at (reads_as base formed base_short)

  reads_back : ReadsBack l request bytes
  reads_back = record {
    cell = m.cell;
    pick = m.pick;
    figured = m.figured;
    is_readable = reads.is_readable;
    fields = reads.fields;
  }

  -- ---- the schema's encoding

  is_encoded : Encodes l request bytes
  unfolding valid fixed has_bytes size
  is_encoded a =
      let (v, d) = (there-some (decode Transaction bytes)).0 (unfold readable in reads.is_readable) in
      let x = (accepted Transaction tt bytes a (omega arith) v).0 d in
      record {
        cell = m.cell;
        pick = m.pick;
        figured = m.figured;
        tx = v;
        good = x.0;
        encodes = x.1 ∙ sym m.is;
        is_base = sym m.is;
        fields = sym (transaction_fields bytes a v d).fields ∙ same_fields;
      }
    where
      same_fields : tx_at bytes ≡ fields_of base
      same_fields = λ i. record {
        version = reads.fields.version i;
        cell_deps = reads.cell_deps i;
        header_deps = reads.header_deps i;
        inputs = reads.inputs i;
        outputs = reads.outputs i;
        outputs_data = reads.outputs_data i;
        witnesses = reads.witnesses i;
      }

  -- ---- output 0

  abbrev changes : List (List ℕ)
  changes = if_any (if_positive back (cell_output back l.source l.udt))

  abbrev changed : List (List ℕ)
  changed = if_any (if_positive m.pick.change (amount_item m.pick.change))

  abbrev output : List ℕ
  output = cell_output m.cell.capacity l.lock l.udt

  abbrev item : List ℕ
  item = cond (not (is_empty l.udt)) (amount_item m.cell.token) (bytes_item [])

  all_outputs : (tx_at bytes).outputs ≡ output ∷ items_after_first (raw_field l.ours 4) after ++ changes
  all_outputs = reads.outputs ∙ outputs_are

  all_data : (tx_at bytes).outputs_data ≡ content item ∷ map content (items_after_first (raw_field l.ours 5) after ++ changed)
  all_data = reads.outputs_data ∙ ap (map content) data_are

  cells_are : cells (tx_at bytes) ≡ record { output = output; cell_data = content item } ∷ pair (items_after_first (raw_field l.ours 4) after ++ changes) (map content (items_after_first (raw_field l.ours 5) after ++ changed))
  cells_are = ap₂ pair all_outputs all_data

  funds : Funds l request bytes
  funds =
      let s = outputs_all.0 in
      record {
        cell = m.cell;
        is_cell = m.figured.is_cell;
        first = record { output = output; cell_data = content item };
        later = pair (items_after_first (raw_field l.ours 4) after ++ changes) (map content (items_after_first (raw_field l.ours 5) after ++ changed));
        is_first = cells_are;
        lock = output-lock m.cell.capacity l.lock l.udt s;
        type_script = output-type m.cell.capacity l.lock l.udt s;
        capacity =
            output-capacity m.cell.capacity l.lock l.udt s (capacity-low (not (is_empty (tx_at l.ours).outputs)) (not (is_empty l.udt)) request m.cell m.figured.is_cell);
        content = first-content (not (is_empty l.udt)) m.cell.token;
      }

  -- ---- what stands at its place

  all_inputs : (tx_at bytes).inputs ≡ (tx_at l.ours).inputs ++ span (picked l.cells) 0 m.pick.taken
  unfolding base_tx input_list
  all_inputs = reads.inputs

  keeps : Keeps l request bytes
  keeps = record {
    version = unfold base_tx in reads.fields.version;
    header_deps = unfold base_tx in reads.header_deps;
    inputs = subst (λ (xs : List (List ℕ)). Prefix (tx_at l.ours).inputs xs) (sym all_inputs) (prefix_append (tx_at l.ours).inputs (span (picked l.cells) 0 m.pick.taken));
    outputs = subst (λ (xs : List (List ℕ)). Prefix (drop 1 (tx_at l.ours).outputs) xs) (sym later-outputs_are) (prefix_append (drop 1 (tx_at l.ours).outputs) changes);
  }
    where
      later-outputs_are : drop 1 (tx_at bytes).outputs ≡ drop 1 (tx_at l.ours).outputs ++ changes
      later-outputs_are = ap (drop 1) all_outputs ∙ ap (λ (xs : List (List ℕ)). xs ++ changes) (later-is (raw_field l.ours 4) after refl)

  -- ---- what goes on from the present one

  abbrev before : Tx
  before = tx_at l.ours

  all_deps_lem : (tx_at bytes).cell_deps ≡ push_all [] (all_deps (raw_field l.ours 1) (if_positive m.pick.taken l.udt_deps) (if_positive m.pick.taken l.lock_dep) l.extra_deps)
  unfolding base_tx cell_deps
  all_deps_lem = reads.cell_deps

  deps-kept : Distinct before.cell_deps → Prefix before.cell_deps (tx_at bytes).cell_deps
  deps-kept d =
      subst (λ (xs : List (List ℕ)). Prefix before.cell_deps xs) (sym all_deps_lem)
      (deps_begin before.cell_deps (fix_items 37 (if_positive m.pick.taken l.udt_deps)) (if_any (if_positive m.pick.taken l.lock_dep)) (fix_items 37 l.extra_deps) d)

  outputs-count : length before.outputs ≤ length (tx_at bytes).outputs
  outputs-count =
      let p = prefix_length keeps.outputs in
      let n : length (tx_at bytes).outputs ≡ suc (length (items_after_first (raw_field l.ours 4) after ++ changes)) = ap length all_outputs in
      omega (arith, length-drop 1 before.outputs, length-drop 1 (tx_at bytes).outputs)

  abbrev entries : List ℕ
  entries = raw_field l.ours 5

  later-count : length (map content (items_after_first entries after ++ changed)) ≡ after + length changed
  later-count =
      ap length (map-append (items_after_first entries after) changed) ∙ length-append (map content (items_after_first entries after)) (map content changed)
      ∙ ap₂ ◌+◌ (map-length (items_after_first entries after) ∙ later-length entries after) (map-length changed)

  data_count : length before.outputs_data ≤ length before.outputs → length before.outputs_data ≤ length (tx_at bytes).outputs_data
  data_count h =
      let n : length (tx_at bytes).outputs_data ≡ suc (length (map content (items_after_first entries after ++ changed))) = ap length all_data in
      omega (arith, later-count)

  data_kept : length before.outputs_data ≤ length before.outputs → Prefix (drop 1 before.outputs_data) (drop 1 (tx_at bytes).outputs_data)
  data_kept h = rw (tail, rest) (prefix_trans here (prefix_append (map content (items_after_first entries after)) (map content changed)))
    where
      tail : drop 1 before.outputs_data ≡ span (entry_of entries) 1 (item_count entries - 1)
      tail = span-drop (entry_of entries) 1 0 (item_count entries)

      rest : drop 1 (tx_at bytes).outputs_data ≡ map content (items_after_first entries after) ++ map content changed
      rest = ap (drop 1) all_data ∙ map-append (items_after_first entries after) changed

      here : Prefix (span (entry_of entries) 1 (item_count entries - 1)) (map content (items_after_first entries after))
      here = unfold items_after_first in
          (let n : length before.outputs_data ≡ item_count entries = span-length (entry_of entries) 0 (item_count entries) in
          entries_begin entries 1 (item_count entries - 1) after (omega arith) (omega arith))

  goes_on : GoesOn before (tx_at bytes)
  goes_on = record { cell_deps = deps-kept; outputs = outputs-count; as_many = data_count; entries = data_kept }

  -- ---- deps and data of the base itself

  tidy : Tidy l request bytes
  tidy =
      let n : length (tx_at bytes).outputs ≡ suc (length (items_after_first (raw_field l.ours 4) after ++ changes)) = ap length all_outputs in
      let k : length (tx_at bytes).outputs_data ≡ suc (length (map content (items_after_first entries after ++ changed))) = ap length all_data in
      let o : length (items_after_first (raw_field l.ours 4) after) ≡ after = later-length (raw_field l.ours 4) after in
      record {
        cell_deps = subst (λ (xs : List (List ℕ)). Distinct xs) (sym all_deps_lem) (all_distinct [] (all_deps (raw_field l.ours 1) (if_positive m.pick.taken l.udt_deps) (if_positive m.pick.taken l.lock_dep) l.extra_deps) tt);
        outputs_data = omega (arith, later-count, length-append (items_after_first (raw_field l.ours 4) after) changes, change-count l.source l.udt m.pick.change);
      }

  -- ---- the picked cells and the change

  balanced : Balanced l request bytes
  balanced = record {
    pick = m.pick;
    is_pick = m.figured.is_pick;
    inputs = all_inputs ∙ ap (λ (xs : List (List ℕ)). before.inputs ++ xs) (spends l.cells 0 m.pick.taken (item_count l.cells) few);
    amounts = typed-amounts l.udt request.local_amount (items_of l.cells) m.pick m.figured.is_pick;
    change = subst (λ (cs : List Cell). Changes l m.pick.change cs) (sym last)
        (change-cells l m.pick.change (all_right (λ (x : List ℕ). length x < 2 ^ 32) (items_after_first (raw_field l.ours 4) after) changes outputs_all.1));
  }
    where
      few : m.pick.taken ≤ item_count l.cells
      few =
          let n : length (items_of l.cells) ≡ item_count l.cells = span-length (item_of l.cells) 0 (item_count l.cells) in
          omega (arith, typed-within l.udt request.local_amount (items_of l.cells) m.pick m.figured.is_pick)

      last : drop (suc after) (cells (tx_at bytes)) ≡ pair changes (map content changed)
      last =
          ap (drop (suc after)) cells_are
          ∙ behind after (items_after_first (raw_field l.ours 4) after) (items_after_first entries after) changes changed (later-length (raw_field l.ours 4) after) (later-length entries after)

-- the result is readable
pub is-readable : Readable
is-readable l request bytes b e short = reads_back l request bytes b e short

-- as a value of the schema, `base_tx` list by list
pub encoded : Encoded
encoded l request bytes b e short = is_encoded l request bytes b e short

-- its output 0 has the funding lock and type
pub first-output : FirstOutput
first-output l request bytes b e short = funds l request bytes b e short

-- present inputs and outputs after 0 keep their places
pub kept : Kept
kept l request bytes b e short = keeps l request bytes b e short

-- the lists that go on, for what asks more of them (crates/base_compared)
pub continued : Built (λ l _ bytes. GoesOn (tx_at l.ours) (tx_at bytes))
continued l request bytes b e short = goes_on l request bytes b e short

-- "first occurrence only"; "each output's data, empty if missing"
pub tidied : Tidied
tidied l request bytes b e short = tidy l request bytes b e short

-- "cells in list order until the total reaches it"; "A remainder makes one change output .."
pub in_balance : InBalance
in_balance l request bytes b e short = balanced l request bytes b e short

-- ---- what `build_base` leaves in the lent buffer

record Left (tx : Outcome (List ℕ)) (after : List ℕ) (n : ℕ) : Type 0 where
  pub bytes : List ℕ
  pub is_built : tx ≡ fine bytes
  pub short : length bytes ≤ 133116
  pub begins : take n after ≡ bytes

fits_short : (n room : ℕ) → fits n room ≡ true → n ≤ 133116
unfolding fits
fits_short n room h = leb-true n 133116 ((and-eq-true_iff (leb n 133116) (leb n room)).0 h).0

left : (tx : Outcome (List ℕ)) (out after : List ℕ) (n : ℕ) → (told (Ok n), after) ≡ written tx out → Left tx after n
unfolding answer_by
left tx out after n e = by (in_room out tx) refl e
  where
    by : (o : Outcome (List ℕ)) → in_room out tx ≡ o → (told (Ok n), after) ≡ putting length (λ (x : List ℕ). x) o out → Left tx after n
    by (refused k x) f g = absurd (never k x n (sym (ap (λ (p : Outcome ℕ × List ℕ). p.0) g)))
    by (fine bytes) f g =
        let many : n ≡ length bytes = fine_inj (ap (λ (p : Outcome ℕ × List ℕ). p.0) g) in
        let holds : after ≡ bytes ++ drop (length bytes) out = ap (λ (p : Outcome ℕ × List ℕ). p.1) g in
        let (made, i, h) = bound-fine tx (λ (x : List ℕ). check 13 (fits (length x) (length out)) >> fine x) bytes (unfold in_room in f) in
        let (room, q) = check-fine 13 (fits (length made) (length out)) (fine made) bytes h in
        let same : made ≡ bytes = fine_inj q in
        record {
          bytes = bytes;
          is_built = i ∙ ap fine same;
          short = subst (λ (x : List ℕ). length x ≤ 133116) same (fits_short (length made) (length out) (is_true _ room));
          begins = ap (take n) holds ∙ take_at bytes (drop (length bytes) out) n (sym many);
        }

-- what is proved of built bytes holds of those that a call writes
pub of_calls : OfCalls
of_calls P h l request out after n b e =
    let x = left (build_base l request) out after n e in
    subst (λ (s : List ℕ). P l request s) (sym x.begins) (h l request x.bytes b x.is_built x.short)
