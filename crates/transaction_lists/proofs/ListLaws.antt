-- Laws of specs/Lists.antt: how many items each list has, what they are and where they stand, in the words of the functions that read them.
use Rattle.std.proofs.Common.{◌≡◌, refl, sym, ap, ◌∙◌, ℕ, zero, suc, ◌+◌, ◌<◌, ◌≤◌, Bool, true, false, cond, List, [], ◌∷◌, arith, length, get_or}
use native.Mathlib.Nat.{add-zero, zero-add}
use borrow.Author.Tests.{lt-ltb, le-ltb}
use lib.ListN.{get_or-eq_default}
use Rattle.arithmetic.specs.LittleEndian.{u32_at}
use Rattle.molecule.specs.Molecule.{readable}
use Rattle.molecule.specs.Layout.{span, part, part_start, item_count, item_of, item_start, fix_item, fix_start, entry_of, entry_start}
use Rattle.molecule.proofs.Offsets.{span-length}
use Rattle.transaction.specs.Ckb.{Transaction}
use Rattle.transaction.specs.Tx.{Tx, tx_at, raw_field, witnesses_of}
use Rattle.reader.specs.Places.{table_at, table_start, fixvec_at, fixvec_start, raw_at, witnesses_at}
use Rattle.reader.proofs.TransactionLaws.{reads_cell-deps, reads_header-deps, reads_inputs, reads_outputs, reads_outputs_data, reads_witnesses}
use Rattle.transaction_lists.specs.Lists.{list_of, list_in, item_in, start_in, place_in_bytes}

span-at : {A : Type 0} (f : ℕ → A) (none : A) (j i k : ℕ) → i < k → get_or (span f j k) i none ≡ f (j + i)
unfolding span
span-at f none j i zero h = absurd (omega arith)
span-at f none j zero (suc k) h = ap f (sym (add-zero j))
span-at f none j (suc i) (suc k) h = span-at f none (suc j) i k (omega arith) ∙ ap f (omega arith)

-- ---- where there is none

-- bytes that are no transaction have no lists
pub unread : (tx : List ℕ) (list : ℕ) → readable Transaction tx ≡ false → list_in tx list ≡ []
unfolding list_in
unread tx list h = rw h

beyond : (tx : Tx) (list : ℕ) → 6 ≤ list → list_of tx list ≡ []
unfolding list_of
beyond tx list h = get_or-eq_default (tx.cell_deps ∷ tx.header_deps ∷ tx.inputs ∷ tx.outputs ∷ tx.outputs_data ∷ tx.witnesses ∷ []) [] h

-- there are six lists
pub none-beyond : (tx : List ℕ) (list : ℕ) → 6 ≤ list → list_in tx list ≡ []
unfolding list_in
none-beyond tx list h = by (readable Transaction tx)
  where
    by : (b : Bool) → cond b (list_of (tx_at tx) list) [] ≡ []
    by true = beyond (tx_at tx) list h
    by false = refl

pub item-none : (tx : List ℕ) (list i : ℕ) → length (list_in tx list) ≤ i → item_in tx list i ≡ []
item-none tx list i h = get_or-eq_default (list_in tx list) [] h

pub place_none : (tx : List ℕ) (list i : ℕ) → length (list_in tx list) ≤ i → place_in_bytes tx list i ≡ part_start tx 0 0
unfolding place_in_bytes part_start
place_none tx list i h = rw (le-ltb i (length (list_in tx list)) h) (omega arith)

-- ---- how many items there are

module _ (tx : List ℕ) (reads : readable Transaction tx ≡ true) where
  is-there : (list : ℕ) → list_in tx list ≡ list_of (tx_at tx) list
  unfolding list_in
  is-there list = rw reads

  counted : (list : ℕ) (f : ℕ → List ℕ) {m n : ℕ} → list_of (tx_at tx) list ≡ span f 0 m → n ≡ m → length (list_in tx list) ≡ n
  counted list f {m} l e = ap length (is-there list ∙ l) ∙ span-length f 0 m ∙ sym e

  pub count-cell-deps : length (list_in tx 0) ≡ u32_at tx (raw_at tx 1)
  unfolding list_of
  count-cell-deps = counted 0 (fix_item (raw_field tx 1) 37) refl (reads_cell-deps tx reads).count

  pub count-header-deps : length (list_in tx 1) ≡ u32_at tx (raw_at tx 2)
  unfolding list_of
  count-header-deps = counted 1 (fix_item (raw_field tx 2) 32) refl (reads_header-deps tx reads).count

  pub count-inputs : length (list_in tx 2) ≡ u32_at tx (raw_at tx 3)
  unfolding list_of
  count-inputs = counted 2 (fix_item (raw_field tx 3) 44) refl (reads_inputs tx reads).count

  pub count-outputs : length (list_in tx 3) ≡ item_count (table_at tx (raw_at tx 4))
  unfolding list_of
  count-outputs = counted 3 (item_of (raw_field tx 4)) refl (ap item_count (reads_outputs tx reads).list)

  pub count-outputs_data : length (list_in tx 4) ≡ item_count (table_at tx (raw_at tx 5))
  unfolding list_of
  count-outputs_data = counted 4 (entry_of (raw_field tx 5)) refl (ap item_count (reads_outputs_data tx reads).list)

  pub count-witnesses : length (list_in tx 5) ≡ item_count (table_at tx (witnesses_at tx))
  unfolding list_of
  count-witnesses = counted 5 (entry_of (witnesses_of tx)) refl (ap item_count (reads_witnesses tx reads).list)

-- ---- an item, where there is one

module _ (tx : List ℕ) (list i : ℕ) (h : i < length (list_in tx list)) where
  -- then there is a transaction
  pub reads_it : readable Transaction tx ≡ true
  reads_it = by (readable Transaction tx) refl
    where
      by : (b : Bool) → readable Transaction tx ≡ b → b ≡ true
      by true g = refl
      by false g = absurd (let z = ap length (unread tx list g) in omega arith)

  pub item_there : (f : ℕ → List ℕ) (m : ℕ) → list_of (tx_at tx) list ≡ span f 0 m → item_in tx list i ≡ f i
  item_there f m g =
      let l : list_in tx list ≡ span f 0 m = is-there tx reads_it list ∙ g in
      let w : i < m = omega (arith, ap length l, span-length f 0 m) in
      rw l (span-at f [] 0 i m w ∙ ap f (zero-add i))

  pub place_there : place_in_bytes tx list i ≡ start_in tx list i
  unfolding place_in_bytes
  place_there = rw (lt-ltb i (length (list_in tx list)) h)

module _ (tx : List ℕ) (i : ℕ) where
  pub item-cell-dep : i < length (list_in tx 0) → item_in tx 0 i ≡ fix_item (fixvec_at tx (raw_at tx 1) 37) 37 i
  unfolding list_of
  item-cell-dep h = item_there tx 0 i h (fix_item (raw_field tx 1) 37) _ refl ∙ rw ((reads_cell-deps tx (reads_it tx 0 i h)).list)

  pub place-cell-dep : i < length (list_in tx 0) → place_in_bytes tx 0 i ≡ fixvec_start tx (raw_at tx 1) 37 + fix_start (fixvec_at tx (raw_at tx 1) 37) 37 i
  unfolding start_in
  place-cell-dep h = let r = reads_cell-deps tx (reads_it tx 0 i h) in place_there tx 0 i h ∙ rw (r.list, r.begins)

  pub item-header-dep : i < length (list_in tx 1) → item_in tx 1 i ≡ fix_item (fixvec_at tx (raw_at tx 2) 32) 32 i
  unfolding list_of
  item-header-dep h = item_there tx 1 i h (fix_item (raw_field tx 2) 32) _ refl ∙ rw ((reads_header-deps tx (reads_it tx 1 i h)).list)

  pub place-header-dep : i < length (list_in tx 1) → place_in_bytes tx 1 i ≡ fixvec_start tx (raw_at tx 2) 32 + fix_start (fixvec_at tx (raw_at tx 2) 32) 32 i
  unfolding start_in
  place-header-dep h = let r = reads_header-deps tx (reads_it tx 1 i h) in place_there tx 1 i h ∙ rw (r.list, r.begins)

  pub item-input : i < length (list_in tx 2) → item_in tx 2 i ≡ fix_item (fixvec_at tx (raw_at tx 3) 44) 44 i
  unfolding list_of
  item-input h = item_there tx 2 i h (fix_item (raw_field tx 3) 44) _ refl ∙ rw ((reads_inputs tx (reads_it tx 2 i h)).list)

  pub place-input : i < length (list_in tx 2) → place_in_bytes tx 2 i ≡ fixvec_start tx (raw_at tx 3) 44 + fix_start (fixvec_at tx (raw_at tx 3) 44) 44 i
  unfolding start_in
  place-input h = let r = reads_inputs tx (reads_it tx 2 i h) in place_there tx 2 i h ∙ rw (r.list, r.begins)

  pub item-output : i < length (list_in tx 3) → item_in tx 3 i ≡ item_of (table_at tx (raw_at tx 4)) i
  unfolding list_of
  item-output h = item_there tx 3 i h (item_of (raw_field tx 4)) _ refl ∙ rw ((reads_outputs tx (reads_it tx 3 i h)).list)

  pub place-output : i < length (list_in tx 3) → place_in_bytes tx 3 i ≡ table_start tx (raw_at tx 4) + item_start (table_at tx (raw_at tx 4)) i
  unfolding start_in
  place-output h = let r = reads_outputs tx (reads_it tx 3 i h) in place_there tx 3 i h ∙ rw (r.list, r.begins)

  pub item-output_data : i < length (list_in tx 4) → item_in tx 4 i ≡ entry_of (table_at tx (raw_at tx 5)) i
  unfolding list_of
  item-output_data h = item_there tx 4 i h (entry_of (raw_field tx 5)) _ refl ∙ rw ((reads_outputs_data tx (reads_it tx 4 i h)).list)

  pub place-output_data : i < length (list_in tx 4) → place_in_bytes tx 4 i ≡ table_start tx (raw_at tx 5) + entry_start (table_at tx (raw_at tx 5)) i
  unfolding start_in
  place-output_data h = let r = reads_outputs_data tx (reads_it tx 4 i h) in place_there tx 4 i h ∙ rw (r.list, r.begins)

  pub item_witness : i < length (list_in tx 5) → item_in tx 5 i ≡ entry_of (table_at tx (witnesses_at tx)) i
  unfolding list_of
  item_witness h = item_there tx 5 i h (entry_of (witnesses_of tx)) _ refl ∙ rw ((reads_witnesses tx (reads_it tx 5 i h)).list)

  pub place_witness : i < length (list_in tx 5) → place_in_bytes tx 5 i ≡ table_start tx (witnesses_at tx) + entry_start (table_at tx (witnesses_at tx)) i
  unfolding start_in
  place_witness h = let r = reads_witnesses tx (reads_it tx 5 i h) in place_there tx 5 i h ∙ rw (r.list, r.begins)
