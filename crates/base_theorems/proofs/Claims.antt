-- What is proved of the base transaction (docs/RULES.md, "Our own side"): of the bytes of `build_base`, where they fit a transaction, and so (`of_calls`)
-- of what `build_base` writes. The proofs are proofs/Base.antt.
use mathlib.Core.Path.{◌≡◌}
use Prim.Native.Nat.{ℕ, zero, suc, ◌+◌, ◌-◌, ◌≤◌}
use mathlib.Core.Bool.{true, false, not, cond}
use Rattle.std.specs.Prelude.{Ok}
use mathlib.Core.List.{List, [], ◌∷◌, ◌++◌, map}
use lib.ListN.{length, take, drop}
use Rattle.arithmetic.specs.LittleEndian.{to_le, AllBytes}
use Rattle.molecule.specs.Items.{join, fix_list}
use Rattle.molecule.specs.Layout.{items_of, content}
use Rattle.molecule.specs.Molecule.{Value, encode, readable, Good}
use Rattle.lists.specs.Lists.{contains, is_empty}
use Rattle.transaction.specs.Ckb.{Transaction}
use Rattle.transaction.specs.Tx.{Tx, tx_at, capacity_of, lock_of, type_of}
use Rattle.transaction.specs.Cells.{Cell, cells}
use Rattle.error.specs.Outcome.{fine, told}
use Rattle.units.specs.Units.{Figures}
use Rattle.lists.specs.Prefix.{Prefix}
use Rattle.funding_cell.specs.declared.FundingRequest.{FundingRequest}
use Rattle.funding_cell.specs.FundingCell.{funding_cell}
use Rattle.udt_cells.specs.Pick.{Pick, pick_typed}
use Rattle.udt_cells.specs.Change.{capacity_for}
use Rattle.udt_cells.proofs.PickTheorems.{held}
use Rattle.base_inputs.specs.BaseInputs.{picked_input}
use Rattle.transaction_writer.specs.Written.{written}
use Rattle.transaction_theorems.proofs.Claims.{value_tx}
use Rattle.transaction_theorems.proofs.WrittenReads.{HasFields}
use Rattle.funding_builder.specs.Base.{Lent, Packed, packed, base_tx, build_base}

-- P holds of the bytes of each call that is not refused, if they fit a transaction
abbrev pub Built : (Lent → FundingRequest → List ℕ → Type 0) → Type 0
Built P = (l : Lent) (request : FundingRequest) (bytes : List ℕ) → AllBytes l.ours → build_base l request ≡ fine bytes → length bytes ≤ 133116 → P l request bytes

-- P holds of the bytes that a call of `build_base` leaves at the start of the lent buffer, where it answers that it wrote n bytes: the premise is its
-- contract
abbrev pub Called : (Lent → FundingRequest → List ℕ → Type 0) → Type 0
Called P =
    (l : Lent) (request : FundingRequest) (out after : List ℕ) (n : ℕ) → AllBytes l.ours → (told (Ok n), after) ≡ written (build_base l request) out
    → P l request (take n after)

-- the figures of the funding cell, and the pick
pub record Figured (l : Lent) (request : FundingRequest) (cell : Figures) (pick : Pick) : Type 0 where
  pub is_cell : funding_cell (not (is_empty (tx_at l.ours).outputs)) (not (is_empty l.udt)) request ≡ fine cell
  pub is_pick : pick_typed l.udt request.local_amount (items_of l.cells) ≡ fine pick

-- what the bytes say their fields are: each list of t, in its list form
abbrev pub Holds : Packed → List ℕ → Type 0
Holds t s = HasFields s t.version (fix_list t.cell_deps) (fix_list t.header_deps) (fix_list t.inputs) (join t.outputs) (join t.outputs_data) (join t.witnesses)

-- the result is readable: and its lists are those of `base_tx`
pub record ReadsBack (l : Lent) (request : FundingRequest) (bytes : List ℕ) : Type 0 where
  pub cell : Figures
  pub pick : Pick
  pub figured : Figured l request cell pick
  pub is_readable : readable Transaction bytes ≡ true
  pub fields : Holds (base_tx l cell pick) bytes

-- the fields of t: of a data entry and of a witness what it holds
abbrev pub fields_of : Packed → Tx
fields_of t = record {
  version = t.version;
  cell_deps = t.cell_deps;
  header_deps = t.header_deps;
  inputs = t.inputs;
  outputs = t.outputs;
  outputs_data = map content t.outputs_data;
  witnesses = map content t.witnesses;
}

-- the bytes are the schema's encoding of a value, whose fields are those of `base_tx` (the Rust's `assemble_base_tx`)
pub record IsEncoded (l : Lent) (request : FundingRequest) (bytes : List ℕ) : Type 0 where
  pub cell : Figures
  pub pick : Pick
  pub figured : Figured l request cell pick
  pub tx : Value Transaction
  pub good : Good Transaction tx
  pub encodes : encode Transaction tx ≡ packed (base_tx l cell pick)
  pub is_base : bytes ≡ packed (base_tx l cell pick)
  pub fields : value_tx tx ≡ fields_of (base_tx l cell pick)

-- the premise holds of what stands in a buffer of bytes
abbrev pub Encodes : Lent → FundingRequest → List ℕ → Type 0
Encodes l request bytes = AllBytes bytes → IsEncoded l request bytes

-- its output 0 has the funding lock and type: and the capacity and data of the funding cell
pub record Funds (l : Lent) (request : FundingRequest) (bytes : List ℕ) : Type 0 where
  pub cell : Figures
  pub is_cell : funding_cell (not (is_empty (tx_at l.ours).outputs)) (not (is_empty l.udt)) request ≡ fine cell
  pub first : Cell
  pub later : List Cell
  pub is_first : cells (tx_at bytes) ≡ first ∷ later
  pub lock : lock_of first.output ≡ l.lock
  pub type_script : type_of first.output ≡ l.udt
  pub capacity : capacity_of first.output ≡ cell.capacity
  pub content : first.cell_data ≡ cond (not (is_empty l.udt)) (to_le 16 cell.token) []

-- present inputs and outputs after 0 keep their places: and version and header deps are the same
pub record Keeps (l : Lent) (request : FundingRequest) (bytes : List ℕ) : Type 0 where
  pub version : (tx_at bytes).version ≡ (tx_at l.ours).version
  pub header_deps : (tx_at bytes).header_deps ≡ (tx_at l.ours).header_deps
  pub inputs : Prefix (tx_at l.ours).inputs (tx_at bytes).inputs
  pub outputs : Prefix (drop 1 (tx_at l.ours).outputs) (drop 1 (tx_at bytes).outputs)

-- none of them stands there twice
abbrev pub Distinct : List (List ℕ) → Type 0
Distinct [] = Unit {0}
Distinct (x ∷ xs) = (contains x xs ≡ false) × Distinct xs

-- "first occurrence only"; "each output's data, empty if missing": so the premises of `Passes` (crates/base_compared) hold of a base that is
-- the present transaction of a further one
pub record Tidy (l : Lent) (request : FundingRequest) (bytes : List ℕ) : Type 0 where
  pub cell_deps : Distinct (tx_at bytes).cell_deps
  pub outputs_data : length (tx_at bytes).outputs_data ≡ length (tx_at bytes).outputs

-- a cell of change: our lock, the type, the capacity for its bytes, and so many tokens
pub record Change (l : Lent) (tokens : ℕ) (c : Cell) : Type 0 where
  pub lock : lock_of c.output ≡ l.source
  pub type_script : type_of c.output ≡ l.udt
  pub capacity : capacity_of c.output ≡ capacity_for l.source l.udt
  pub content : c.cell_data ≡ to_le 16 tokens

-- one such cell, or none where there is no change
abbrev pub Changes : Lent → ℕ → List Cell → Type 0
Changes l zero cs = cs ≡ []
Changes l (suc n) [] = ⊥
Changes l (suc n) (c ∷ cs) = Change l (suc n) c × (cs ≡ [])

-- "cells in list order until the total reaches it"; "A remainder makes one change output with our lock, the type and 16 data bytes"
pub record Balanced (l : Lent) (request : FundingRequest) (bytes : List ℕ) : Type 0 where
  pub pick : Pick
  pub is_pick : pick_typed l.udt request.local_amount (items_of l.cells) ≡ fine pick
  -- the inputs behind the present ones spend the first cells, and these hold the local amount and the change
  pub inputs : (tx_at bytes).inputs ≡ (tx_at l.ours).inputs ++ map picked_input (take pick.taken (items_of l.cells))
  pub amounts : is_empty l.udt ≡ false → held (take pick.taken (items_of l.cells)) ≡ request.local_amount + pick.change
  -- behind the funding cell and the present outputs after 0 stands the change
  pub change : Changes l pick.change (drop (suc (length (tx_at l.ours).outputs - 1)) (cells (tx_at bytes)))

abbrev pub Readable : Type 0
Readable = Built ReadsBack

abbrev pub Encoded : Type 0
Encoded = Built Encodes

abbrev pub FirstOutput : Type 0
FirstOutput = Built Funds

abbrev pub Kept : Type 0
Kept = Built Keeps

abbrev pub Tidied : Type 0
Tidied = Built Tidy

abbrev pub InBalance : Type 0
InBalance = Built Balanced

abbrev pub OfCalls : Type 1
OfCalls = (P : Lent → FundingRequest → List ℕ → Type 0) → Built P → Called P
