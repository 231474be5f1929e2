-- The base transaction of our own side (docs/RULES.md, "Our own side"; the Rust's `build_base_async` and `build_base_from_funding_cell`, with
-- `assemble_base_tx`, `add_udt_lock_dep` and `with_extra_cell_deps`): what is refused, in the order of the rules' table, and the transaction that is written,
-- list by list.
use Rattle.std.specs.Prelude.{ℕ, zero, suc, ◌-◌, Bool, not, ◌||◌, List, length, eqb}
use Rattle.molecule.specs.Items.{join, fix_list}
use Rattle.molecule.specs.Layout.{items_of}
use Rattle.molecule.specs.Molecule.{readable, option}
use Rattle.transaction.specs.Ckb.{TokenCells, CellDep, CellDeps, Transaction}
use Rattle.transaction.specs.Tx.{tx_at, raw_field, are_scripts}
use Rattle.error.specs.Outcome.{Outcome, fine, check, ◌>>=◌, ◌>>◌}
use Rattle.lists.specs.Lists.{is_empty}
use Rattle.units.specs.Units.{Figures}
use Rattle.transaction_writer.specs.Written.{tx_bytes}
use Rattle.funding_cell.specs.declared.FundingRequest.{FundingRequest}
use Rattle.funding_cell.specs.FundingCell.{funding_cell}
use Rattle.udt_cells.specs.Pick.{Pick, pick_typed}
use Rattle.udt_cells.specs.Change.{capacity_for}
use Rattle.base_inputs.specs.BaseInputs.{input_list}
use Rattle.base_lists.specs.BaseLists.{output_list, data_list, witness_list}
use Rattle.list_writer.specs.ListWriter.{if_positive}
use Rattle.cell_deps.specs.CellDeps.{cell_deps}

-- what is lent: our transaction (empty for none), the funding lock, the type (empty for none), our source lock, token cells, the token's deps (empty: not
-- supplied), the source lock's dep (empty: not supplied), and the extra deps
pub record Lent : Type 0 where
  pub ours : List ℕ
  pub lock : List ℕ
  pub udt : List ℕ
  pub source : List ℕ
  pub cells : List ℕ
  pub udt_deps : List ℕ
  pub lock_dep : List ℕ
  pub extra_deps : List ℕ

abbrev pub lent_of : List ℕ → List ℕ → List ℕ → List ℕ → List ℕ → List ℕ → List ℕ → List ℕ → Lent
lent_of ours lock udt source cells udt_deps lock_dep extra_deps =
    record { ours = ours; lock = lock; udt = udt; source = source; cells = cells; udt_deps = udt_deps; lock_dep = lock_dep; extra_deps = extra_deps }

-- a transaction as the lists of its packed items, and in bytes. Not `Tx`, whose data entries and witnesses are what they hold: here they are items, with the
-- word of their length
pub record Packed : Type 0 where
  pub version : ℕ
  pub cell_deps : List (List ℕ)
  pub header_deps : List (List ℕ)
  pub inputs : List (List ℕ)
  pub outputs : List (List ℕ)
  pub outputs_data : List (List ℕ)
  pub witnesses : List (List ℕ)

unfoldable pub packed : Packed → List ℕ
packed t =
    tx_bytes t.version (fix_list t.cell_deps) (fix_list t.header_deps) (fix_list t.inputs) (join t.outputs) (join t.outputs_data) (join t.witnesses)

-- ---- assemble_base_tx

-- the capacity of the change output; 0 where there is no change, and then there is no such output
unfoldable pub change_output_capacity : ℕ → List ℕ → List ℕ → ℕ
change_output_capacity zero source udt = 0
change_output_capacity (suc n) source udt = capacity_for source udt

-- `cell` is the funding cell, `pick` how many of the token cells are taken and what change is left
unfoldable pub base_tx : Lent → Figures → Pick → Packed
base_tx l cell pick =
    let present = tx_at l.ours in
    let later = length present.outputs - 1 in
    record {
      version = present.version;
      -- "present, token's and lock's if tokens were picked, extra; first occurrence only"
      cell_deps = cell_deps (raw_field l.ours 1) (if_positive pick.taken l.udt_deps) (if_positive pick.taken l.lock_dep) l.extra_deps;
      header_deps = present.header_deps;
      -- "present inputs then picked, with since 0"
      inputs = input_list (raw_field l.ours 3) l.cells pick.taken;
      -- "funding cell, present outputs after 0, change"
      outputs = output_list cell.capacity l.lock l.udt (raw_field l.ours 4) later (change_output_capacity pick.change l.source l.udt) l.source;
      -- "each output's data, empty if missing"
      outputs_data = data_list (not (is_empty l.udt)) cell.token (raw_field l.ours 5) later pick.change;
      -- "Witness 0 is the placeholder; if tokens were picked behind present inputs, .."
      witnesses = witness_list (length present.inputs) pick.taken;
    }

-- ---- the call

-- a lent list unreadable
unfoldable pub lists : List ℕ → List ℕ → List ℕ → List ℕ → Outcome (Unit {0})
lists cells udt_deps lock_dep extra_deps = do
  check 3 (readable TokenCells cells)
  check 3 (readable (option CellDeps) udt_deps)
  check 3 (readable (option CellDep) lock_dep)
  check 3 (readable CellDeps extra_deps)

-- tokens picked and deps not supplied: not so
unfoldable pub supplied : ℕ → List ℕ → Bool
supplied taken deps = eqb taken 0 || not (is_empty deps)

-- the base transaction in bytes, or why there is none
unfoldable pub with_pick : Lent → Figures → Pick → Outcome (List ℕ)
with_pick l cell pick = do
  -- tokens picked and the token's deps, or the lock's dep, not supplied
  check 11 (supplied pick.taken l.udt_deps)
  check 11 (supplied pick.taken l.lock_dep)
  fine (packed (base_tx l cell pick))

-- the funding cell is `cell`, and so much of the token is wanted
unfoldable pub with_cell : Lent → Figures → ℕ → Outcome (List ℕ)
with_cell l cell wanted = do
  -- data under 16 bytes, total 2^128 or more, list ended short
  pick ← pick_typed l.udt wanted (items_of l.cells)
  with_pick l cell pick

unfoldable pub with_request : Lent → FundingRequest → Outcome (List ℕ)
with_request l request = do
  -- a figure or sum too wide
  cell ← funding_cell (not (is_empty (tx_at l.ours).outputs)) (not (is_empty l.udt)) request
  with_cell l cell request.local_amount

unfoldable pub build_base : Lent → FundingRequest → Outcome (List ℕ)
build_base l request = do
  -- our transaction unreadable
  check 1 (readable (option Transaction) l.ours)
  -- a script or lent list unreadable
  check 3 (are_scripts l.lock l.udt l.source)
  lists l.cells l.udt_deps l.lock_dep l.extra_deps
  with_request l request
