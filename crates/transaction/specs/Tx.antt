-- What the bytes of a transaction and of its parts say (RFC 0019). Everything here is total; of bytes that are no transaction it says what the
-- readers answer.
use Rattle.std.specs.Prelude.{ℕ, ◌+◌, Bool, ◌&&◌, List}
use Rattle.std.proofs.Math.Option.{Option, some}
use Rattle.arithmetic.specs.LittleEndian.{u32_at, u64_at}
use Rattle.molecule.specs.Partial.{only}
use Rattle.molecule.specs.Molecule.{option, readable}
use Rattle.molecule.specs.Layout.{part, field_of, field_start, items_of, fix_items, content, entries_of}
use Rattle.transaction.specs.Ckb.{Script, Transaction}

-- outputs, deps and inputs are their bytes; a data entry and a witness is what it holds
pub record Tx : Type 0 where
  pub version : ℕ
  pub cell_deps : List (List ℕ)
  pub header_deps : List (List ℕ)
  pub inputs : List (List ℕ)
  pub outputs : List (List ℕ)
  pub outputs_data : List (List ℕ)
  pub witnesses : List (List ℕ)

-- field i of the raw transaction, and where it starts
unfoldable pub raw_field : List ℕ → ℕ → List ℕ
raw_field s i = field_of (field_of s 2 0) 6 i

unfoldable pub raw_start : List ℕ → ℕ → ℕ
raw_start s i = field_start s 2 0 + field_start (field_of s 2 0) 6 i

unfoldable pub witnesses_of : List ℕ → List ℕ
witnesses_of s = field_of s 2 1

-- of no bytes: version 0 and empty lists
abbrev pub tx_at : List ℕ → Tx
tx_at s = record {
  version = u32_at (raw_field s 0) 0;
  cell_deps = fix_items 37 (raw_field s 1);
  header_deps = fix_items 32 (raw_field s 2);
  inputs = fix_items 44 (raw_field s 3);
  outputs = items_of (raw_field s 4);
  outputs_data = entries_of (raw_field s 5);
  witnesses = entries_of (witnesses_of s);
}

unfoldable pub read_tx : List ℕ → Option Tx
read_tx s = only (readable Transaction s) (some (tx_at s))

-- our transaction, which may be none
unfoldable pub read_ours : List ℕ → Option Tx
read_ours s = only (readable (option Transaction) s) (some (tx_at s))

-- the expected funding lock, the expected type, which may be none, and our source lock
abbrev pub are_scripts : List ℕ → List ℕ → List ℕ → Bool
are_scripts lock type source = readable Script lock && readable (option Script) type && readable Script source

-- ---- the args of a script

unfoldable pub args_of : List ℕ → List ℕ
args_of s = content (field_of s 3 2)

-- ---- an output

unfoldable pub capacity_of : List ℕ → ℕ
capacity_of o = u64_at (field_of o 3 0) 0

unfoldable pub lock_of : List ℕ → List ℕ
lock_of o = field_of o 3 1

-- empty where there is none
unfoldable pub type_of : List ℕ → List ℕ
type_of o = field_of o 3 2

-- ---- the out point that an input spends

unfoldable pub previous_output_of : List ℕ → List ℕ
previous_output_of i = part i 8 44

-- ---- a record (output, data) or a token cell (out point, data)

unfoldable pub first_of : List ℕ → List ℕ
first_of r = field_of r 2 0

unfoldable pub data_of : List ℕ → List ℕ
data_of r = content (field_of r 2 1)
