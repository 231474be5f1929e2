-- The list of updates that a caller lends to `replay`, and the calls that it stands for (ours: docs/DECISIONS.md, "Lists of updates"). It is a list of unsized
-- items as in docs/RULES.md, "The bytes underneath".
use Rattle.std.specs.Prelude.{ℕ, zero, suc, ◌+◌, List}
use Rattle.arithmetic.specs.LittleEndian.{u64_at}
use Rattle.molecule.specs.Molecule.{Ty, table, dynvec, end, ◌&◌}
use Rattle.molecule.specs.Layout.{inside, field_of, field_start, item_of, item_start, item_count, content, content_start, span}
use Rattle.transaction.specs.Ckb.{Bytes, Uint64}
use Rattle.rules.specs.Judge.{Call}

-- the peer's transaction, the records, the source lock, and the fee rate; whether the first three are readable is for the rules to say
abbrev pub UpdateTable : Ty
UpdateTable = table (Bytes & Bytes & Bytes & Uint64 & end)

abbrev pub Updates : Ty
Updates = dynvec UpdateTable

-- the bytes of field j of update i, and where they start
unfoldable pub field_bytes : List ℕ → ℕ → ℕ → List ℕ
field_bytes s i j = content (field_of (item_of s i) 4 j)

unfoldable pub bytes_start : List ℕ → ℕ → ℕ → ℕ
bytes_start s i j = item_start s i + (field_start (item_of s i) 4 j + content_start (field_of (item_of s i) 4 j))

unfoldable pub rate_of : List ℕ → ℕ → ℕ
rate_of s i = u64_at (field_of (item_of s i) 4 3) 0

abbrev pub call_at : List ℕ → ℕ → Call
call_at s i = record { peer = field_bytes s i 0; records = field_bytes s i 1; source = field_bytes s i 2; rate = rate_of s i }

abbrev pub calls_of : List ℕ → List Call
calls_of s = span (call_at s) 0 (item_count s)

-- a transaction by its index: 0 is the one at the start, k + 1 that of update k
unfoldable pub transaction_at : List ℕ → List ℕ → ℕ → List ℕ
transaction_at start s zero = start
transaction_at start s (suc k) = field_bytes s k 0

-- where it stands, from where the start and the updates stand
unfoldable pub transaction_place : ℕ × ℕ → ℕ × ℕ → List ℕ → ℕ → ℕ × ℕ
transaction_place start updates s zero = start
transaction_place start updates s (suc k) = inside updates (bytes_start s k 0)
