-- The exclusion map in bytes: the count of its entries in four bytes, then the entries one after the other; bytes behind them mean nothing.
use Rattle.std.specs.Prelude.{ℕ, zero, suc, ◌+◌, ◌-◌, ◌*◌, ◌^◌, ◌<◌, Bool, true, false, cond, List, [], ◌∷◌, ◌++◌}
use Rattle.std.proofs.Math.Option.{Option, none, some}
use lib.{Dec.eqb, Dec.leb, ListN.length, ListN.drop}
use Rattle.arithmetic.specs.LittleEndian.{to_le, u32_at, u64_at}
use Rattle.units.specs.declared.{BlockNumber.BlockNumber}
use Rattle.molecule.specs.Partial.{All}
use Rattle.out_points.specs.OutPoints.{Fit, byte32_at, points, hash_bytes, point_list}
use Rattle.exclusion_entries.specs.Exclusions.{MapEntry}

-- ---- written: the hash (32), the kind (4), the block (8), the list of the out points

-- kind 0 is a pending transaction, whose block is 0, and 1 a committed one
unfoldable pub state_kind : Option BlockNumber → ℕ
state_kind none = 0
state_kind (some b) = 1

unfoldable pub block_of : Option BlockNumber → ℕ
block_of none = 0
block_of (some b) = b.0

unfoldable pub state_bytes : Option BlockNumber → List ℕ
state_bytes c = to_le 4 (state_kind c) ++ to_le 8 (block_of c)

unfoldable pub entry_bytes : MapEntry → List ℕ
entry_bytes e = hash_bytes e.hash ++ state_bytes e.committed ++ point_list e.points

unfoldable pub entries_bytes : List MapEntry → List ℕ
entries_bytes [] = []
entries_bytes (e ∷ l) = entry_bytes e ++ entries_bytes l

unfoldable pub map_bytes : List MapEntry → List ℕ
map_bytes l = to_le 4 (length l) ++ entries_bytes l

-- its numbers fit their types, as in every entry that bytes hold
pub record FitEntry (e : MapEntry) : Type 0 where
  pub a_fits : e.hash.a < 2 ^ 64
  pub b_fits : e.hash.b < 2 ^ 64
  pub c_fits : e.hash.c < 2 ^ 64
  pub d_fits : e.hash.d < 2 ^ 64
  pub block_fits : block_of e.committed < 2 ^ 64
  pub count_fits : length e.points < 2 ^ 32
  pub points-fit : All Fit e.points

-- ---- read, here from bytes x that begin with the entry

unfoldable pub state_of : ℕ → ℕ → Option BlockNumber
state_of kind block = cond (eqb kind 0) none (some (record { 0 = block }))

unfoldable pub map_entry_of : List ℕ → MapEntry
map_entry_of x = record { hash = byte32_at x 0; committed = state_of (u32_at x 32) (u64_at x 36); points = points (drop 44 x) }

-- how many bytes it has
abbrev pub entry_size : List ℕ → ℕ
entry_size x = 48 + 36 * u32_at x 44

unfoldable pub entries_in : ℕ → List ℕ → List MapEntry
entries_in zero x = []
entries_in (suc n) x = map_entry_of x ∷ entries_in n (drop (entry_size x) x)

-- the entries of a lent table
unfoldable pub excluded_at : List ℕ → List MapEntry
excluded_at s = entries_in (u32_at s 0) (drop 4 s)

-- ---- which bytes are a table

unfoldable pub is_entry : List ℕ → Bool
is_entry x = cond (eqb (u32_at x 32) 0) (eqb (u64_at x 36) 0) (eqb (u32_at x 32) 1)

-- n entries with at most m out points in all
unfoldable pub are_entries : ℕ → ℕ → List ℕ → Bool
are_entries zero m x = true
are_entries (suc n) m x = cond (is_entry x) (cond (leb (u32_at x 44) m) (are_entries n (m - u32_at x 44) (drop (entry_size x) x)) false) false

-- how many bytes a lent table has: the count, and room for 64 entries and 512 out points
abbrev pub map_size : ℕ
map_size = 4 + 48 * 64 + 36 * 512

-- that many bytes, and no more entries and out points
unfoldable pub is_map : List ℕ → Bool
is_map s = cond (eqb (length s) map_size) (cond (leb (u32_at s 0) 64) (are_entries (u32_at s 0) 512 (drop 4 s)) false) false
