-- The exclusion map (docs/RULES.md, "Holds and exclusions"): it is a list of entries, and each call is a definition on such lists: the entries that it
-- leaves, or its refusal.
use Rattle.std.specs.Prelude.{ℕ, Bool, true, false, not, cond, List, [], ◌∷◌, ◌++◌, map}
use Rattle.std.proofs.Math.Option.{Option, none, some}
use lib.{Dec.eqb, Dec.leb, ListN.length}
use Rattle.units.specs.{declared.BlockNumber.BlockNumber, Units.is_at_least}
use Rattle.transaction.specs.Tx.{tx_at, previous_output_of}
use Rattle.out_points.specs.{declared.Byte32.Byte32, declared.OutPoint.OutPoint, OutPoints.eq_hash, OutPoints.byte32_at, OutPoints.out_point_at}
use Rattle.std.specs.List.{filter}
use Rattle.error.specs.Outcome.{Outcome, fine, check, ◌>>◌}
use Rattle.out_points.specs.Tables.{renew, has_room}

-- a transaction: its hash, the block that it was committed in, the out points that it spends
pub record MapEntry : Type 0 where
  pub hash : Byte32
  pub committed : Option BlockNumber
  pub points : List OutPoint

unfoldable pub has_hash : Byte32 → MapEntry → Bool
has_hash hash e = eq_hash e.hash hash

-- `commit`: the entry of the hash gets the block; "an unknown hash changes nothing"
unfoldable pub committed_at : Byte32 → BlockNumber → MapEntry → MapEntry
committed_at hash block e = cond (has_hash hash e) (record { hash = hash; committed = some block; points = e.points }) e

unfoldable pub commit_on : List MapEntry → List ℕ → BlockNumber → Outcome (List MapEntry)
commit_on l hash block = do
  -- no hash
  check 3 (eqb (length hash) 32)
  fine (map (committed_at (byte32_at hash 0) block) l)

-- `remove`: the entry of the hash goes
unfoldable pub without : Byte32 → List MapEntry → List MapEntry
without hash l = filter (λ e. not (has_hash hash e)) l

unfoldable pub remove_on : List MapEntry → List ℕ → Outcome (List MapEntry)
remove_on l hash = do
  -- no hash
  check 3 (eqb (length hash) 32)
  fine (without (byte32_at hash 0) l)

-- "`truncate` drops an entry committed at c exactly when tip is at least c + 13"
unfoldable pub is_recent : BlockNumber → Option BlockNumber → Bool
is_recent tip none = true
is_recent tip (some c) = not (is_at_least tip c 13)

unfoldable pub truncated : BlockNumber → List MapEntry → List MapEntry
truncated tip l = filter (λ e. is_recent tip e.committed) l

unfoldable pub truncate_on : List MapEntry → BlockNumber → Outcome (List MapEntry)
truncate_on l tip = fine (truncated tip l)

-- "`apply` writes out points in entry order", and changes nothing
unfoldable pub excluded : List MapEntry → List OutPoint
excluded [] = []
excluded (e ∷ l) = e.points ++ excluded l

unfoldable pub apply_on : List MapEntry → List ℕ → Outcome (List OutPoint)
apply_on l out = do
  -- the out points over the lent buffer
  check 13 (has_room (excluded l) out)
  fine (excluded l)

-- "Adding a hash again replaces its entry, uncommitted": the entry of a transaction, with the out points that its inputs spend
unfoldable pub pending : Byte32 → List ℕ → MapEntry
pending hash tx = record { hash = hash; committed = none; points = map (λ i. out_point_at (previous_output_of i) 0) (tx_at tx).inputs }

unfoldable pub fitting : List MapEntry → Outcome (List MapEntry)
fitting after = do
  -- over 64 transactions, or 512 out points
  check 15 (leb (length after) 64)
  check 15 (leb (length (excluded after)) 512)
  fine after

-- "no transaction (empty bytes) adds nothing"
unfoldable pub entering : List MapEntry → Byte32 → List ℕ → Outcome (List MapEntry)
entering l hash tx = cond (eqb (length tx) 0) (fine l) (fitting (renew (has_hash hash) (pending hash tx) l))

unfoldable pub add_on : List MapEntry → List ℕ → List ℕ → Outcome (List MapEntry)
add_on l hash tx = do
  -- no hash
  check 3 (eqb (length hash) 32)
  entering l (byte32_at hash 0) tx

-- "Migrating a known hash removes its entry, then adds the new one, last if its hash is not entered"
unfoldable pub entered : Byte32 → List MapEntry → Bool
entered hash [] = false
entered hash (e ∷ l) = cond (has_hash hash e) true (entered hash l)

unfoldable pub migrate_on : List MapEntry → List ℕ → List ℕ → List ℕ → Outcome (List MapEntry)
migrate_on l old new tx = do
  -- no hash
  check 3 (eqb (length old) 32)
  check 3 (eqb (length new) 32)
  cond (entered (byte32_at old 0) l) (entering (without (byte32_at old 0) l) (byte32_at new 0) tx) (fine l)
