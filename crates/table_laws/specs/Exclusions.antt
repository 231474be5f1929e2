-- A list of calls on a lent exclusion map (docs/RULES.md, "Holds and exclusions"). Each step has what the contract of the call says of it
-- (crates/exclusion_entries/specs/Calls.antt).
use Rattle.std.specs.Prelude.{◌≡◌, ℕ, suc, ◌≤◌, Bool, true, false, not, cond, List, [], ◌∷◌, Ok, Err}
use lib.{Dec.eqb, ListN.length, ListN.replicate}
use Rattle.units.specs.declared.BlockNumber.{BlockNumber}
use Rattle.arithmetic.specs.LittleEndian.{AllBytes}
use Rattle.error.specs.declared.{Refusal.Refusal}
use Rattle.error.specs.Refusal.{answered}
use Rattle.out_points.specs.declared.{Byte32.Byte32, OutPoint.OutPoint}
use Rattle.out_points.specs.OutPoints.{byte32_at, has, points}
use Rattle.exclusion_entries.specs.Exclusions.{MapEntry, has_hash, committed_at, is_recent, excluded, pending, entered}
use Rattle.exclusion_entries.specs.Entries.{excluded_at, is_map}
use Rattle.exclusion_entries.specs.Calls.{Adds, Commits, Removes, Truncates, Migrates, Applies}
use Rattle.table_laws.specs.Answers.{Answer}
use Rattle.table_laws.specs.Stands.{Stands}

-- a call that is lent the bytes s, answers r and leaves the bytes t; `apply` changes none
pub data Called (s t : List ℕ) : Type 0 where
  add : (r : Answer) (hash tx : List ℕ) → Adds s (answered r) t hash tx → Called s t
  commit : (r : Answer) (hash : List ℕ) (block : BlockNumber) → Commits s (answered r) t hash block → Called s t
  remove : (r : Answer) (hash : List ℕ) → Removes s (answered r) t hash → Called s t
  truncate : (r : Answer) (tip : BlockNumber) → Truncates s (answered r) t tip → Called s t
  migrate : (r : Answer) (old new tx : List ℕ) → Migrates s (answered r) t old new tx → Called s t

unfoldable pub answer_of : {s t : List ℕ} → Called s t → Answer
answer_of (add r hash tx e) = r
answer_of (commit r hash block e) = r
answer_of (remove r hash e) = r
answer_of (truncate r tip e) = r
answer_of (migrate r old new tx e) = r

-- the bytes that calls reach from s, each lent what the one before it left
pub data Reached (s : List ℕ) : List ℕ → Type 0 where
  none : Reached s s
  next : {t u : List ℕ} → Reached s t → Called t u → Reached s u

-- ---- what holds of every list of calls

-- bytes are a map after it exactly if they were one before it
abbrev pub StaysMap : Type 0
StaysMap = (s t : List ℕ) → Reached s t → is_map t ≡ is_map s

-- at most 64 transactions and 512 out points
pub record Within (s : List ℕ) : Type 0 where
  pub transactions : length (excluded_at s) ≤ 64
  pub points : length (excluded (excluded_at s)) ≤ 512

-- from any map, and so from zeros, which are the empty one
abbrev pub StaysWithin : Type 0
StaysWithin = (s t : List ℕ) → is_map s ≡ true → Reached s t → Within t

abbrev pub ZerosWithin : Type 0
ZerosWithin = (t : List ℕ) → Reached (replicate 21508 0) t → Within t

-- how many entries a hash has: one at most after any list of calls, if so before it, as in the empty map
unfoldable pub entries_with : Byte32 → List MapEntry → ℕ
entries_with h [] = 0
entries_with h (e ∷ l) = cond (has_hash h e) (suc (entries_with h l)) (entries_with h l)

abbrev pub OneEach : List ℕ → Type 0
OneEach s = (h : Byte32) → entries_with h (excluded_at s) ≤ 1

abbrev pub StaysOneEach : Type 0
StaysOneEach = (s t : List ℕ) → OneEach s → Reached s t → OneEach t

abbrev pub ZerosOneEach : Type 0
ZerosOneEach = (t : List ℕ) → Reached (replicate 21508 0) t → OneEach t

-- a refusal leaves the bytes, and bytes that are no map no call changes
abbrev pub RefusedSame : Type 0
RefusedSame = (s t : List ℕ) (c : Called s t) (why : Refusal) → answer_of c ≡ Err why → t ≡ s

abbrev pub OthersSame : Type 0
OthersSame = (s t : List ℕ) → is_map s ≡ false → Reached s t → t ≡ s

-- ---- how long a transaction is excluded

-- a transaction that is entered under the hash takes the place of x
unfoldable pub replaces : List ℕ → List ℕ → MapEntry → Bool
replaces hash tx x = cond (eqb (length tx) 0) false (has_hash (byte32_at hash 0) x)

-- what ends x: a done call on its own hash, which changes or replaces it or takes it out; and `truncate` at a tip by which it is not recent
unfoldable pub ends : {s t : List ℕ} → MapEntry → Called s t → Bool
ends x (add r hash tx e) = replaces hash tx x
ends x (commit r hash block e) = has_hash (byte32_at hash 0) x
ends x (remove r hash e) = has_hash (byte32_at hash 0) x
ends x (truncate r tip e) = not (is_recent tip x.committed)
ends {s} x (migrate r old new tx e) = cond (entered (byte32_at old 0) (excluded_at s)) (cond (has_hash (byte32_at old 0) x) true (replaces new tx x)) false

unfoldable pub is_done : Answer → Bool
is_done (Ok _) = true
is_done (Err why) = false

unfoldable pub outlives : {s t : List ℕ} → MapEntry → Called s t → Bool
outlives x c = cond (is_done (answer_of c)) (not (ends x c)) true

-- a list of calls none of which ends x
pub data Outlived (x : MapEntry) (s : List ℕ) : List ℕ → Type 0 where
  none : Outlived x s s
  then : {t u : List ℕ} → Outlived x s t → (c : Called t u) → outlives x c ≡ true → Outlived x s u

-- an entry stands after any list of calls none of which ends it
abbrev pub StaysEntered : Type 0
StaysEntered = (x : MapEntry) (s t : List ℕ) → Stands x (excluded_at s) → Outlived x s t → Stands x (excluded_at t)

-- and so an `apply` that is done writes each of its out points; the table's are bytes, as every lent slice is
abbrev pub StaysExcluded : Type 0
StaysExcluded = (x : MapEntry) (s t : List ℕ) → Stands x (excluded_at s) → Outlived x s t
    → AllBytes t → (out after : List ℕ) → Applies t 0 out after
    → (p : OutPoint) → has p x.points ≡ true → has p (points after) ≡ true

-- where it comes from: a transaction that an `add` entered stands, pending, and so does one to which a known hash was migrated; and one that stood when a
-- `commit` was done stands, committed if the hash is its own
abbrev pub AddEnters : Type 0
AddEnters = (s t hash tx : List ℕ) → (length tx ≡ 0 → ⊥) → Adds s 0 t hash tx → Stands (pending (byte32_at hash 0) tx) (excluded_at t)

abbrev pub MigrateEnters : Type 0
MigrateEnters = (s t old new tx : List ℕ) → (length tx ≡ 0 → ⊥) → entered (byte32_at old 0) (excluded_at s) ≡ true
    → Migrates s 0 t old new tx → Stands (pending (byte32_at new 0) tx) (excluded_at t)

abbrev pub CommitMarks : Type 0
CommitMarks = (x : MapEntry) (s t hash : List ℕ) (block : BlockNumber) → Stands x (excluded_at s) → Commits s 0 t hash block
    → Stands (committed_at (byte32_at hash 0) block x) (excluded_at t)
