-- What the functions inside promise one another: what a call makes of the entries of a map, and the numbers that one pass over them finds. No contract of a
-- call cites it.
use Rattle.std.specs.Prelude.{ℕ, ◌+◌, ◌*◌, ◌≤◌, Bool, true, false, not, cond, List, [], ◌∷◌, Option, Some, None, Result, Ok, Err}
use lib.{Dec.eqb, ListN.length}
use Rattle.arithmetic.specs.LittleEndian.{u64_at}
use Rattle.error.specs.declared.{Refusal.Refusal}
use Rattle.std.specs.List.{filter}
use Rattle.out_points.specs.{declared.Byte32.Byte32, OutPoints.byte32_at}
use Rattle.exclusion_entries.specs.Exclusions.{MapEntry, has_hash, is_recent}
use Rattle.exclusion_entries.specs.declared.{Rule.Rule, Words.Words, Survey.Survey}
use Rattle.exclusion_entries.specs.Entries.{excluded_at, map_size, is_map}

-- whether the entry is kept, and whether a new one is to take its place
unfoldable pub keeps : Rule → MapEntry → Bool
keeps Rule.All e = true
keeps (Rule.Enter h) e = true
keeps (Rule.Remove h) e = not (has_hash h e)
keeps (Rule.Migrate o h) e = not (has_hash o e)
keeps (Rule.Truncate tip) e = is_recent tip e.committed

unfoldable pub takes : Rule → MapEntry → Bool
takes Rule.All e = false
takes (Rule.Enter h) e = has_hash h e
takes (Rule.Remove h) e = false
takes (Rule.Migrate o h) e = has_hash h e
takes (Rule.Truncate tip) e = false

-- ---- of the entries that f keeps all but the first that p takes: those that stay; `taken` says that p took one before

module _ (f p : MapEntry → Bool) where
  unfoldable pub stay : Bool → List MapEntry → List MapEntry
  stay taken [] = []
  stay taken (e ∷ l) = cond (f e) (cond (cond taken false (p e)) (stay true l) (e ∷ stay taken l)) (stay taken l)

  -- those ahead of the one taken, and those behind it
  unfoldable pub ahead : List MapEntry → List MapEntry
  ahead [] = []
  ahead (e ∷ l) = cond (f e) (cond (p e) [] (e ∷ ahead l)) (ahead l)

  unfoldable pub behind : List MapEntry → List MapEntry
  behind [] = []
  behind (e ∷ l) = cond (f e) (cond (p e) (filter f l) (behind l)) (behind l)

  -- those that stand where they will stand
  unfoldable pub leading : List MapEntry → List MapEntry
  leading [] = []
  leading (e ∷ l) = cond (f e) (cond (p e) [] (e ∷ leading l)) []

  -- one is not kept
  unfoldable pub loses : List MapEntry → Bool
  loses [] = false
  loses (e ∷ l) = cond (f e) (loses l) true

-- ---- the pass

-- an entry with n out points is not kept, is taken, stays
unfoldable pub lost_one : Survey → Survey
lost_one v = record { lost = true; taken = v.taken; stays = v.stays; points = v.points; place = v.place; from = v.from; index = v.index }

unfoldable pub took_one : Survey → Survey
took_one v = record { lost = v.lost; taken = true; stays = v.stays; points = v.points; place = v.place; from = v.from; index = v.index }

unfoldable pub stayed : ℕ → Survey → Survey
stayed n v = record {
  lost = v.lost;
  taken = v.taken;
  stays = v.stays + 1;
  points = v.points + n;
  place = cond v.taken v.place (v.place + (48 + 36 * n));
  from = cond v.taken v.from (cond v.lost v.from (v.from + (48 + 36 * n)));
  index = cond v.taken v.index (cond v.lost v.index (v.index + 1));
}

unfoldable pub turned : Bool → Bool → ℕ → Survey → Survey
turned kept taken n v = cond kept (cond (cond v.taken false taken) (took_one v) (stayed n v)) (lost_one v)

unfoldable pub sweep : (MapEntry → Bool) → (MapEntry → Bool) → Survey → List MapEntry → Survey
sweep f p v [] = v
sweep f p v (e ∷ l) = sweep f p (turned (f e) (p e) (length e.points) v) l

-- before the first entry
unfoldable pub first_survey : Survey
first_survey = record { lost = false; taken = false; stays = 0; points = 0; place = 4; from = 4; index = 0 }

-- no sum of a pass is too wide: what it has found so far, and the n out points of the next entry
pub record Small (n : ℕ) (v : Survey) : Type 0 where
  pub n_small : n ≤ 512
  pub stays_small : v.stays ≤ 64
  pub points_small : v.points ≤ 512
  pub place_small : v.place ≤ map_size
  pub from_small : v.from ≤ map_size
  pub index_small : v.index ≤ 64

-- the first words of the hashes that a rule goes by, if it goes by hashes, and whether it may touch the entry at the start of x
unfoldable pub words_of : Rule → Option Words
words_of Rule.All = Some (record { old = 0; new = 0 })
words_of (Rule.Enter h) = Some (record { old = h.a; new = h.a })
words_of (Rule.Remove h) = Some (record { old = h.a; new = h.a })
words_of (Rule.Migrate o h) = Some (record { old = o.a; new = h.a })
words_of (Rule.Truncate tip) = None

unfoldable pub may_touch : Option Words → List ℕ → Bool
may_touch (Some w) x = cond (eqb (u64_at x 0) w.old) true (eqb (u64_at x 0) w.new)
may_touch None x = true

-- of bytes that are a table
unfoldable pub survey_of : Rule → List ℕ → Result Survey Refusal
survey_of rule s = cond (is_map s) (Ok (sweep (keeps rule) (takes rule) first_survey (excluded_at s))) (Err Refusal.LentBytesUnreadable)

-- the hash that lent bytes are
unfoldable pub hash_of : List ℕ → Result Byte32 Refusal
hash_of s = cond (eqb (length s) 32) (Ok (byte32_at s 0)) (Err Refusal.LentBytesUnreadable)
