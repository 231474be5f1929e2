-- What the functions inside promise one another; no contract of a call cites it.
use Rattle.std.specs.Prelude.{◌≡◌, ℕ, ◌+◌, ◌-◌, ◌*◌, Bool, true, false, cond, List, ◌++◌, map, take, drop, Ok}
use Rattle.std.proofs.Math.Option.{none}
use Rattle.std.specs.List.{filter}
use Rattle.arithmetic.specs.LittleEndian.{to_le}
use Rattle.molecule.specs.Layout.{fix_items}
use Rattle.molecule.specs.Write.{splice}
use Rattle.transaction.specs.Tx.{previous_output_of}
use Rattle.out_points.specs.declared.{Byte32.Byte32, OutPoint.OutPoint}
use Rattle.out_points.specs.OutPoints.{out_point_at, hash_bytes}
use Rattle.out_points.specs.Tables.{renew}
use Rattle.exclusion_entries.specs.declared.{Rule.Rule}
use Rattle.exclusion_entries.specs.Exclusions.{MapEntry}
use Rattle.exclusion_entries.specs.Entries.{state_bytes, entry_bytes, map_entry_of, entry_size}
use Rattle.exclusion_entries.specs.Inner.{keeps, takes, survey_of}
use Rattle.exclusions.specs.declared.{changes.Pass.Pass, changes.Sift.Sift}

-- ---- a pass over a map, with its rule

-- the bytes are a map, and this is what the pass finds there
abbrev pub Found : Pass → List ℕ → Type 0
Found p s = Ok p.found ≡ survey_of p.rule s

-- where the entries that stay end, once they stand together
abbrev pub pass_end : Pass → ℕ
pass_end p = 4 + 48 * p.found.stays + 36 * p.found.points

-- ---- one entry

-- entries that stay are moved together: where the pass is after an entry of so many bytes that is kept or gives its place, and the bytes then
unfoldable pub sifted : Bool → Bool → ℕ → Sift → Sift
sifted kept gives size c =
    cond kept
    (cond gives (record { at = c.at + size; to = c.to; taken = true }) (record { at = c.at + size; to = c.to + size; taken = c.taken }))
    (record { at = c.at + size; to = c.to; taken = c.taken })

unfoldable pub sifted_bytes : Bool → Bool → ℕ → Sift → List ℕ → List ℕ
sifted_bytes kept gives size c s = cond kept (cond gives s (splice s c.to (take size (drop c.at s)))) s

-- whether the entry at the start of x is the first that gives its place
unfoldable pub gives : Rule → Bool → List ℕ → Bool
gives rule taken x = cond taken false (takes rule (map_entry_of x))

unfoldable pub sift_one : Rule → Sift → List ℕ → Sift
sift_one rule c s = let x = drop c.at s in sifted (keeps rule (map_entry_of x)) (gives rule c.taken x) (entry_size x) c

unfoldable pub sift_one_bytes : Rule → Sift → List ℕ → List ℕ
sift_one_bytes rule c s = let x = drop c.at s in sifted_bytes (keeps rule (map_entry_of x)) (gives rule c.taken x) (entry_size x) c s

-- ---- a new entry: what stands before its out points, and these

unfoldable pub head_bytes : Byte32 → ℕ → List ℕ
head_bytes h n = hash_bytes h ++ state_bytes none ++ to_le 4 n

unfoldable pub point_of_input : List ℕ → OutPoint
point_of_input i = out_point_at (previous_output_of i) 0

unfoldable pub points_of_inputs : List ℕ → List OutPoint
points_of_inputs inputs = map point_of_input (fix_items 44 inputs)

-- the entry of a transaction with this hash and these inputs
unfoldable pub entry_with : Byte32 → List ℕ → MapEntry
entry_with h inputs = record { hash = h; committed = none; points = points_of_inputs inputs }

-- x put at its place in a map that the pass has left, with the entries behind it behind it, and the count
abbrev pub with_entry : Pass → MapEntry → List ℕ → List ℕ
with_entry p x s =
    let place = p.found.place in
    splice (splice s place (entry_bytes x ++ take (pass_end p - place) (drop place s))) 0 (to_le 4 (p.found.stays + 1))

-- it takes its place among the entries that the rule keeps
abbrev pub entries_after : Rule → Byte32 → List ℕ → List MapEntry → List MapEntry
entries_after rule h inputs l = renew (takes rule) (entry_with h inputs) (filter (keeps rule) l)
