-- The calls on a lent exclusion map worked through, from the definitions of their contracts and with lent bytes: what docs/RULES.md stars, and an example of
-- each other answer. proofs/KnownExclusions.antt proves all rows.
use Rattle.std.specs.Prelude.{ℕ, ◌+◌, ◌-◌, ◌*◌, ◌^◌, List, [], ◌∷◌, ◌++◌, map, replicate}
use Rattle.std.proofs.Math.Option.{Option, none, some}
use Rattle.arithmetic.specs.LittleEndian.{to_le}
use Rattle.units.specs.declared.{BlockNumber.BlockNumber}
use Rattle.molecule.specs.Layout.{span}
use Rattle.molecule.specs.Write.{put_at}
use Rattle.out_points.specs.declared.{Byte32.Byte32}
use Rattle.out_points.specs.OutPoints.{points, point_list}
use Rattle.error.specs.Outcome.{Outcome, fine, refused, leaves}
use Rattle.out_points.specs.Tables.{after_list}
use Rattle.table_bytes.specs.Lent.{on_table}
use Rattle.exclusion_entries.specs.Exclusions.{MapEntry, commit_on, remove_on, truncate_on, apply_on, add_on, migrate_on}
use Rattle.exclusion_entries.specs.Entries.{map_bytes, excluded_at}
use Rattle.exclusion_entries.specs.Calls.{map_table, with_tx}
use Rattle.case_parts.specs.Rows.{Row, ◌gives◌}
use Rattle.case_parts.specs.Parts.{bare, point}

-- ---- the calls on bytes s: the outcome, and the bytes after it

abbrev pub on_bytes : List ℕ → Outcome (List MapEntry) → Outcome (List MapEntry) × List ℕ
on_bytes s o = (o, leaves o (map_table.put s []) s)

abbrev pub add : List ℕ → List ℕ → List ℕ → Outcome (List MapEntry) × List ℕ
add s hash tx = on_bytes s (with_tx tx (on_table map_table s (add_on (excluded_at s) hash tx)))

abbrev pub commit : List ℕ → List ℕ → ℕ → Outcome (List MapEntry) × List ℕ
commit s hash block = on_bytes s (on_table map_table s (commit_on (excluded_at s) hash (record { 0 = block })))

abbrev pub remove : List ℕ → List ℕ → Outcome (List MapEntry) × List ℕ
remove s hash = on_bytes s (on_table map_table s (remove_on (excluded_at s) hash))

abbrev pub truncate : List ℕ → ℕ → Outcome (List MapEntry) × List ℕ
truncate s tip = on_bytes s (on_table map_table s (truncate_on (excluded_at s) (record { 0 = tip })))

abbrev pub migrate : List ℕ → List ℕ → List ℕ → List ℕ → Outcome (List MapEntry) × List ℕ
migrate s old new tx = on_bytes s (with_tx tx (on_table map_table s (migrate_on (excluded_at s) old new tx)))

abbrev pub apply : List ℕ → List ℕ → ℕ × List ℕ
apply s out = after_list (λ b. on_table map_table s (apply_on (excluded_at s) b)) out

abbrev pub left : Outcome (List MapEntry) × List ℕ → List ℕ
left a = a.1

-- done: these entries, put over the bytes s; and a refusal, after which they stay
abbrev pub puts : List ℕ → List MapEntry → Outcome (List MapEntry) × List ℕ
puts s l = (fine l, put_at s 0 (map_bytes l))

abbrev pub refuses : ℕ → List ℕ → Outcome (List MapEntry) × List ℕ
refuses n s = (refused n [], s)

-- ---- what the examples are built from

-- the empty map, and the map with these entries
abbrev pub zeros : List ℕ
zeros = replicate 21508 0

abbrev pub lent : List MapEntry → List ℕ
lent l = put_at zeros 0 (map_bytes l)

-- a hash that is told by a number, as bytes and as an entry has it
abbrev pub hash : ℕ → List ℕ
hash n = to_le 8 n ++ replicate 24 0

abbrev pub hash_of : ℕ → Byte32
hash_of n = record { a = n; b = 0; c = 0; d = 0 }

-- the entry of `bare k`, which spends the first k out points, under the hash n; pending and committed
abbrev pub entry : ℕ → Option BlockNumber → ℕ → MapEntry
entry n c k = record { hash = hash_of n; committed = c; points = span point 0 k }

abbrev pub pending_of : ℕ → ℕ → MapEntry
pending_of n k = entry n none k

abbrev pub committed_of : ℕ → ℕ → ℕ → MapEntry
committed_of n block k = entry n (some (record { 0 = block })) k

-- so many transactions, with no out points
abbrev pub transactions : ℕ → List MapEntry
transactions n = span (λ i. pending_of i 0) 0 n

-- the transaction 7, that spends two out points, entered; and committed at 100
abbrev pub pending7 : List MapEntry
pending7 = pending_of 7 2 ∷ []

abbrev pub committed7 : List MapEntry
committed7 = committed_of 7 100 2 ∷ []

-- one transaction with one out point; two, the first committed
abbrev pub one : List MapEntry
one = pending_of 7 1 ∷ []

abbrev pub two : List MapEntry
two = committed_of 7 1 2 ∷ pending_of 5 1 ∷ []

-- and a third; and two with one hash, in a map that no call made
abbrev pub three : List MapEntry
three = committed_of 7 1 2 ∷ pending_of 5 1 ∷ pending_of 6 0 ∷ []

abbrev pub twice : List MapEntry
twice = pending_of 7 2 ∷ pending_of 5 1 ∷ pending_of 7 1 ∷ []

-- bytes that are no map: of another length, with 65 entries, with 513 out points in one entry and in two, with an entry of the kind 2, with a block at a
-- pending one
abbrev pub shorter : List ℕ
shorter = replicate 21507 0

abbrev pub over64 : List ℕ
over64 = to_le 4 65 ++ replicate 21504 0

abbrev pub over512 : List ℕ
over512 = to_le 4 1 ++ replicate 44 0 ++ to_le 4 513 ++ replicate 21456 0

abbrev pub over_512_in_two : List ℕ
over_512_in_two = to_le 4 2 ++ replicate 44 0 ++ to_le 4 1 ++ replicate 80 0 ++ to_le 4 512 ++ replicate 21372 0

abbrev pub of_kind_2 : List ℕ
of_kind_2 = to_le 4 1 ++ replicate 32 0 ++ to_le 4 2 ++ replicate 21468 0

abbrev pub pending_in_block : List ℕ
pending_in_block = to_le 4 1 ++ replicate 36 0 ++ to_le 8 100 ++ replicate 21460 0

-- no transaction
abbrev unreadable : List ℕ
unreadable = 0 ∷ []

-- ---- the starred ones: added, committed at 100 and truncated at a tip; then the number of `apply`, and the index of each out point that it wrote

abbrev pub room : ℕ → List ℕ
room n = replicate (4 + 36 * n) 165

abbrev pub listed : ℕ × List ℕ → List ℕ
listed (n, out) = n ∷ map (λ p. p.index) (points out)

abbrev pub excluded_by : ℕ → List ℕ
excluded_by tip = listed (apply (left (truncate (left (commit (left (add zeros (hash 7) (bare 2))) (hash 7) 100)) tip)) (room 2))

-- ---- the others

-- bytes that are no map: 3, and they stay
abbrev pub no_map : List (Row (Outcome (List MapEntry) × List ℕ))
no_map =
    (add shorter [] (bare 2) gives refuses 3 shorter)
    ∷ (add over64 (hash 7) (bare 2) gives refuses 3 over64)
    ∷ (add over512 (hash 7) (bare 2) gives refuses 3 over512)
    ∷ (add over_512_in_two (hash 7) (bare 2) gives refuses 3 over_512_in_two)
    ∷ (add of_kind_2 (hash 7) (bare 2) gives refuses 3 of_kind_2)
    ∷ (add pending_in_block (hash 7) (bare 2) gives refuses 3 pending_in_block)
    ∷ (commit [] (hash 7) 100 gives refuses 3 [])
    ∷ (remove [] (hash 7) gives refuses 3 [])
    ∷ (truncate [] 100 gives refuses 3 [])
    ∷ (migrate [] (hash 7) (hash 8) (bare 2) gives refuses 3 [])
    ∷ []

-- a transaction that can't be read: 1 before all else; and of a map a hash of another length
abbrev pub unread : List (Row (Outcome (List MapEntry) × List ℕ))
unread =
    (add [] [] unreadable gives refuses 1 [])
    ∷ (add zeros [] unreadable gives refuses 1 zeros)
    ∷ (add zeros (replicate 31 0) (bare 2) gives refuses 3 zeros)
    ∷ (commit zeros (replicate 33 0) 100 gives refuses 3 zeros)
    ∷ (remove zeros [] gives refuses 3 zeros)
    ∷ (migrate [] [] [] unreadable gives refuses 1 [])
    ∷ (migrate zeros [] [] unreadable gives refuses 1 zeros)
    ∷ (migrate zeros (replicate 31 0) (hash 8) (bare 2) gives refuses 3 zeros)
    ∷ (migrate zeros (hash 7) (replicate 33 0) (bare 2) gives refuses 3 zeros)
    -- by no transaction too, which enters nothing under the new hash: the old entry stays
    ∷ (migrate (lent two) (hash 7) [] [] gives refuses 3 (lent two))
    ∷ []

-- 64 transactions and 512 out points, 65 and 513; a transaction that is entered again, or goes, leaves room
abbrev pub full : List (Row (Outcome (List MapEntry) × List ℕ))
full =
    (add (lent (transactions 63)) (hash 63) [] gives puts (lent (transactions 63)) (transactions 63))
    ∷ (add (lent (transactions 63)) (hash 63) (bare 0) gives puts (lent (transactions 63)) (transactions 64))
    ∷ (add (lent (transactions 64)) (hash 64) (bare 0) gives refuses 15 (lent (transactions 64)))
    ∷ (add (lent (transactions 64)) (hash 63) (bare 0) gives puts (lent (transactions 64)) (transactions 64))
    ∷ (migrate (lent (transactions 64)) (hash 0) (hash 64) (bare 0) gives puts (lent (transactions 64)) (span (λ i. pending_of i 0) 1 64))
    ∷ (add (lent (pending_of 1 511 ∷ [])) (hash 2) (bare 1) gives puts (lent (pending_of 1 511 ∷ [])) (pending_of 1 511 ∷ pending_of 2 1 ∷ []))
    ∷ (add (lent (pending_of 1 512 ∷ [])) (hash 2) (bare 1) gives refuses 15 (lent (pending_of 1 512 ∷ [])))
    ∷ (add (lent (pending_of 1 512 ∷ [])) (hash 1) (bare 1) gives puts (lent (pending_of 1 512 ∷ [])) (pending_of 1 1 ∷ []))
    ∷ (migrate (lent (pending_of 1 512 ∷ [])) (hash 1) (hash 2) (bare 1) gives puts (lent (pending_of 1 512 ∷ [])) (pending_of 2 1 ∷ []))
    ∷ (migrate (lent (pending_of 1 512 ∷ pending_of 3 0 ∷ [])) (hash 3) (hash 2) (bare 1) gives refuses 15 (lent (pending_of 1 512 ∷ pending_of 3 0 ∷ [])))
    ∷ []

-- what each call does to two or three entries
abbrev pub works : List (Row (Outcome (List MapEntry) × List ℕ))
works =
    -- entered again it is uncommitted, in its place; another goes last; the 68-byte transaction enters without out points
    (add (lent two) (hash 7) (bare 1) gives puts (lent two) (pending_of 7 1 ∷ pending_of 5 1 ∷ []))
    ∷ (add (lent two) (hash 6) (bare 0) gives puts (lent two) (committed_of 7 1 2 ∷ pending_of 5 1 ∷ pending_of 6 0 ∷ []))
    -- pending or committed, it gets the block; an unknown hash changes nothing
    ∷ (commit (lent two) (hash 5) 9 gives puts (lent two) (committed_of 7 1 2 ∷ committed_of 5 9 1 ∷ []))
    ∷ (commit (lent two) (hash 7) 9 gives puts (lent two) (committed_of 7 9 2 ∷ pending_of 5 1 ∷ []))
    ∷ (commit (lent two) (hash 6) 9 gives puts (lent two) two)
    ∷ (remove (lent two) (hash 7) gives puts (lent two) (pending_of 5 1 ∷ []))
    ∷ (remove (lent two) (hash 6) gives puts (lent two) two)
    -- c + 13 is a whole number: committed in the last block there is, it stays
    ∷ (truncate (lent (committed_of 7 (2 ^ 64 - 1) 2 ∷ [])) (2 ^ 64 - 1)
    gives puts (lent (committed_of 7 (2 ^ 64 - 1) 2 ∷ [])) (committed_of 7 (2 ^ 64 - 1) 2 ∷ []))
    ∷ (truncate (lent two) 14 gives puts (lent two) (pending_of 5 1 ∷ []))
    -- the new one goes last, also onto its own hash, or takes the place of an entered one; by no transaction the old one only goes
    ∷ (migrate (lent two) (hash 7) (hash 8) (bare 1) gives puts (lent two) (pending_of 5 1 ∷ pending_of 8 1 ∷ []))
    ∷ (migrate (lent two) (hash 7) (hash 7) (bare 1) gives puts (lent two) (pending_of 5 1 ∷ pending_of 7 1 ∷ []))
    ∷ (migrate (lent three) (hash 7) (hash 5) (bare 2) gives puts (lent three) (pending_of 5 2 ∷ pending_of 6 0 ∷ []))
    ∷ (migrate (lent two) (hash 7) (hash 6) [] gives puts (lent two) (pending_of 5 1 ∷ []))
    ∷ (migrate (lent two) (hash 6) (hash 8) (bare 1) gives puts (lent two) two)
    ∷ []

-- where a hash stands twice, `add` means its first entry, and the others every one
abbrev pub doubled : List (Row (Outcome (List MapEntry) × List ℕ))
doubled =
    (add (lent twice) (hash 7) (bare 0) gives puts (lent twice) (pending_of 7 0 ∷ pending_of 5 1 ∷ pending_of 7 1 ∷ []))
    ∷ (commit (lent twice) (hash 7) 9 gives puts (lent twice) (committed_of 7 9 2 ∷ pending_of 5 1 ∷ committed_of 7 9 1 ∷ []))
    ∷ (remove (lent twice) (hash 7) gives puts (lent twice) (pending_of 5 1 ∷ []))
    ∷ (migrate (lent twice) (hash 7) (hash 8) (bare 1) gives puts (lent twice) (pending_of 5 1 ∷ pending_of 8 1 ∷ []))
    ∷ []

-- `apply`: of no map, into too short a buffer, and into a longer one
abbrev pub lists : List (Row (ℕ × List ℕ))
lists =
    (apply [] (room 1) gives (3, room 1))
    ∷ (apply (lent two) (room 2) gives (13, room 2))
    ∷ (apply (lent one) (replicate 39 165) gives (13, replicate 39 165))
    ∷ (apply (lent two) (room 4) gives (0, point_list (point 0 ∷ point 1 ∷ point 0 ∷ []) ++ replicate 36 165))
    ∷ (apply zeros [] gives (13, []))
    ∷ (apply zeros (room 0) gives (0, to_le 4 0))
    ∷ []
