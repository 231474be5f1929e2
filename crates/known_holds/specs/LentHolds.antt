-- The calls on a lent table of holds worked through, from the definitions of their contracts (crates/held_bytes/specs/Calls.antt): for each call an example of
-- each answer that it has, with the whole bytes of the table and of the buffers after it. proofs/KnownLentHolds.antt proves all rows.
use Rattle.std.specs.Prelude.{ℕ, ◌-◌, ◌*◌, length, replicate}
use mathlib.Core.List.{List, [], ◌∷◌, ◌++◌, flatten}
use Rattle.arithmetic.specs.LittleEndian.{to_le}
use Rattle.out_points.specs.declared.{OutPoint.OutPoint}
use Rattle.out_points.specs.OutPoints.{point_bytes, point_list}
use Rattle.error.specs.Outcome.{Outcome, fine, refused, leaves}
use Rattle.out_points.specs.Tables.{writes, after_list}
use Rattle.hold_records.specs.declared.{Hold.Hold, Taker.Taker}
use Rattle.hold_records.specs.Holds.{cells_of, hold_funding, hold_for_watchtower, release_for_watchtower, lock_held, unavailable, take_cells, records_after}
use Rattle.table_bytes.specs.Lent.{on_table}
use Rattle.held_bytes.specs.HeldBytes.{held_at, held_table}
use Rattle.case_parts.specs.Rows.{Row, ◌gives◌}
use Rattle.case_parts.specs.Parts.{ms, point, room}
use Rattle.known_holds.specs.Holds.{A, B, C, funding, tower, of1, of2, none, no_list}

-- ---- the calls on bytes s: the outcome, the bytes after it, and the buffers

abbrev pub on_bytes : List ℕ → Outcome (List Hold) → Outcome (List Hold) × List ℕ
on_bytes s o = (o, leaves o (held_table.put s []) s)

abbrev pub hold : List ℕ → ℕ → List ℕ → Outcome (List Hold) × List ℕ
hold s holder cells = on_bytes s (on_table held_table s (hold_funding (held_at s) holder cells))

abbrev pub watch : List ℕ → List ℕ → ℕ → Outcome (List Hold) × List ℕ
watch s cells now = on_bytes s (on_table held_table s (hold_for_watchtower (held_at s) cells (ms now)))

abbrev pub release : List ℕ → List ℕ → Outcome (List Hold) × List ℕ
release s cells = on_bytes s (on_table held_table s (release_for_watchtower (held_at s) cells))

-- where s means l
abbrev pub lock_on : List Hold → List ℕ → ℕ → List ℕ → (Outcome (List Hold) × List ℕ) × List ℕ
lock_on l s now out =
    let o = on_table held_table s (lock_held l (ms now) out) in
    (on_bytes s o, writes cells_of o out)

abbrev pub lock : List ℕ → ℕ → List ℕ → (Outcome (List Hold) × List ℕ) × List ℕ
lock s now out = lock_on (held_at s) s now out

abbrev pub named_on : List Hold → List ℕ → List ℕ → List ℕ → ℕ → List ℕ → ℕ × List ℕ
named_on l s picked spent now out = after_list (λ b. on_table held_table s (unavailable l picked spent (ms now) b)) out

abbrev pub named : List ℕ → List ℕ → List ℕ → ℕ → List ℕ → ℕ × List ℕ
named s picked spent now out = named_on (held_at s) s picked spent now out

abbrev pub takes_on : List Hold → List ℕ → List ℕ → List ℕ → Taker → ℕ → List ℕ → List ℕ → (Outcome (List Hold) × List ℕ) × List ℕ × List ℕ
takes_on l s picked spent taker now out₁ out₂ =
    let o = on_table held_table s (take_cells l picked spent taker (ms now) out₁ out₂) in
    (on_bytes s (records_after o), writes (λ k. k.taken) o out₁, writes (λ k. k.rest) o out₂)

abbrev pub takes : List ℕ → List ℕ → List ℕ → Taker → ℕ → List ℕ → List ℕ → (Outcome (List Hold) × List ℕ) × List ℕ × List ℕ
takes s picked spent taker now out₁ out₂ = takes_on (held_at s) s picked spent taker now out₁ out₂

-- ---- tables in bytes

-- a place: the cell, the kind and the number
abbrev place : ℕ → ℕ → OutPoint → List ℕ
place kind number p = point_bytes p ++ to_le 4 kind ++ to_le 8 number

abbrev funding_place : ℕ → OutPoint → List ℕ
funding_place holder p = place 0 holder p

abbrev tower_place : ℕ → OutPoint → List ℕ
tower_place end p = place 1 end p

-- a table that counts n records, with these places at its start, and bytes behind them, each 7
abbrev table : ℕ → List (List ℕ) → List ℕ
table n places = to_le 4 n ++ flatten places ++ room (12288 - 48 * length places)

abbrev empty : List ℕ
empty = table 0 []

-- the watchtower's on A until 1,000, alone and with a funding's on B
abbrev ended : List ℕ
ended = table 1 (tower_place 1000 A ∷ [])

abbrev two : List ℕ
two = table 2 (tower_place 1000 A ∷ funding_place 7 B ∷ [])

-- a record of a kind that is not named, which is the watchtower's
abbrev odd : List ℕ
odd = table 1 (place 9 5 A ∷ [])

-- a table that counts n records, each of its places zeros: holder 0 on the cell 0
abbrev pub zeros : ℕ → List ℕ
zeros n = to_le 4 n ++ replicate 12288 0

abbrev pub of_zeros : ℕ → List Hold
of_zeros n = replicate n (funding 0 (point 0))

-- bytes that are no table: one less, and one more
abbrev shorter : List ℕ
shorter = room 12291

abbrev longer : List ℕ
longer = room 12293

-- ---- `hold_funding`

abbrev pub funded : List (Row (Outcome (List Hold) × List ℕ))
funded =
    -- what is done is put over the bytes, and those behind it keep their value; a record of no named kind is written as the watchtower's
    (hold empty 1 (of1 A) gives (fine (funding 1 A ∷ []), table 1 (funding_place 1 A ∷ [])))
    ∷ (hold odd 1 none gives (fine (tower 5 A ∷ []), table 1 (tower_place 5 A ∷ [])))
    -- a refusal leaves them: 3, bytes of another length, or the list; 14
    ∷ (hold shorter 1 (of1 A) gives (refused 3 [], shorter))
    ∷ (hold longer 1 (of1 A) gives (refused 3 [], longer))
    ∷ (hold empty 1 no_list gives (refused 3 [], empty))
    ∷ (hold (zeros 256) 1 (of1 A) gives (refused 14 [], zeros 256))
    ∷ []

-- ---- `hold_for_watchtower`

abbrev pub watched : List (Row (Outcome (List Hold) × List ℕ))
watched =
    -- a new record goes last, a renewed one keeps its place, and its kind is then the named one
    (watch empty (of1 A) 1000 gives (fine (tower 1801000 A ∷ []), table 1 (tower_place 1801000 A ∷ [])))
    ∷ (watch two (of2 C A) 1000
    gives (fine (tower 1801000 A ∷ funding 7 B ∷ tower 1801000 C ∷ []), table 3 (tower_place 1801000 A ∷ funding_place 7 B ∷ tower_place 1801000 C ∷ [])))
    ∷ (watch odd (of1 A) 1000 gives (fine (tower 1801000 A ∷ []), table 1 (tower_place 1801000 A ∷ [])))
    -- 3, bytes of another length, or the list
    ∷ (watch shorter (of1 A) 1000 gives (refused 3 [], shorter))
    ∷ (watch longer (of1 A) 1000 gives (refused 3 [], longer))
    ∷ (watch two no_list 1000 gives (refused 3 [], two))
    -- 256 records pass, one more is 14; a count beyond the places means all of them, and stays as it was
    ∷ (watch (zeros 255) (of1 A) 1000 gives (fine (of_zeros 255 ++ (tower 1801000 A ∷ [])), to_le 4 256 ++ replicate 12240 0 ++ tower_place 1801000 A))
    ∷ (watch (zeros 256) (of1 A) 1000 gives (refused 14 [], zeros 256))
    ∷ (watch (zeros 257) (of1 A) 1000 gives (refused 14 [], zeros 257))
    ∷ []

-- ---- `release_for_watchtower`

abbrev pub released : List (Row (Outcome (List Hold) × List ℕ))
released =
    -- the records left are put over the bytes: behind the last one stands what stood there
    (release two (of2 A B) gives (fine (funding 7 B ∷ []), table 1 (funding_place 7 B ∷ funding_place 7 B ∷ [])))
    ∷ (release two (of2 B C) gives (fine (tower 1000 A ∷ funding 7 B ∷ []), two))
    ∷ (release odd (of1 A) gives (fine [], table 0 (place 9 5 A ∷ [])))
    -- a count beyond the places is written as that of all of them
    ∷ (release (zeros 257) (of1 A) gives (fine (of_zeros 256), zeros 256))
    -- 3, bytes of another length, or the list
    ∷ (release shorter (of1 A) gives (refused 3 [], shorter))
    ∷ (release longer (of1 A) gives (refused 3 [], longer))
    ∷ (release two no_list gives (refused 3 [], two))
    ∷ []

-- ---- `lock_held`, with the buffer

abbrev pub locked : List (Row ((Outcome (List Hold) × List ℕ) × List ℕ))
locked =
    -- ended records go, and the cells left are listed
    (lock two 999 (room 80) gives ((fine (tower 1000 A ∷ funding 7 B ∷ []), two), of2 A B ++ room 4))
    ∷ (lock two 1000 (room 80) gives ((fine (funding 7 B ∷ []), table 1 (funding_place 7 B ∷ funding_place 7 B ∷ [])), of1 B ++ room 40))
    ∷ (lock empty 1000 (room 4) gives ((fine [], empty), none))
    ∷ (lock (zeros 257) 1000 (room 9220) gives ((fine (of_zeros 256), zeros 256), to_le 4 256 ++ replicate 9216 0))
    -- 13, and then nothing is dropped
    ∷ (lock two 1000 (room 39) gives ((refused 13 [], two), room 39))
    ∷ (lock ended 1000 (room 3) gives ((refused 13 [], ended), room 3))
    ∷ (lock (zeros 257) 1000 (room 9219) gives ((refused 13 [], zeros 257), room 9219))
    -- 3, bytes of another length
    ∷ (lock shorter 1000 (room 80) gives ((refused 3 [], shorter), room 80))
    ∷ (lock longer 1000 (room 3) gives ((refused 3 [], longer), room 3))
    ∷ []

-- ---- `unavailable`, which only reads the table, with the buffer

abbrev pub naming : List (Row (ℕ × List ℕ))
naming =
    (named two (point_list (C ∷ B ∷ A ∷ B ∷ [])) (of1 C) 999 (room 112) gives (0, point_list (C ∷ B ∷ A ∷ [])))
    ∷ (named two (point_list (C ∷ B ∷ A ∷ B ∷ [])) (of1 C) 1000 (room 112) gives (0, of2 C B ++ room 36))
    ∷ (named (zeros 257) (of2 A (point 0)) none 1000 (room 40) gives (0, of1 (point 0)))
    -- 13
    ∷ (named two (of1 B) none 1000 (room 39) gives (13, room 39))
    -- 3, bytes of another length, or either list
    ∷ (named shorter (of1 B) none 1000 (room 40) gives (3, room 40))
    ∷ (named longer (of1 B) none 1000 (room 3) gives (3, room 3))
    ∷ (named two no_list none 1000 (room 3) gives (3, room 3))
    ∷ (named two (of1 B) no_list 1000 (room 3) gives (3, room 3))
    ∷ []

-- ---- `take`, with both buffers

abbrev pub taken : List (Row ((Outcome (List Hold) × List ℕ) × List ℕ × List ℕ))
taken =
    -- the ended record goes, what is taken goes last, and both lists keep pick order
    (takes two (point_list (C ∷ A ∷ B ∷ A ∷ [])) (of1 C) (Taker.Funding 1) 1000 (room 41) (room 113)
    gives (
      (fine (funding 7 B ∷ funding 1 A ∷ []), table 2 (funding_place 7 B ∷ funding_place 1 A ∷ [])),
      of1 A ++ room 1,
      point_list (C ∷ B ∷ A ∷ [])
          ++ room 1,
    ))
    ∷ (takes empty (of1 A) none Taker.Watchtower 1000 (room 40) (room 4) gives ((fine (tower 61000 A ∷ []), table 1 (tower_place 61000 A ∷ [])), of1 A, none))
    -- nothing taken: the table is written all the same, with no ended record
    ∷ (takes two (of1 B) none Taker.Watchtower 1000 (room 4) (room 40)
    gives ((fine (funding 7 B ∷ []), table 1 (funding_place 7 B ∷ funding_place 7 B ∷ [])), none, of1 B))
    -- 256 records pass, one more is 14
    ∷ (takes (zeros 255) (of1 A) none (Taker.Funding 1) 1000 (room 40) (room 4)
    gives ((fine (of_zeros 255 ++ (funding 1 A ∷ [])), to_le 4 256 ++ replicate 12240 0 ++ funding_place 1 A), of1 A, none))
    ∷ (takes (zeros 255) (of2 A B) none (Taker.Funding 1) 1000 (room 76) (room 4) gives ((refused 14 [], zeros 255), room 76, room 4))
    ∷ (takes (zeros 257) (of1 A) none (Taker.Funding 1) 1000 (room 40) (room 4) gives ((refused 14 [], zeros 257), room 40, room 4))
    -- 13, no room for the taken ones, or for the refused ones: the ended record stays
    ∷ (takes two (of2 A B) none (Taker.Funding 1) 1000 (room 39) (room 40) gives ((refused 13 [], two), room 39, room 40))
    ∷ (takes two (of2 A B) none (Taker.Funding 1) 1000 (room 40) (room 39) gives ((refused 13 [], two), room 40, room 39))
    ∷ (takes ended none none (Taker.Funding 1) 1000 (room 3) (room 4) gives ((refused 13 [], ended), room 3, room 4))
    -- 3, bytes of another length, or either list
    ∷ (takes shorter (of1 A) none (Taker.Funding 1) 1000 (room 40) (room 4) gives ((refused 3 [], shorter), room 40, room 4))
    ∷ (takes longer (of1 A) none (Taker.Funding 1) 1000 (room 3) (room 3) gives ((refused 3 [], longer), room 3, room 3))
    ∷ (takes two no_list none (Taker.Funding 1) 1000 (room 3) (room 3) gives ((refused 3 [], two), room 3, room 3))
    ∷ (takes two (of1 A) no_list (Taker.Funding 1) 1000 (room 3) (room 3) gives ((refused 3 [], two), room 3, room 3))
    ∷ []
