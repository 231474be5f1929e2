-- The calls on the table of holds worked through: an example of each answer and of each sentence of docs/RULES.md ("Holds and exclusions") about them, with all
-- records and the whole buffers after the call. proofs/KnownHolds.antt proves all rows.
use Rattle.std.specs.Prelude.{ℕ, ◌-◌, ◌*◌, ◌^◌, List, [], ◌∷◌, ◌++◌, replicate}
use Rattle.arithmetic.specs.LittleEndian.{to_le}
use Rattle.out_points.specs.declared.{OutPoint.OutPoint}
use Rattle.out_points.specs.OutPoints.{point_list}
use Rattle.error.specs.Outcome.{Outcome, fine, refused}
use Rattle.out_points.specs.Tables.{after_list}
use Rattle.hold_records.specs.declared.{Owner.Owner, Hold.Hold, Taker.Taker}
use Rattle.units.specs.declared.{Millis.Millis}
use Rattle.hold_records.specs.Holds.{held_by, hold_funding, hold_for_watchtower, release_for_watchtower, lock_held, unavailable, take_cells, after_lock}
use Rattle.hold_records.specs.Holds.{after_take}
use Rattle.case_parts.specs.Rows.{Row, ◌gives◌}
use Rattle.case_parts.specs.Parts.{ms, point, room}

-- ---- what the rows are built from

-- cells
abbrev pub A : OutPoint
A = point 1

abbrev pub B : OutPoint
B = point 2

abbrev pub C : OutPoint
C = point 3

abbrev pub funding : ℕ → OutPoint → Hold
funding holder p = held_by (Owner.Funding holder) p

abbrev pub tower : ℕ → OutPoint → Hold
tower end p = held_by (Owner.Watchtower (ms end)) p

-- so many records of holder 5 on one cell
abbrev others : ℕ → List Hold
others n = replicate n (funding 5 (point 0))

-- lists of cells; and bytes that are none: a count with no items, and 119,304,647 items
abbrev pub of1 : OutPoint → List ℕ
of1 p = point_list (p ∷ [])

abbrev pub of2 : OutPoint → OutPoint → List ℕ
of2 p q = point_list (p ∷ q ∷ [])

abbrev pub none : List ℕ
none = point_list []

abbrev pub no_list : List ℕ
no_list = 1 ∷ 0 ∷ 0 ∷ 0 ∷ []

abbrev pub too_long : List ℕ
too_long = to_le 4 119304647 ++ replicate (36 * 119304647) 0

-- the calls with the buffers after them
abbrev pub locks : List Hold → Millis → List ℕ → Outcome (List Hold) × List ℕ
locks l now out = after_lock (lock_held l now) out

abbrev pub takes : List Hold → List ℕ → List ℕ → Taker → Millis → List ℕ → List ℕ → Outcome (List Hold) × List ℕ × List ℕ
takes l picked spent taker now out₁ out₂ = after_take (take_cells l picked spent taker now) out₁ out₂

abbrev pub names : List Hold → List ℕ → List ℕ → Millis → List ℕ → ℕ × List ℕ
names l picked spent now out = after_list (unavailable l picked spent now) out

-- ---- calls that are lent no buffer

-- an ended watchtower record and 255 others
abbrev nearly_full : List Hold
nearly_full = others 255 ++ (tower 1000 B ∷ [])

abbrev pub returning : List (Row (Outcome (List Hold)))
returning =
    -- "`hold_funding` drops a holder's records and adds the new list, repeats too"
    (hold_funding (funding 7 B ∷ tower 5 C ∷ funding 8 A ∷ []) 7 (of2 A A) gives fine (tower 5 C ∷ funding 8 A ∷ funding 7 A ∷ funding 7 A ∷ []))
    ∷ (hold_funding (funding 7 B ∷ funding 8 A ∷ []) 7 none gives fine (funding 8 A ∷ []))
    -- over 256 records get 14, just 256 pass, and those of the holder itself are dropped first
    ∷ (hold_funding (others 256) 1 (of1 A) gives refused 14 [])
    ∷ (hold_funding (others 255) 1 (of2 A B) gives refused 14 [])
    ∷ (hold_funding (others 255) 1 (of1 A) gives fine (others 255 ++ (funding 1 A ∷ [])))
    ∷ (hold_funding (others 256) 5 (of2 A B) gives fine (funding 5 A ∷ funding 5 B ∷ []))
    ∷ (hold_funding (others 256) 1 no_list gives refused 3 [])
    -- "`hold_for_watchtower` sets the end to now + 1,800,000 (capped at 2^64 - 1), one record per cell"; "New records go last; a renewed watchtower record ..
    -- keeps its place"
    ∷ (hold_for_watchtower (tower 5 A ∷ funding 7 B ∷ []) (point_list (C ∷ A ∷ B ∷ C ∷ [])) (ms 1000)
    gives fine (tower 1801000 A ∷ funding 7 B ∷ tower 1801000 C ∷ tower 1801000 B ∷ []))
    ∷ (hold_for_watchtower [] (of1 A) (ms 1000) gives fine (tower 1801000 A ∷ []))
    ∷ (hold_for_watchtower [] (of1 A) (ms (2 ^ 64 - 1800001)) gives fine (tower (2 ^ 64 - 1) A ∷ []))
    ∷ (hold_for_watchtower [] (of1 A) (ms (2 ^ 64 - 1)) gives fine (tower (2 ^ 64 - 1) A ∷ []))
    -- taken at 1,000 for the watchtower, until 61,000, and renewed before that
    ∷ (hold_for_watchtower (tower 61000 A ∷ []) (of1 A) (ms 50000) gives fine (tower 1850000 A ∷ []))
    -- a cell that has two watchtower records, which no call makes: the first is renewed
    ∷ (hold_for_watchtower (tower 5 A ∷ tower 9 A ∷ []) (of1 A) (ms 1000) gives fine (tower 1801000 A ∷ tower 9 A ∷ []))
    -- 14, and a cell named twice is one record; ended records count
    ∷ (hold_for_watchtower (others 256) (of1 A) (ms 1000) gives refused 14 [])
    ∷ (hold_for_watchtower (others 255) (of2 A A) (ms 1000) gives fine (others 255 ++ (tower 1801000 A ∷ [])))
    ∷ (hold_for_watchtower nearly_full (of1 A) (ms 1000) gives refused 14 [])
    ∷ (hold_for_watchtower nearly_full (of1 B) (ms 1000) gives fine (others 255 ++ (tower 1801000 B ∷ [])))
    ∷ (hold_for_watchtower (others 256) no_list (ms 1000) gives refused 3 [])
    -- "`release_for_watchtower` drops the named cells' watchtower records"
    ∷ (release_for_watchtower (tower 5 A ∷ funding 7 A ∷ tower 5 B ∷ []) (of2 A C) gives fine (funding 7 A ∷ tower 5 B ∷ []))
    ∷ (release_for_watchtower (tower 5 A ∷ []) no_list gives refused 3 [])
    ∷ []

-- 2^32 bytes: 3, though they are a list by their count
abbrev pub long : List (Row (Outcome (List Hold)))
long = (hold_funding [] 1 too_long gives refused 3 []) ∷ []

-- ---- `lock_held`, with the buffer

-- an ended record alone, and beside another
abbrev ended : List Hold
ended = tower 1000 A ∷ []

abbrev two_held : List Hold
two_held = tower 1000 A ∷ funding 7 B ∷ []

abbrev pub locking : List (Row (Outcome (List Hold) × List ℕ))
locking =
    -- "`lock_held` drops ended records, then writes the out points left, in record order": ended from its end on
    (locks two_held (ms 999) (room 80) gives (fine (tower 1000 A ∷ funding 7 B ∷ []), of2 A B ++ room 4))
    ∷ (locks two_held (ms 1000) (room 80) gives (fine (funding 7 B ∷ []), of1 B ++ room 40))
    -- 13, and then nothing is dropped
    ∷ (locks two_held (ms 1000) (room 39) gives (refused 13 [], room 39))
    ∷ (locks ended (ms 1000) (room 3) gives (refused 13 [], room 3))
    ∷ []

-- ---- `take`, with both buffers

abbrev pub taking : List (Row (Outcome (List Hold) × List ℕ × List ℕ))
taking =
    -- "`take` first drops watchtower records whose end is not above now; then a pick is refused if held by anybody, spent, or taken earlier in the call;
    -- otherwise it is recorded"; "Both lists keep pick order"
    (takes two_held (point_list (C ∷ A ∷ B ∷ A ∷ [])) (of1 C) (Taker.Funding 1) (ms 1000) (room 40) (room 112)
    gives (fine (funding 7 B ∷ funding 1 A ∷ []), of1 A, point_list (C ∷ B ∷ A ∷ [])))
    ∷ (takes two_held (of2 A C) none (Taker.Funding 1) (ms 999) (room 41) (room 41)
    gives (fine (tower 1000 A ∷ funding 7 B ∷ funding 1 C ∷ []), of1 C ++ room 1, of1 A ++ room 1))
    -- held by the watchtower at 1,000: busy at 1,800,999, free at 1,801,000
    ∷ (takes (tower 1801000 A ∷ []) (of1 A) none (Taker.Funding 7) (ms 1800999) (room 4) (room 40) gives (fine (tower 1801000 A ∷ []), none, of1 A))
    ∷ (takes (tower 1801000 A ∷ []) (of1 A) none (Taker.Funding 7) (ms 1801000) (room 40) (room 4) gives (fine (funding 7 A ∷ []), of1 A, none))
    -- taken at 1,000 and renewed at 50,000: refused from the first end on, 61,000, to the new one
    ∷ (takes (tower 1850000 A ∷ []) (of1 A) none (Taker.Funding 7) (ms 61000) (room 4) (room 40) gives (fine (tower 1850000 A ∷ []), none, of1 A))
    ∷ (takes (tower 1850000 A ∷ []) (of1 A) none Taker.Watchtower (ms 1849999) (room 4) (room 40) gives (fine (tower 1850000 A ∷ []), none, of1 A))
    ∷ (takes (tower 1850000 A ∷ []) (of1 A) none (Taker.Funding 7) (ms 1850000) (room 40) (room 4) gives (fine (funding 7 A ∷ []), of1 A, none))
    -- free A, B; pick A, A, B: taken A, B; refused A
    ∷ (takes [] (point_list (A ∷ A ∷ B ∷ [])) none Taker.Watchtower (ms 1000) (room 76) (room 40)
    gives (fine (tower 61000 A ∷ tower 61000 B ∷ []), of2 A B, of1 A))
    -- "for the watchtower until now + 60,000 (capped)"
    ∷ (takes [] (of1 A) none Taker.Watchtower (ms 1000) (room 40) (room 4) gives (fine (tower 61000 A ∷ []), of1 A, none))
    ∷ (takes [] (of1 A) none Taker.Watchtower (ms (2 ^ 64 - 60000)) (room 40) (room 4) gives (fine (tower (2 ^ 64 - 1) A ∷ []), of1 A, none))
    -- 14 counts what is left after the drop: with 255 others and an ended record one pick passes, and two are 14 and the ended one stays
    ∷ (takes nearly_full (of1 A) none (Taker.Funding 1) (ms 1000) (room 76) (room 4) gives (fine (others 255 ++ (funding 1 A ∷ [])), of1 A ++ room 36, none))
    ∷ (takes nearly_full (of2 A C) none (Taker.Funding 1) (ms 1000) (room 76) (room 4) gives (refused 14 [], room 76, room 4))
    -- by what is taken, and not by how many are picked
    ∷ (takes (others 255) (of2 A B) (of1 A) (Taker.Funding 1) (ms 1000) (room 40) (room 40) gives (fine (others 255 ++ (funding 1 B ∷ [])), of1 B, of1 A))
    ∷ (takes (others 256) (of1 (point 0)) none (Taker.Funding 1) (ms 1000) (room 4) (room 40) gives (fine (others 256), none, of1 (point 0)))
    -- 13 comes before 14: no room for the taken ones, or for the refused ones
    ∷ (takes (others 256) (of1 A) none (Taker.Funding 1) (ms 1000) (room 39) (room 40) gives (refused 13 [], room 39, room 40))
    ∷ (takes (others 256) (of1 (point 0)) none (Taker.Funding 1) (ms 1000) (room 40) (room 39) gives (refused 13 [], room 40, room 39))
    -- and then an ended record stays; also where nothing is picked, and there is no room for an empty list
    ∷ (takes ended (of1 B) none Taker.Watchtower (ms 1000) (room 4) (room 4) gives (refused 13 [], room 4, room 4))
    ∷ (takes ended none none Taker.Watchtower (ms 1000) (room 3) (room 4) gives (refused 13 [], room 3, room 4))
    ∷ (takes ended none none Taker.Watchtower (ms 1000) (room 4) (room 3) gives (refused 13 [], room 4, room 3))
    -- 3 before all, of either list
    ∷ (takes two_held no_list none (Taker.Funding 1) (ms 1000) (room 3) (room 3) gives (refused 3 [], room 3, room 3))
    ∷ (takes two_held (of1 A) no_list (Taker.Funding 1) (ms 1000) (room 3) (room 3) gives (refused 3 [], room 3, room 3))
    ∷ []

-- "over the lent buffer or 133,116 bytes: 13": 3,697 picks of a cell that is spent make a list of 133,096 bytes, and 3,698 one of 133,132
abbrev spent_picks : ℕ → ℕ → Outcome (List Hold) × List ℕ × List ℕ
spent_picks n k = takes [] (point_list (replicate n A)) (of1 A) (Taker.Funding 1) (ms 1000) (room 4) (room k)

abbrev pub longest : List (Row (Outcome (List Hold) × List ℕ × List ℕ))
longest =
    (spent_picks 3697 133096 gives (fine [], none, point_list (replicate 3697 A)))
    ∷ (spent_picks 3698 133132 gives (refused 13 [], room 4, room 133132))
    ∷ []

-- ---- `unavailable`, with the buffer

abbrev pub naming : List (Row (ℕ × List ℕ))
naming =
    -- "`unavailable` names, once each in pick order, picks spent or held unended"
    (names two_held (point_list (C ∷ B ∷ A ∷ B ∷ [])) (of1 C) (ms 999) (room 112) gives (0, point_list (C ∷ B ∷ A ∷ [])))
    ∷ (names two_held (point_list (C ∷ B ∷ A ∷ B ∷ [])) (of1 C) (ms 1000) (room 112) gives (0, of2 C B ++ room 36))
    ∷ (names two_held (of1 B) none (ms 1000) (room 39) gives (13, room 39))
    ∷ (names two_held no_list none (ms 1000) (room 40) gives (3, room 40))
    ∷ (names two_held (of1 B) no_list (ms 1000) (room 40) gives (3, room 40))
    ∷ []
