-- The token pick and its change output worked through (docs/RULES.md, "Our own side"). proofs/KnownPicks.antt proves all rows. Those that docs/RULES.md stars
-- are rows of crate known_outcomes too.
use Rattle.std.specs.Prelude.{ℕ, ◌-◌, ◌^◌, List, [], ◌∷◌, ◌++◌, map, length, replicate}
use Rattle.molecule.specs.Layout.{items_of}
use Rattle.molecule.specs.Molecule.{encode}
use Rattle.transaction.specs.Ckb.{Script, TokenCells}
use Rattle.error.specs.Outcome.{Outcome, fine, refused}
use Rattle.cell_output.specs.CellOutput.{cell_output}
use Rattle.udt_cells.specs.Pick.{Pick, pick_from}
use Rattle.udt_cells.specs.Change.{Built, built, capacity_for, udt_inputs_outputs}
use Rattle.case_parts.specs.Rows.{Row, ◌gives◌}
use Rattle.case_parts.specs.Parts.{amount, room}
use Rattle.known_bases.specs.Bases.{token_cell, three_cells, no_list}

-- ---- the pick

abbrev cells_of : List (List ℕ) → List ℕ
cells_of ds = encode TokenCells (map (token_cell 0) ds)

abbrev cells : List ℕ
cells = encode TokenCells three_cells

abbrev picked : ℕ → List ℕ → Outcome Pick
picked wanted bytes = pick_from wanted 0 0 (items_of bytes)

abbrev taking : ℕ → ℕ → Outcome Pick
taking taken change = fine (record { taken = taken; change = change })

abbrev pub picks : List (Row (Outcome Pick))
picks =
    -- of 30, 50, 40 wanted 70 takes two, change 10; 80 none; all of them are 120, and 121 gets 9
    (picked 70 cells gives taking 2 10)
    ∷ (picked 80 cells gives taking 2 0)
    ∷ (picked 120 cells gives taking 3 0)
    ∷ (picked 121 cells gives refused 9 [])
    -- 0 takes nothing; a cell of 0 before the goal is taken, and none after it
    ∷ (picked 0 cells gives taking 0 0)
    ∷ (picked 5 (cells_of (amount 0 ∷ amount 5 ∷ amount 0 ∷ [])) gives taking 2 0)
    -- one cell of 3 tokens listed twice is taken twice
    ∷ (picked 5 (cells_of (amount 3 ∷ amount 3 ∷ [])) gives taking 2 1)
    -- no data, and data of 15 bytes: 12 before the goal, and behind it unread
    ∷ (picked 1 (cells_of ([] ∷ [])) gives refused 12 [])
    ∷ (picked 31 (cells_of (amount 30 ∷ replicate 15 0 ∷ [])) gives refused 12 [])
    ∷ (picked 30 (cells_of (amount 30 ∷ replicate 15 0 ∷ [])) gives taking 1 0)
    -- a total of 2^128: 10 before the goal, and behind it unread
    ∷ (picked (2 ^ 128 - 1) (cells_of (amount (2 ^ 128 - 2) ∷ amount 2 ∷ [])) gives refused 10 [])
    ∷ (picked (2 ^ 128 - 2) (cells_of (amount (2 ^ 128 - 2) ∷ amount 2 ∷ [])) gives taking 1 0)
    -- bytes that are no list have no cell
    ∷ (picked 1 [] gives refused 9 [])
    ∷ []

-- ---- the change

-- lock args of 20 bytes, type args of 32
abbrev source : List ℕ
source = encode Script (replicate 32 1, (0, (replicate 20 7, tt)))

abbrev type : List ℕ
type = encode Script (replicate 32 2, (0, (replicate 32 8, tt)))

-- the table of capacity, our lock and the type: 182 bytes
abbrev change : List ℕ
change = cell_output 14200000000 source type

abbrev pub sizes : List (Row (List ℕ))
sizes = (capacity_for source type ∷ length change ∷ [] gives 14200000000 ∷ 182 ∷ []) ∷ []

abbrev pub changes : List (Row (Outcome Built × List ℕ))
changes =
    -- what is behind the change output keeps its value; with no change nothing is written
    (udt_inputs_outputs cells type source 70 (room 183) gives (built 2 10 14200000000, change ++ room 1))
    ∷ (udt_inputs_outputs cells type source 80 (room 1) gives (built 2 0 0, room 1))
    -- untyped, nothing is picked; a buffer too short by one byte is 13
    ∷ (udt_inputs_outputs cells [] source 70 (room 1) gives (built 0 0 0, room 1))
    ∷ (udt_inputs_outputs cells type source 70 (room 181) gives (refused 13 [], room 181))
    -- the list and the scripts are read before the cells
    ∷ (udt_inputs_outputs [] [] source 0 (room 1) gives (refused 3 [], room 1))
    ∷ (udt_inputs_outputs cells no_list source 121 (room 1) gives (refused 3 [], room 1))
    ∷ (udt_inputs_outputs cells type [] 121 (room 1) gives (refused 3 [], room 1))
    ∷ (udt_inputs_outputs cells type source 121 (room 1) gives (refused 9 [], room 1))
    ∷ []
