-- Two lists of updates: one worked through, and one in which the expected type changes.
use Rattle.std.specs.Prelude.{ℕ, List, [], ◌∷◌}
use Rattle.molecule.specs.Molecule.{Value, encode}
use Rattle.transaction.specs.Ckb.{CellInput, CellOutput}
use Rattle.units.specs.Units.{Figures}
use Rattle.rules.specs.Judge.{Call, judge}
use Rattle.rules.specs.Run.{Entry, Spent, lent_cells}
use Rattle.case_parts.specs.Parts.{inputs, plain, token, amount, spending, cell, token_type}
use Rattle.known_cases.specs.Cases.{offer}

-- ---- under one type: accepted, refused, accepted

-- 1,000 shannons and 7 tokens come in; 100 and 5 go to output 0, 40 and 1 into change
abbrev pub opening : Call
opening = offer (spending (inputs 1) (token 100 ∷ token 40 ∷ []) (amount 5 ∷ amount 1 ∷ [])) (cell (token 1000) (amount 7) ∷ [])

-- the amount at output 0 falls to 4; its record vanishes
abbrev pub falling : Call
falling = offer (spending (inputs 2) (token 100 ∷ token 40 ∷ []) (amount 4 ∷ amount 1 ∷ [])) (cell (token 500) (amount 9) ∷ [])

-- 60 and 4 come in; output 0 grows to 150 and 8
abbrev pub growing : Call
growing = offer (spending (inputs 2) (token 150 ∷ token 40 ∷ []) (amount 8 ∷ amount 1 ∷ [])) (cell (token 60) (amount 4) ∷ [])

abbrev pub worked : List Call
worked = opening ∷ falling ∷ growing ∷ []

-- an input with the cell that it spends
abbrev pub spent_for : Value CellInput → Value CellOutput → List ℕ → Spent
spent_for i o d = record { input = encode CellInput i; cell = record { output = encode CellOutput o; cell_data = d } }

-- ---- under a type that comes with each call

abbrev pub any_type : List ℕ → Entry (List ℕ × Call) Figures
any_type lock = record {
  judged = λ ours c. judge lock c.0 ours c.1;
  peer_of = λ c. c.1.peer;
  lent = λ c. lent_cells c.1.records;
}

-- 7 tokens come in and 5 go to output 0; then output 0 holds none, and nobody counts
abbrev pub changing : List (List ℕ × Call)
changing =
    (token_type, offer (spending (inputs 1) (token 100 ∷ []) (amount 5 ∷ [])) (cell (token 1000) (amount 7) ∷ []))
    ∷ ([], offer (spending (inputs 1) (plain 100 ∷ []) ([] ∷ [])) [])
    ∷ []
