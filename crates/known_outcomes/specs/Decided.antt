-- Cases on which readings of the papers differ (docs/DECISIONS.md, "A peer's update"; docs/RULES.md, "What the peer put in" and "Where an account goes
-- wrong"), as a table like that of specs/Outcomes.antt.
use Rattle.std.specs.Prelude.{ℕ, ◌-◌, ◌/◌, ◌^◌, List, [], ◌∷◌, ◌++◌, replicate}
use Rattle.std.proofs.Math.Option.{none, some}
use Rattle.molecule.specs.Items.{join}
use Rattle.molecule.specs.Molecule.{Value, option, encode}
use Rattle.transaction.specs.Ckb.{CellOutput, Record, Records}
use Rattle.rules.specs.Judge.{Call}
use Rattle.case_parts.specs.Rows.{Row, ◌gives◌}
use Rattle.case_parts.specs.Parts.{plain_script, expected_lock, our_lock, input, inputs, dep, deps, output, plain, token, amount, transaction, spending}
use Rattle.case_parts.specs.Parts.{usual, holding, cell, not_live}
use Rattle.known_cases.specs.Cases.{at_rate, offer, untyped, typed, answer}
use Rattle.known_outcomes.specs.Outcomes.{empty_tx, peer_tx}

-- an update that adds one input to `usual` or to `holding`: the outputs then, their data, and the record
abbrev adding : List (Value CellOutput) → List (List ℕ) → Value (option Record) → Call
adding os es r = offer (spending (inputs 2) os es) (r ∷ [])

-- records as any bytes
abbrev lending : List ℕ → Call
lending bytes = record { peer = spending (inputs 3) (plain 100 ∷ []) ([] ∷ []); records = bytes; source = our_lock; rate = 1000 }

-- a first update
abbrev first : List (Row (List ℕ))
first =
    -- typed, from none: 7 brought in and 5 at output 0, 2 are left; from the 68-byte transaction just as from none, typed and untyped
    (answer (typed [] (offer (holding 5) (cell (token 1000) (amount 7) ∷ []))) gives 0 ∷ 900 ∷ 2 ∷ [])
    ∷ (answer (typed empty_tx (offer (holding 5) (cell (token 1000) (amount 7) ∷ []))) gives 0 ∷ 900 ∷ 2 ∷ [])
    ∷ (answer (untyped empty_tx (offer peer_tx (cell (plain 10000000205) [] ∷ []))) gives 0 ∷ 205 ∷ 0 ∷ [])
    ∷ (answer (untyped empty_tx (offer peer_tx (cell (plain 10000000204) [] ∷ []))) gives 8 ∷ 204 ∷ 205 ∷ 1000 ∷ 205 ∷ [])
    -- with change: an output of 40, and one of 40 and a token
    ∷ (answer (untyped [] (offer (spending (inputs 1) (plain 100 ∷ plain 40 ∷ []) ([] ∷ [] ∷ [])) (cell (plain 1000) [] ∷ []))) gives 0 ∷ 860 ∷ 0 ∷ [])
    ∷ (answer (typed [] (offer (spending (inputs 1) (token 100 ∷ token 40 ∷ []) (amount 5 ∷ amount 1 ∷ [])) (cell (token 1000) (amount 7) ∷ [])))
    gives 0 ∷ 860 ∷ 1 ∷ [])
    -- "absent counts 0" goes by the output: ours has no inputs and no outputs, but a data entry; the fee is due
    ∷ (answer (typed (spending [] [] (amount 9 ∷ [])) (offer (holding 5) (cell (token 1000) (amount 7) ∷ []))) gives 0 ∷ 900 ∷ 2 ∷ [])
    ∷ (answer (untyped (spending [] [] ([] ∷ [])) (offer usual (cell (plain 304) [] ∷ []))) gives 8 ∷ 204 ∷ 205 ∷ 1000 ∷ 205 ∷ [])
    -- the sum of capacities is not held to 64 bits
    ∷ (answer (untyped [] (offer (spending (inputs 2) (plain 100 ∷ []) ([] ∷ [])) (replicate 2 (cell (plain (2 ^ 64 - 1)) []))))
    gives 0 ∷ (2 ^ 65 - 102) ∷ 0 ∷ [])
    ∷ []

-- a later one
abbrev later : List (Row (List ℕ))
later =
    -- membership, not a count: ours [d, d], the peer's [d, e]
    (answer (untyped (transaction 0 (dep 0 ∷ dep 0 ∷ []) [] (inputs 1) (plain 100 ∷ []) ([] ∷ []) [])
    (offer (transaction 0 (deps 2) [] (inputs 1) (plain 100 ∷ []) ([] ∷ []) []) [])) gives 0 ∷ 0 ∷ 0 ∷ [])
    -- witnesses are not compared
    ∷ (answer (untyped usual (offer (transaction 0 [] [] (inputs 1) (plain 100 ∷ []) ([] ∷ []) ((1 ∷ []) ∷ [])) [])) gives 0 ∷ 0 ∷ 0 ∷ [])
    -- output 0 is not compared with ours: neither its capacity, lock and type nor its data
    ∷ (answer (typed (spending (inputs 1) (output 3 none 90 ∷ []) (amount 5 ∷ []))
    (adding (token 100 ∷ []) (amount 6 ∷ []) (cell (token 10) (amount 1)))) gives 0 ∷ 0 ∷ 0 ∷ [])
    -- our amount is read whatever our type is: it was 5, so one token has to come in
    ∷ (answer (typed (spending (inputs 1) (plain 100 ∷ []) (amount 5 ∷ [])) (adding (token 100 ∷ []) (amount 6 ∷ []) (cell (plain 10) []))) gives 5 ∷ [])
    -- a missing data entry of ours is free for the peer to fill
    ∷ (answer (untyped (spending (inputs 1) (plain 100 ∷ plain 7 ∷ []) ([] ∷ []))
    (offer (spending (inputs 1) (plain 100 ∷ plain 7 ∷ []) ([] ∷ (1 ∷ []) ∷ [])) [])) gives 0 ∷ 0 ∷ 0 ∷ [])
    -- a record and an added output of another type may hold any data
    ∷ (answer (typed (holding 5) (adding (token 100 ∷ output 0 (some (plain_script 3)) 7 ∷ []) (amount 5 ∷ (1 ∷ []) ∷ [])
    (cell (output 0 (some (plain_script 3)) 7) (2 ∷ [])))) gives 0 ∷ 0 ∷ 0 ∷ [])
    -- each input entry counts by itself
    ∷ (answer (untyped usual (offer (spending (input 0 ∷ input 1 ∷ input 1 ∷ []) (plain 120 ∷ []) ([] ∷ [])) (replicate 2 (cell (plain 10) []))))
    gives 0 ∷ 0 ∷ 0 ∷ [])
    -- the high halves decide: 2^64 is more than 2^64 - 1
    ∷ (answer (typed (holding (2 ^ 64 - 1)) (adding (token 100 ∷ []) (amount (2 ^ 64) ∷ []) (cell (token 10) (amount 1)))) gives 0 ∷ 10 ∷ 0 ∷ [])
    ∷ (answer (typed (holding (2 ^ 64)) (adding (token 100 ∷ []) (amount (2 ^ 64 - 1) ∷ []) (cell (token 10) (amount 1)))) gives 5 ∷ [])
    ∷ []

abbrev refusals : List (Row (List ℕ))
refusals =
    -- no bytes are no transaction of the peer's
    (answer (untyped [] (offer [] [])) gives 2 ∷ [])
    -- an unreadable type is 3 where there is no output 0
    ∷ (answer (record { lock = expected_lock; type = 0 ∷ []; ours = []; call = offer empty_tx [] }) gives 3 ∷ [])
    -- an unreadable record anywhere comes first: [not live, unreadable], and [not live, not live]
    ∷ (answer (untyped usual (lending (join ([] ∷ (0 ∷ []) ∷ [])))) gives 3 ∷ [])
    ∷ (answer (untyped usual (lending (encode Records (not_live ∷ not_live ∷ [])))) gives 5 ∷ [])
    -- by input: the first that fails; the index is that among all inputs
    ∷ (answer (untyped usual (lending (encode Records (not_live ∷ cell (output 1 none 5) [] ∷ [])))) gives 5 ∷ [])
    ∷ (answer (untyped usual (lending (encode Records (cell (plain 5) [] ∷ cell (output 1 none 5) [] ∷ [])))) gives 6 ∷ 2 ∷ [])
    -- more entries than outputs: those after 0 are compared all the same
    ∷ (answer (untyped (spending (inputs 1) (plain 100 ∷ []) ([] ∷ (1 ∷ []) ∷ []))
    (offer (spending (inputs 1) (plain 100 ∷ []) ([] ∷ (2 ∷ []) ∷ [])) [])) gives 5 ∷ [])
    -- inputs are compared with their since
    ∷ (answer (untyped usual (offer (spending (((1 ∷ []) ++ replicate 7 0, (input 0).1) ∷ []) (plain 100 ∷ []) ([] ∷ [])) [])) gives 5 ∷ [])
    -- an added output of the type without its data entry, which a later update could fill: the law would fail
    ∷ (answer (typed [] (offer (spending (inputs 1) (token 100 ∷ token 40 ∷ []) (amount 5 ∷ [])) (cell (token 1000) (amount 7) ∷ []))) gives 5 ∷ [])
    -- by output: a total of 2^128 comes before a later short amount
    ∷ (answer (typed (holding 5) (adding (token 100 ∷ token 1 ∷ token 1 ∷ token 1 ∷ []) (amount 5 ∷ amount (2 ^ 128 - 1) ∷ amount 1 ∷ [] ∷ [])
    (cell (plain 3) []))) gives 7 ∷ [])
    -- by record, then by output: a record's short amount comes before an output's total
    ∷ (answer (typed (holding 5) (adding (token 100 ∷ token 1 ∷ token 1 ∷ []) (amount 5 ∷ amount (2 ^ 128 - 1) ∷ amount 1 ∷ []) (cell (token 3) [])))
    gives 5 ∷ [])
    -- the fee comes before the tokens
    ∷ (answer (typed [] (offer (holding 5) (cell (token 100) (amount 4) ∷ []))) gives 8 ∷ 0 ∷ 274 ∷ 1000 ∷ 274 ∷ [])
    -- rate times size is capped before the division
    ∷ (answer (untyped [] (at_rate (2 ^ 64 - 1) usual (cell (plain 304) [] ∷ []))) gives 8 ∷ 204 ∷ ((2 ^ 64 - 1) / 1000) ∷ (2 ^ 64 - 1) ∷ 205 ∷ [])
    ∷ []

abbrev pub decided : List (Row (List ℕ))
decided = first ++ later ++ refusals
