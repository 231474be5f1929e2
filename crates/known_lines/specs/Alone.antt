-- For each line of the rules' table a case in which it alone fails: it is that line, and no other, that refuses there.
use Rattle.std.specs.Prelude.{ℕ, ◌-◌, ◌^◌, List, [], ◌∷◌, ◌++◌}
use Prim.Native.String.{String}
use Rattle.std.proofs.Math.Option.{none}
use Rattle.molecule.specs.Molecule.{Value, encode}
use Rattle.transaction.specs.Ckb.{CellOutput, Records}
use Rattle.rules.specs.Judge.{Call}
use Rattle.rules.specs.Lines.{failing}
use Rattle.known_lines.specs.Lines.{lines}
use Rattle.case_parts.specs.Parts.{expected_lock, our_lock, token_type, input, dep, header, inputs, output, plain, token, amount, spending, usual, of_version}
use Rattle.case_parts.specs.Parts.{with_deps, with_headers, with_inputs, holding, cell, not_live}
use Rattle.known_cases.specs.Cases.{crowd, offer, Case, untyped, typed}

-- a case, the lines that fail in it, and the answer
pub record Row : Type 0 where
  pub fails : List String
  pub answer : List ℕ
  pub case : Case

abbrev alone : String → List ℕ → Case → Row
alone line answer c = record { fails = line ∷ []; answer = answer; case = c }

-- the first of these lines can't fail by itself
abbrev together : List String → List ℕ → Case → Row
together lines answer c = record { fails = lines; answer = answer; case = c }

-- the usual transaction but for its outputs and their data
abbrev with_outputs : List (Value CellOutput) → List (List ℕ) → List ℕ
with_outputs os es = spending (inputs 1) os es

-- an update to itself under other scripts
abbrev under : List ℕ → List ℕ → List ℕ → Case
under lock type source =
    record { lock = lock; type = type; ours = holding 0; call = record { peer = holding 0; records = encode Records []; source = source; rate = 1000 } }

-- an update to itself with any bytes for records
abbrev lending : List ℕ → Call
lending bytes = record { peer = usual; records = bytes; source = our_lock; rate = 1000 }

abbrev pub entry : List Row
entry =
    -- one byte too many, which no other line sees
    alone "our bytes unreadable" (1 ∷ []) (untyped (usual ++ (0 ∷ [])) (offer usual []))
    ∷ alone "the peer's bytes unreadable" (2 ∷ []) (untyped usual (offer (usual ++ (0 ∷ [])) []))
    -- a readable transaction's scripts are readable, so an unreadable lock or type is not that of its output 0 either
    ∷ together ("the lock unreadable" ∷ "output 0's lock not as expected" ∷ []) (3 ∷ []) (under [] token_type our_lock)
    ∷ together ("the type unreadable" ∷ "output 0's type not as expected" ∷ []) (3 ∷ []) (under expected_lock (0 ∷ []) our_lock)
    ∷ alone "our source lock unreadable" (3 ∷ []) (under expected_lock token_type [])
    ∷ []

-- from none
abbrev pub limits : List Row
limits =
    alone "size over 133,120" (4 ∷ []) (untyped [] (crowd 1 1 0 0 132908))
    ∷ alone "too many added inputs" (4 ∷ []) (untyped [] (crowd 65 1 0 0 0))
    ∷ alone "too many added outputs" (4 ∷ []) (untyped [] (crowd 1 4 0 0 0))
    ∷ alone "too many added cell deps" (4 ∷ []) (untyped [] (crowd 1 1 9 0 0))
    ∷ alone "too many added header deps" (4 ∷ []) (untyped [] (crowd 1 1 0 3 0))
    ∷ []

abbrev pub comparison : List Row
comparison =
    alone "version differs" (5 ∷ []) (untyped (of_version 0) (offer (of_version 1) []))
    ∷ alone "fewer cell deps" (5 ∷ []) (untyped (with_deps (dep 0 ∷ dep 0 ∷ [])) (offer (with_deps (dep 0 ∷ [])) []))
    ∷ alone "a cell dep of ours missing" (5 ∷ []) (untyped (with_deps (dep 0 ∷ [])) (offer (with_deps (dep 1 ∷ [])) []))
    ∷ alone "fewer header deps" (5 ∷ []) (untyped (with_headers (header 0 ∷ [])) (offer (with_headers []) []))
    ∷ alone "a header dep differs" (5 ∷ []) (untyped (with_headers (header 0 ∷ [])) (offer (with_headers (header 1 ∷ [])) []))
    ∷ alone "fewer inputs" (5 ∷ []) (untyped (with_inputs (inputs 2)) (offer (with_inputs (inputs 1)) []))
    ∷ alone "an input differs" (5 ∷ []) (untyped (with_inputs (input 0 ∷ [])) (offer (with_inputs (input 1 ∷ [])) []))
    ∷ alone "fewer outputs" (5 ∷ []) (untyped (with_outputs (plain 100 ∷ plain 7 ∷ []) ([] ∷ [] ∷ []))
    (offer (with_outputs (plain 100 ∷ []) ([] ∷ [] ∷ [])) []))
    ∷ alone "output 0's lock not as expected" (5 ∷ []) (untyped usual (offer (with_outputs (output 3 none 100 ∷ []) ([] ∷ [])) []))
    ∷ alone "output 0's type not as expected" (5 ∷ []) (untyped usual (offer (with_outputs (token 100 ∷ []) ([] ∷ [])) []))
    ∷ alone "output 0 untyped with data" (5 ∷ []) (untyped usual (offer (with_outputs (plain 100 ∷ []) ((1 ∷ []) ∷ [])) []))
    ∷ alone "an output after 0 differs" (5 ∷ []) (untyped (with_outputs (plain 100 ∷ plain 7 ∷ []) ([] ∷ [] ∷ []))
    (offer (with_outputs (plain 100 ∷ plain 8 ∷ []) ([] ∷ [] ∷ [])) []))
    ∷ alone "fewer data entries" (5 ∷ []) (untyped (with_outputs (plain 100 ∷ []) ([] ∷ [] ∷ [])) (offer (with_outputs (plain 100 ∷ []) ([] ∷ [])) []))
    ∷ alone "a data entry after 0 differs" (5 ∷ []) (untyped (with_outputs (plain 100 ∷ plain 7 ∷ []) ([] ∷ (1 ∷ []) ∷ []))
    (offer (with_outputs (plain 100 ∷ plain 7 ∷ []) ([] ∷ (2 ∷ []) ∷ [])) []))
    ∷ []

abbrev pub records : List Row
records =
    alone "a record unreadable" (3 ∷ []) (untyped usual (lending []))
    ∷ alone "not one record per added input" (3 ∷ []) (untyped usual (offer usual (cell (plain 5) [] ∷ [])))
    ∷ alone "a record not live" (5 ∷ []) (untyped usual (offer (with_inputs (inputs 2)) (not_live ∷ [])))
    ∷ alone "a record under our source lock" (6 ∷ 1 ∷ []) (untyped usual (offer (with_inputs (inputs 2)) (cell (output 1 none 5) [] ∷ [])))
    ∷ []

abbrev pub contribution : List Row
contribution =
    alone "output 0 missing" (5 ∷ []) (untyped [] (offer (with_outputs [] ([] ∷ [])) (cell (plain 1000) [] ∷ [])))
    ∷ alone "output 0's data missing" (5 ∷ []) (untyped [] (offer (with_outputs (plain 100 ∷ []) []) (cell (plain 1000) [] ∷ [])))
    ∷ alone "its capacity falls" (5 ∷ []) (untyped usual (offer (with_outputs (plain 99 ∷ []) ([] ∷ [])) []))
    ∷ alone "our amount under 16 bytes" (5 ∷ []) (typed (with_outputs (token 100 ∷ []) ([] ∷ [])) (offer (holding 0) []))
    ∷ alone "the peer's amount under 16 bytes" (5 ∷ []) (typed [] (offer (with_outputs (token 100 ∷ []) ([] ∷ [])) (cell (plain 1000) [] ∷ [])))
    ∷ alone "amount falls" (5 ∷ []) (typed (holding 5) (offer (holding 4) []))
    ∷ alone "added inputs below growth plus added outputs" (5 ∷ []) (untyped usual (offer (with_outputs (plain 101 ∷ []) ([] ∷ [])) []))
    ∷ alone "the fee too low" (8 ∷ 204 ∷ 205 ∷ 1000 ∷ 205 ∷ []) (untyped [] (offer usual (cell (plain 304) [] ∷ [])))
    ∷ []

abbrev pub tokens : List Row
tokens =
    alone "a record's amount under 16 bytes" (5 ∷ []) (typed (holding 5)
    (offer (spending (inputs 2) (token 100 ∷ []) (amount 5 ∷ [])) (cell (token 7) [] ∷ [])))
    ∷ alone "the records' total 2^128 or more" (7 ∷ []) (typed (holding 5)
    (offer (spending (inputs 3) (token 100 ∷ []) (amount 5 ∷ [])) (cell (token 7) (amount (2 ^ 128 - 1)) ∷ cell (token 7) (amount 1) ∷ [])))
    ∷ alone "an added output's amount under 16 bytes" (5 ∷ []) (typed (holding 5)
    (offer (spending (inputs 2) (token 100 ∷ token 7 ∷ []) (amount 5 ∷ [] ∷ [])) (cell (plain 7) [] ∷ [])))
    -- growth plus outputs is no less than the outputs, and records that pass their own line come to less than 2^128
    ∷ together ("the added outputs' total 2^128 or more" ∷ "growth plus outputs 2^128 or more" ∷ "token inputs below growth plus outputs" ∷ []) (7
    ∷ []) (typed (holding 5) (offer (spending (inputs 2) (token 100 ∷ token 7 ∷ token 7 ∷ []) (amount 5 ∷ amount (2 ^ 128 - 1) ∷ amount 1 ∷ []))
    (cell (plain 14) [] ∷ [])))
    ∷ together ("growth plus outputs 2^128 or more" ∷ "token inputs below growth plus outputs" ∷ []) (7 ∷ []) (typed (holding 5)
    (offer (spending (inputs 2) (token 100 ∷ token 7 ∷ []) (amount 6 ∷ amount (2 ^ 128 - 1) ∷ [])) (cell (plain 7) [] ∷ [])))
    ∷ alone "token inputs below growth plus outputs" (5 ∷ []) (typed (holding 5) (offer (holding 6) []))
    ∷ []

abbrev pub groups : List (List Row)
groups = entry ∷ limits ∷ comparison ∷ records ∷ contribution ∷ tokens ∷ []

-- the lines that fail in a case
abbrev pub failing_in : Case → List String
failing_in c = failing (lines c.lock c.type c.ours c.call)

-- a typed update that adds one input and one output: every line stands in its table once
abbrev pub whole : Case
whole = typed (holding 5) (offer (spending (inputs 2) (token 100 ∷ token 7 ∷ []) (amount 5 ∷ amount 7 ∷ [])) (cell (token 7) (amount 7) ∷ []))
