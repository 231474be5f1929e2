-- Updates on which wrong versions of the rules answer otherwise. Beside each case stands what it shuts out, and what the wrong rule would answer.
-- proofs/KnownOrders.antt proves all rows at once.
use Rattle.std.specs.Prelude.{ℕ, ◌-◌, ◌^◌, List, [], ◌∷◌, ◌++◌, replicate}
use Rattle.std.proofs.Math.Option.{none, some}
use Rattle.arithmetic.specs.LittleEndian.{to_le}
use Rattle.molecule.specs.Items.{join}
use Rattle.molecule.specs.Molecule.{Value, option, encode}
use Rattle.transaction.specs.Ckb.{CellOutput, Record, Records}
use Rattle.rules.specs.Judge.{Call}
use Rattle.case_parts.specs.Rows.{Row, ◌gives◌}
use Rattle.case_parts.specs.Parts.{plain_script, expected_lock, our_lock, input, inputs, dep, deps, header, output, plain, token, amount, transaction}
use Rattle.case_parts.specs.Parts.{spending, bare, usual, of_version, with_deps, with_headers, with_inputs, holding, cell, not_live}
use Rattle.known_cases.specs.Cases.{offer, Case, untyped}
use Rattle.known_cases.specs.Cases.{typed, answer}

-- ---- transactions

-- two outputs more: so many shannons in output 2, and its data
abbrev with_third : ℕ → List ℕ → List ℕ
with_third shannons bytes = spending (inputs 1) (plain 100 ∷ plain 7 ∷ plain shannons ∷ []) ([] ∷ [] ∷ bytes ∷ [])

-- of a version, with cell deps and inputs, and no outputs
abbrev outless : ℕ → ℕ → ℕ → List ℕ
outless version ds is = transaction version (deps ds) [] (inputs is) [] [] []

-- ---- cases

-- bytes that are no transaction, no script and no records
abbrev unreadable : List ℕ
unreadable = 0 ∷ []

-- code hash, hash type, args and a fourth field, of no bytes
abbrev four_fields : List ℕ
four_fields = join (replicate 32 1 ∷ (0 ∷ []) ∷ to_le 4 0 ∷ [] ∷ [])

-- ours and the peer's under a lock, a type and a source lock, no record
abbrev under : List ℕ → List ℕ → List ℕ → List ℕ → List ℕ → Case
under lock type source ours peer = record {
  lock = lock;
  type = type;
  ours = ours;
  call = record { peer = peer; records = encode Records []; source = source; rate = 1000 };
}

abbrev scriptless : List ℕ → List ℕ → Case
scriptless = under unreadable unreadable unreadable

-- ours and the peer's differ in what is compared last, a data entry after 0, and the peer's has an input more; any bytes as records
abbrev differing : List ℕ → Case
differing records =
    untyped (spending [] (plain 100 ∷ []) ([] ∷ (1 ∷ [])
    ∷ [])) (record { peer = spending (inputs 1) (plain 100 ∷ []) ([] ∷ (2 ∷ []) ∷ []); records = records; source = our_lock; rate = 1000 })

-- 9 cell deps are added, and every line of the comparison fails but the one on fewer cell deps
abbrev alien : Case
alien =
    untyped (transaction 0 (dep 20 ∷ []) (header 0 ∷ header 1 ∷ []) (inputs 2) (plain 100 ∷ plain 7 ∷ plain 7 ∷ []) ([] ∷ (1 ∷ []) ∷ [] ∷ []) [])
    (offer (transaction 1 (deps 10) (header 2 ∷ []) (input 5 ∷ []) (output 3 (some (plain_script 2)) 100 ∷ plain 8 ∷ []) ((1 ∷ []) ∷ (2 ∷ []) ∷ []) []) [])

-- 1,000 shannons come in for one output and its data
abbrev opening : Value CellOutput → List ℕ → Call
opening o bytes = offer (spending (inputs 1) (o ∷ []) (bytes ∷ [])) (cell (plain 1000) [] ∷ [])

-- a record under our source lock
abbrev from_our_lock : Value (option Record)
from_our_lock = cell (output 1 none 5) []

-- ---- the table

-- limits are of what is added
abbrev limits : List (Row (List ℕ))
limits =
    -- ours 1 input, the peer's 65: within the limits, and no records are lent; not 4, as if inputs were limited in total
    (answer (untyped (bare 1) (offer (bare 65) [])) gives 3 ∷ [])
    -- 66; not 3, as if only a first update were limited
    ∷ (answer (untyped (bare 1) (offer (bare 66) [])) gives 4 ∷ [])
    -- ours 1 cell dep, the peer's 9; not 4, as if cell deps were limited in total
    ∷ (answer (untyped (with_deps (deps 1)) (offer (with_deps (deps 9)) [])) gives 0 ∷ 0 ∷ 0 ∷ [])
    -- 10; not accepted, as if only a first update were limited
    ∷ (answer (untyped (with_deps (deps 1)) (offer (with_deps (deps 10)) [])) gives 4 ∷ [])
    -- ours 1 output, the peer's 4, and no data; not 4, as if outputs were limited in total
    ∷ (answer (untyped (spending [] (plain 100 ∷ []) []) (offer (spending [] (replicate 4 (plain 100)) []) [])) gives 5 ∷ [])
    -- 5; not 5 for the missing data, as if only a first update were limited
    ∷ (answer (untyped (spending [] (plain 100 ∷ []) []) (offer (spending [] (replicate 5 (plain 100)) []) [])) gives 4 ∷ [])
    ∷ []

-- what is compared, and how
abbrev comparison : List (Row (List ℕ))
comparison =
    -- both of version 1; not 5, as if the peer's had to be 0
    (answer (untyped (of_version 1) (offer (of_version 1) [])) gives 0 ∷ 0 ∷ 0 ∷ [])
    -- a header dep more; not 5, as if none could be added
    ∷ (answer (untyped usual (offer (with_headers (header 1 ∷ [])) [])) gives 0 ∷ 0 ∷ 0 ∷ [])
    -- a header dep behind one of ours; not 5, as if ours had to be all
    ∷ (answer (untyped (with_headers (header 0 ∷ [])) (offer (with_headers (header 0 ∷ header 1 ∷ [])) [])) gives 0 ∷ 0 ∷ 0 ∷ [])
    -- two header deps swapped; not accepted, as if they were a set
    ∷ (answer (untyped (with_headers (header 0 ∷ header 1 ∷ [])) (offer (with_headers (header 1 ∷ header 0 ∷ [])) [])) gives 5 ∷ [])
    -- two inputs swapped; not accepted, as if they were a set
    ∷ (answer (untyped (with_inputs (input 0 ∷ input 1 ∷ [])) (offer (with_inputs (input 1 ∷ input 0 ∷ [])) [])) gives 5 ∷ [])
    -- output 2 differs; not accepted, as if only output 1 were compared
    ∷ (answer (untyped (with_third 7 []) (offer (with_third 8 []) [])) gives 5 ∷ [])
    -- data entry 2 differs; not accepted, as if only entry 1 were compared
    ∷ (answer (untyped (with_third 7 (1 ∷ [])) (offer (with_third 7 (2 ∷ [])) [])) gives 5 ∷ [])
    -- three outputs and their entries stay; not 5, as if they were compared with those one place on
    ∷ (answer (untyped (with_third 7 (1 ∷ [])) (offer (with_third 7 (1 ∷ [])) [])) gives 0 ∷ 0 ∷ 0 ∷ [])
    -- more entries than outputs, or fewer, that stay; not 5, as if outputs were counted against entries
    ∷ (answer (untyped (spending (inputs 1) (plain 100 ∷ []) ([] ∷ [] ∷ []))
    (offer (spending (inputs 1) (plain 100 ∷ []) ([] ∷ [] ∷ [])) [])) gives 0 ∷ 0 ∷ 0 ∷ [])
    ∷ (answer (untyped (spending (inputs 1) (plain 100 ∷ plain 7 ∷ []) ([] ∷ []))
    (offer (spending (inputs 1) (plain 100 ∷ plain 7 ∷ []) ([] ∷ [])) [])) gives 0 ∷ 0 ∷ 0 ∷ [])
    -- from none, output 0 under another lock, of a type, or untyped with data; not accepted, as if output 0 were looked at only where ours has one
    ∷ (answer (untyped [] (opening (output 3 none 100) [])) gives 5 ∷ [])
    ∷ (answer (untyped [] (opening (token 100) [])) gives 5 ∷ [])
    ∷ (answer (untyped [] (opening (plain 100) (1 ∷ []))) gives 5 ∷ [])
    ∷ []

-- which bytes are a script
abbrev scripts : List (Row (List ℕ))
scripts =
    -- our source lock with a fourth field; not accepted, as by a reader that passes over further fields
    (answer (under expected_lock [] four_fields usual usual) gives 3 ∷ [])
    ∷ []

-- which data are an amount, and how much it may be
abbrev amounts : List (Row (List ℕ))
amounts =
    -- 17 bytes of data: the first 16 are the amount; not 5, as if there had to be 16, or all were the amount
    (answer (typed (holding 5) (offer (spending (inputs 1) (token 100 ∷ []) ((amount 5 ++ (1 ∷ [])) ∷ [])) [])) gives 0 ∷ 0 ∷ 0 ∷ [])
    -- 15 bytes; not accepted, as if they were enough
    ∷ (answer (typed [] (offer (spending (inputs 1) (token 100 ∷ []) (to_le 15 5 ∷ [])) (cell (token 1000) (amount 5) ∷ []))) gives 5 ∷ [])
    -- 2^128 - 1 come in, for a growth of 1 and an output of 2^128 - 2; not 7, as if less than 2^128 were too much
    ∷ (answer (typed (holding 5) (offer (spending (inputs 2) (token 100 ∷ token 7 ∷ []) (amount 6 ∷ amount (2 ^ 128 - 2) ∷ []))
    (cell (token 7) (amount (2 ^ 128 - 1)) ∷ []))) gives 0 ∷ 0 ∷ 0 ∷ [])
    -- ours has an input and no outputs, or no outputs and a short entry; not 5, as if our amount were read by inputs, or by entries
    ∷ (answer (typed (bare 1) (offer (spending (inputs 2) (token 100 ∷ []) (amount 5 ∷ [])) (cell (token 100) (amount 5) ∷ []))) gives 0 ∷ 0 ∷ 0 ∷ [])
    ∷ (answer (typed (spending [] [] ((1 ∷ []) ∷ [])) (offer (holding 5) (cell (token 1000) (amount 7) ∷ []))) gives 0 ∷ 900 ∷ 2 ∷ [])
    -- ours has an output with a short entry and no inputs, or an output without its entry; not accepted, likewise
    ∷ (answer (typed (spending [] (token 100 ∷ []) ([] ∷ [])) (offer (spending [] (token 100 ∷ []) (amount 0 ∷ [])) [])) gives 5 ∷ [])
    ∷ (answer (typed (spending (inputs 1) (token 100 ∷ []) []) (offer (holding 0) [])) gives 5 ∷ [])
    ∷ []

-- the fee is due where ours has no inputs and no outputs
abbrev fee : List (Row (List ℕ))
fee =
    -- ours 1 input and no outputs, 100 come in for an output of 100; not 8, as if no outputs were enough
    (answer (untyped (bare 1) (offer (with_inputs (inputs 2)) (cell (plain 100) [] ∷ []))) gives 0 ∷ 0 ∷ 0 ∷ [])
    -- ours no inputs and 1 output, which grows by 100; not 8, as if no inputs were enough
    ∷ (answer (untyped (with_inputs []) (offer (spending (inputs 1) (plain 200 ∷ []) ([] ∷ [])) (cell (plain 100) [] ∷ []))) gives 0 ∷ 0 ∷ 0 ∷ [])
    ∷ []

-- two checks fail, and the one that comes first answers
abbrev order : List (Row (List ℕ))
order =
    -- ours and the peer's unreadable; not 2
    (answer (untyped unreadable (offer unreadable [])) gives 1 ∷ [])
    -- ours and the scripts; not 3
    ∷ (answer (scriptless unreadable (bare 0)) gives 1 ∷ [])
    -- the peer's and the scripts; not 3
    ∷ (answer (scriptless [] unreadable) gives 2 ∷ [])
    -- the lock, the type or our source lock unreadable, and 9 cell deps; not 4
    ∷ (answer (under unreadable [] our_lock [] (outless 0 9 0)) gives 3 ∷ [])
    ∷ (answer (under expected_lock unreadable our_lock [] (outless 0 9 0)) gives 3 ∷ [])
    ∷ (answer (under expected_lock [] unreadable [] (outless 0 9 0)) gives 3 ∷ [])
    -- 65 inputs, 4 outputs or 9 cell deps, and another version; not 5
    ∷ (answer (untyped [] (offer (outless 1 0 65) [])) gives 4 ∷ [])
    ∷ (answer (untyped [] (offer (transaction 1 [] [] [] (replicate 4 (plain 100)) [] []) [])) gives 4 ∷ [])
    ∷ (answer (untyped [] (offer (outless 1 9 0) [])) gives 4 ∷ [])
    -- 9 cell deps, and almost every line of the comparison; not 5
    ∷ (answer alien gives 4 ∷ [])
    -- 4 outputs, and a cell dep less; not 5
    ∷ (answer (untyped (outless 0 1 0) (offer (spending [] (replicate 4 (plain 100)) []) [])) gives 4 ∷ [])
    -- a data entry after 0 differs, and the records are unreadable, or none for an input; not 3
    ∷ (answer (differing unreadable) gives 5 ∷ [])
    ∷ (answer (differing (encode Records [])) gives 5 ∷ [])
    -- or one is under our lock; not 6
    ∷ (answer (differing (encode Records (from_our_lock ∷ []))) gives 5 ∷ [])
    -- one record for two inputs, or for none, not live; not 5
    ∷ (answer (untyped [] (offer (bare 2) (not_live ∷ []))) gives 3 ∷ [])
    ∷ (answer (untyped [] (offer (bare 0) (not_live ∷ []))) gives 3 ∷ [])
    -- one for two, under our lock; not 6
    ∷ (answer (untyped [] (offer (bare 2) (from_our_lock ∷ []))) gives 3 ∷ [])
    -- a record under our lock, and then one that is unreadable; not 6
    ∷ (answer (untyped usual (record {
      peer = spending (inputs 3) (plain 100 ∷ []) ([] ∷ []);
      records = join (encode (option Record) from_our_lock
          ∷ unreadable ∷ []);
      source = our_lock;
      rate = 1000;
    })) gives 3 ∷ [])
    -- a token record with data under 16 bytes, and then one under our lock; not 5
    ∷ (answer (typed (holding 5) (offer (spending (inputs 3) (token 100 ∷ []) (amount 5 ∷ [])) (cell (token 50) [] ∷ from_our_lock ∷ []))) gives 6 ∷ 2 ∷ [])
    -- token records of 2^128 - 1 and 1, and then one that is not live; not 7
    ∷ (answer (typed (holding 5) (offer (spending (inputs 4) (token 100 ∷ []) (amount 5 ∷ []))
    (cell (token 50) (amount (2 ^ 128 - 1)) ∷ cell (token 50) (amount 1) ∷ not_live ∷ []))) gives 5 ∷ [])
    -- a record under our lock, and output 0 missing; not 5
    ∷ (answer (untyped [] (offer (bare 1) (from_our_lock ∷ []))) gives 6 ∷ 0 ∷ [])
    -- output 0 missing, and no fee paid; not 8
    ∷ (answer (untyped [] (offer (bare 0) [])) gives 5 ∷ [])
    -- the peer's amount under 16 bytes, and no fee paid; not 8
    ∷ (answer (typed [] (offer (spending (inputs 1) (token 100 ∷ []) ([] ∷ [])) (cell (token 100) [] ∷ []))) gives 5 ∷ [])
    -- 99 come in for an output of 100; not 8 with nothing paid
    ∷ (answer (untyped [] (offer usual (cell (plain 99) [] ∷ []))) gives 5 ∷ [])
    -- no fee paid, and token records of 2^128 - 1 and 1; not 7
    ∷ (answer (typed [] (offer (spending (inputs 2) (token 100 ∷ []) (amount 5 ∷ []))
    (cell (token 50) (amount (2 ^ 128 - 1)) ∷ cell (token 50) (amount 1) ∷ []))) gives 8 ∷ 0 ∷ 318 ∷ 1000 ∷ 318 ∷ [])
    -- 99 come in for an output that grows by 100, and token records of 2^128 - 1 and 1; not 7
    ∷ (answer (typed (holding 5) (offer (spending (inputs 3) (token 200 ∷ []) (amount 5 ∷ []))
    (cell (token 50) (amount (2 ^ 128 - 1)) ∷ cell (token 49) (amount 1) ∷ []))) gives 5 ∷ [])
    -- a growth of 2^128 - 1, and outputs of 1 and of an amount under 16 bytes; not 7, as if the outputs' total began with the growth
    ∷ (answer (typed (holding 0) (offer (spending (inputs 2) (token 100 ∷ token 1 ∷ token 1 ∷ []) (amount (2 ^ 128 - 1) ∷ amount 1 ∷ [] ∷ []))
    (cell (plain 2) [] ∷ []))) gives 5 ∷ [])
    ∷ []

abbrev pub orders : List (Row (List ℕ))
orders = limits ++ comparison ++ scripts ++ amounts ++ fee ++ order
