-- At most 2 header deps may be added: both sides of the bound, its place behind added cell deps and before the comparison, and each neighbour. Beside a row stands
-- what it shuts out. proofs/KnownHeaderDeps.antt proves all rows at once.
use Rattle.std.specs.Prelude.{ℕ, List, [], ◌∷◌, ◌++◌, replicate}
use Rattle.transaction.specs.Tx.{tx_at}
use Rattle.error.specs.Outcome.{Outcome, fine, refused}
use Rattle.rules.specs.Lines.{verdict}
use Rattle.rules.specs.Judge.{limits}
use Rattle.case_parts.specs.Rows.{Row, ◌gives◌}
use Rattle.case_parts.specs.Parts.{header, headers, dep, deps, input, inputs, plain, transaction, cell}
use Rattle.known_cases.specs.Cases.{offer, crowd, Case, untyped, typed, answer}

-- of a version, so many cell deps and header deps, one input and one output
abbrev headed : ℕ → ℕ → ℕ → List ℕ
headed version ds hs = transaction version (deps ds) (headers hs) (inputs 1) (plain 100 ∷ []) ([] ∷ []) []

-- it comes first, with a record of 1,000 shannons, so that 900 are left
abbrev first : List ℕ → Case
first peer = untyped [] (offer peer (cell (plain 1000) [] ∷ []))

-- it follows another, with no record
abbrev later : List ℕ → List ℕ → Case
later ours peer = untyped ours (offer peer [])

-- what the limits say by themselves, of a transaction of any size
abbrev limited : ℕ → List ℕ → List ℕ
limited size peer = by (verdict (limits size (tx_at []) (tx_at peer)))
  where
    by : Outcome (Unit {0}) → List ℕ
    by (fine u) = 0 ∷ []
    by (refused n l) = n ∷ l

-- ours, with cell dep 0 and header dep 0
abbrev of_one : List ℕ
of_one = headed 0 1 1

abbrev pub header_deps : List (Row (List ℕ))
header_deps =
    -- ---- from none: 2 and not 3
    (answer (first (headed 0 0 0)) gives 0 ∷ 900 ∷ 0 ∷ [])
    ∷ (answer (first (headed 0 0 1)) gives 0 ∷ 900 ∷ 0 ∷ [])
    -- not 4, as if 2 were too many
    ∷ (answer (first (headed 0 0 2)) gives 0 ∷ 900 ∷ 0 ∷ [])
    -- not accepted, as in the original
    ∷ (answer (first (headed 0 0 3)) gives 4 ∷ [])
    -- one header three times; not accepted, as if it counted once
    ∷ (answer (first (transaction 0 [] (replicate 3 (header 0)) (inputs 1) (plain 100 ∷ []) ([] ∷ []) [])) gives 4 ∷ [])
    -- ---- from a transaction that has some: those that are added
    ∷ (answer (later (headed 0 0 1) (headed 0 0 1)) gives 0 ∷ 0 ∷ 0 ∷ [])
    -- 3 in all; not 4, as if they were limited in total
    ∷ (answer (later (headed 0 0 1) (headed 0 0 3)) gives 0 ∷ 0 ∷ 0 ∷ [])
    -- not accepted, as if only a first update were limited
    ∷ (answer (later (headed 0 0 1) (headed 0 0 4)) gives 4 ∷ [])
    ∷ (answer (later (headed 0 0 3) (headed 0 0 5)) gives 0 ∷ 0 ∷ 0 ∷ [])
    ∷ (answer (later (headed 0 0 3) (headed 0 0 6)) gives 4 ∷ [])
    -- ---- fewer than ours are none added: 5 at the comparison; not 4, as if the difference were taken the other way round
    ∷ (answer (later (headed 0 0 1) (headed 0 0 0)) gives 5 ∷ [])
    ∷ (answer (later (headed 0 0 5) (headed 0 0 1)) gives 5 ∷ [])
    -- ---- beside the other limits, one beyond and within: 4 wherever one is passed
    ∷ (answer (untyped [] (crowd 65 1 0 2 0)) gives 4 ∷ [])
    ∷ (answer (untyped [] (crowd 65 1 0 3 0)) gives 4 ∷ [])
    ∷ (answer (untyped [] (crowd 1 4 0 2 0)) gives 4 ∷ [])
    ∷ (answer (untyped [] (crowd 1 4 0 3 0)) gives 4 ∷ [])
    ∷ (answer (first (headed 0 9 2)) gives 4 ∷ [])
    ∷ (answer (first (headed 0 9 3)) gives 4 ∷ [])
    ∷ (answer (first (headed 0 8 3)) gives 4 ∷ [])
    -- all within; not 4, as if cell deps and header deps were counted together
    ∷ (answer (first (headed 0 8 2)) gives 0 ∷ 900 ∷ 0 ∷ [])
    ∷ (limited 133120 (headed 0 0 2) gives 0 ∷ [])
    ∷ (limited 133121 (headed 0 0 2) gives 4 ∷ [])
    ∷ (limited 133120 (headed 0 0 3) gives 4 ∷ [])
    ∷ (limited 133121 (headed 0 0 3) gives 4 ∷ [])
    -- ---- before the comparison: not 5, as if it were a line of it; and with 2 added 5 comes
    -- another version
    ∷ (answer (first (headed 1 0 3)) gives 4 ∷ [])
    ∷ (answer (first (headed 1 0 2)) gives 5 ∷ [])
    -- fewer cell deps
    ∷ (answer (later of_one (headed 0 0 4)) gives 4 ∷ [])
    ∷ (answer (later of_one (headed 0 0 3)) gives 5 ∷ [])
    -- our cell dep is another one
    ∷ (answer (later of_one (transaction 0 (dep 1 ∷ []) (headers 4) (inputs 1) (plain 100 ∷ []) ([] ∷ []) [])) gives 4 ∷ [])
    ∷ (answer (later of_one (transaction 0 (dep 1 ∷ []) (headers 3) (inputs 1) (plain 100 ∷ []) ([] ∷ []) [])) gives 5 ∷ [])
    -- our header dep stands behind the added ones
    ∷ (answer (later of_one (transaction 0 (deps 1) (header 1 ∷ header 2 ∷ header 3 ∷ header 0 ∷ []) (inputs 1) (plain 100 ∷ []) ([] ∷ []) [])) gives 4 ∷ [])
    ∷ (answer (later of_one (transaction 0 (deps 1) (header 1 ∷ header 2 ∷ header 0 ∷ []) (inputs 1) (plain 100 ∷ []) ([] ∷ []) [])) gives 5 ∷ [])
    -- an input differs
    ∷ (answer (later of_one (transaction 0 (deps 1) (headers 4) (input 1 ∷ []) (plain 100 ∷ []) ([] ∷ []) [])) gives 4 ∷ [])
    ∷ (answer (later of_one (transaction 0 (deps 1) (headers 3) (input 1 ∷ []) (plain 100 ∷ []) ([] ∷ []) [])) gives 5 ∷ [])
    -- a type is expected, and output 0 has none
    ∷ (answer (typed of_one (offer (headed 0 1 4) [])) gives 4 ∷ [])
    ∷ (answer (typed of_one (offer (headed 0 1 3) [])) gives 5 ∷ [])
    -- ---- before the records: not 3, as if their count came first
    ∷ (answer (untyped [] (offer (headed 0 0 3) [])) gives 4 ∷ [])
    ∷ (answer (untyped [] (offer (headed 0 0 2) [])) gives 3 ∷ [])
    -- ---- behind what is read at entry: ours, the peer's, a script; not 4, as if it came first
    ∷ (answer (untyped (0 ∷ []) (offer (headed 0 0 3) [])) gives 1 ∷ [])
    ∷ (answer (untyped [] (offer (headed 0 0 3 ++ 0 ∷ []) [])) gives 2 ∷ [])
    ∷ (answer (record { lock = []; type = []; ours = []; call = offer (headed 0 0 3) [] }) gives 3 ∷ [])
    ∷ []
