-- Worked base transactions (docs/RULES.md, "Our own side", and its table): for each answer of `build_base` lent bytes that reach it, as one table of what the
-- definitions compute and what the paper says. proofs/KnownBases.antt proves all rows at once.
use Rattle.std.specs.Prelude.{ℕ, ◌-◌, ◌^◌, List, [], ◌∷◌, ◌++◌, replicate}
use Rattle.std.proofs.Math.Option.{some}
use Rattle.arithmetic.specs.LittleEndian.{to_le}
use Rattle.units.specs.Units.{in_shannons}
use Rattle.molecule.specs.Molecule.{Value, encode}
use Rattle.transaction.specs.Ckb.{Script, CellDep, CellDeps, CellInput, TokenCell, TokenCells}
use Rattle.error.specs.Outcome.{Outcome, fine, refused}
use Rattle.funding_cell.specs.declared.{FundingRequest.FundingRequest}
use Rattle.transaction_writer.specs.Written.{written}
use Rattle.funding_builder.specs.Base.{Lent, build_base}
use Rattle.case_parts.specs.Rows.{Row, ◌gives◌}
use Rattle.case_parts.specs.Parts.{plain_script, expected_lock, our_lock, token_type, input, inputs, dep, header, output, plain, token, amount, room}
use Rattle.case_parts.specs.Parts.{transaction, spending}

-- ---- what is lent

-- so much local, reserve 7; remote 11, reserve 13
abbrev pub request : ℕ → FundingRequest
request local = record {
  local_amount = local;
  local_reserved_ckb_amount = in_shannons 7;
  remote_amount = 11;
  remote_reserved_ckb_amount = in_shannons 13;
}

abbrev dep_list : List (Value CellDep) → List ℕ
dep_list l = encode CellDeps l

-- from none, under a lock, with a type and our lock; and untyped, under the expected lock
abbrev pub scripts : List ℕ → List ℕ → List ℕ → Lent
scripts lock type source = record {
  ours = [];
  lock = lock;
  udt = type;
  source = source;
  cells = encode TokenCells [];
  udt_deps = [];
  lock_dep = [];
  extra_deps = dep_list [];
}

abbrev from_none : Lent
from_none = scripts expected_lock [] our_lock

-- a lock whose args have so many bytes
abbrev pub wide_lock : ℕ → List ℕ
wide_lock n = encode Script (replicate 32 0, (0, (replicate n 0, tt)))

-- a token cell of index n, and cells of 30, 50 and 40 tokens
abbrev pub token_cell : ℕ → List ℕ → Value TokenCell
token_cell n d = ((replicate 32 0, (to_le 4 n, tt)), (d, tt))

abbrev pub three_cells : List (Value TokenCell)
three_cells = token_cell 1 (amount 30) ∷ token_cell 2 (amount 50) ∷ token_cell 3 (amount 40) ∷ []

-- from none, of the token, with these cells, the token's dep 0 and the lock's dep 1
abbrev token_from_none : List (Value TokenCell) → Lent
token_from_none cells =
    record {
      ours = [];
      lock = expected_lock;
      udt = token_type;
      source = our_lock;
      cells = encode TokenCells cells;
      udt_deps = dep_list (dep 0
          ∷ []);
      lock_dep = encode CellDep (dep 1);
      extra_deps = dep_list [];
    }

-- from a transaction of ours with one input, 5 tokens at output 0, and a second output whose data is missing: of the token, with these cells and deps, and the
-- extra deps 2 and 0
abbrev present : List ℕ
present = spending (inputs 1) (token 100 ∷ plain 61 ∷ []) (amount 5 ∷ [])

abbrev typed_from : List ℕ → List (Value TokenCell) → List ℕ → List ℕ → Lent
typed_from ours cells udt_deps lock_dep =
    record {
      ours = ours;
      lock = expected_lock;
      udt = token_type;
      source = our_lock;
      cells = encode TokenCells cells;
      udt_deps = udt_deps;
      lock_dep = lock_dep;
      extra_deps = dep_list (dep 2 ∷ dep 0 ∷ []);
    }

abbrev typed : List (Value TokenCell) → List ℕ → List ℕ → Lent
typed cells udt_deps lock_dep = typed_from present cells udt_deps lock_dep

-- the token's dep is 0, the lock's is 1
abbrev supplied : List (Value TokenCell) → Lent
supplied cells = typed cells (dep_list (dep 0 ∷ [])) (encode CellDep (dep 1))

-- from a transaction of ours with a version, deps, a header dep, three inputs, two outputs after 0, the last without data, and a witness; two cells, and the
-- same deps
abbrev grown : List ℕ
grown = transaction 1 (dep 3 ∷ dep 0 ∷ []) (header 9 ∷ []) (inputs 3) (token 100 ∷ plain 61 ∷ plain 62 ∷ []) (amount 5 ∷ (1 ∷ 2 ∷ 3 ∷ []) ∷ []) ((8 ∷ []) ∷ [])

abbrev two_cells : List (Value TokenCell)
two_cells = token_cell 11 (amount 30) ∷ token_cell 12 (amount 50) ∷ []

abbrev on_grown : Lent
on_grown = typed_from grown two_cells (dep_list (dep 0 ∷ [])) (encode CellDep (dep 1))

-- a lent list that is none
abbrev pub no_list : List ℕ
no_list = 9 ∷ []

-- ---- answers

-- 0 and how many bytes are written, or the refusal's number
abbrev pub numbers : Outcome ℕ → List ℕ
numbers (fine n) = 0 ∷ n ∷ []
numbers (refused n l) = n ∷ l

abbrev pub answer : Lent → ℕ → ℕ → List ℕ
answer l local n = numbers (written (build_base l (request local)) (room n)).0

abbrev pub buffer : Lent → ℕ → ℕ → List ℕ
buffer l local n = (written (build_base l (request local)) (room n)).1

-- "The 85-byte placeholder (sizes 85, 16, 85, 85, then 65 and 65 zero bytes) is fixed"
abbrev placeholder : List ℕ
placeholder = to_le 4 85 ++ to_le 4 16 ++ to_le 4 85 ++ to_le 4 85 ++ to_le 4 65 ++ replicate 65 0

-- the funding cell alone, of 5 and 7 shannons
abbrev plain_base : List ℕ
plain_base = transaction 0 [] [] [] (plain 12 ∷ []) ([] ∷ []) (placeholder ∷ [])

-- the first two cells are picked behind our input, with change 10; the funding cell has 70 and 11 tokens, and 7 and 13 shannons
abbrev token_base : List ℕ
token_base =
    transaction 0 (dep 0 ∷ dep 1 ∷ dep 2 ∷ []) [] (input 0 ∷ input 1 ∷ input 2 ∷ [])
    (token 20 ∷ plain 61 ∷ output 1 (some (plain_script 2)) 9000000000 ∷ [])
    (amount 81 ∷ [] ∷ amount 10 ∷ [])
    (placeholder ∷ placeholder ∷ [])

-- nothing is picked behind our input: one placeholder; the funding cell has 11 tokens
abbrev unpicked_base : List ℕ
unpicked_base = transaction 0 (dep 2 ∷ dep 0 ∷ []) [] (inputs 1) (token 20 ∷ plain 61 ∷ []) (amount 11 ∷ [] ∷ []) (placeholder ∷ [])

-- from none the first picked input has witness 0; the remote figures are unread. With the picked inputs, the tokens and the change; and with no change
abbrev first_base : List (Value CellInput) → ℕ → ℕ → List ℕ
first_base picked tokens change =
    transaction 0 (dep 0 ∷ dep 1 ∷ []) [] picked (token 7 ∷ output 1 (some (plain_script 2)) 9000000000 ∷ []) (amount tokens ∷ amount change
    ∷ []) (placeholder ∷ [])

abbrev exact_base : List ℕ
exact_base = transaction 0 (dep 0 ∷ dep 1 ∷ []) [] (input 1 ∷ input 2 ∷ []) (token 7 ∷ []) (amount 80 ∷ []) (placeholder ∷ [])

-- behind three inputs: empty witnesses for the second and the third; each dep once, where it first stands, the present ones before the token's; version and
-- header dep stay, the witness does not
abbrev grown_base : List ℕ
grown_base =
    transaction 1 (dep 3 ∷ dep 0 ∷ dep 1 ∷ dep 2 ∷ []) (header 9 ∷ []) (input 0 ∷ input 1 ∷ input 2 ∷ input 11 ∷ input 12 ∷ [])
    (token 20 ∷ plain 61 ∷ plain 62 ∷ output 1 (some (plain_script 2)) 9000000000 ∷ [])
    (amount 81 ∷ (1 ∷ 2 ∷ 3 ∷ []) ∷ [] ∷ amount 10 ∷ [])
    (placeholder ∷ [] ∷ [] ∷ placeholder ∷ [])

abbrev pub rows : List (Row (List ℕ))
rows =
    -- written: from none; and tokens picked behind present inputs. Bytes beyond keep their value
    (answer from_none 5 300 gives 0 ∷ 250 ∷ [])
    ∷ (buffer from_none 5 300 gives plain_base ++ room 50)
    ∷ (answer (supplied three_cells) 70 902 gives 0 ∷ 902 ∷ [])
    ∷ (buffer (supplied three_cells) 70 902 gives token_base)
    ∷ (buffer (typed three_cells [] []) 0 526 gives unpicked_base)
    ∷ (answer (token_from_none three_cells) 70 640 gives 0 ∷ 639 ∷ [])
    ∷ (buffer (token_from_none three_cells) 70 640 gives first_base (input 1 ∷ input 2 ∷ []) 70 10 ++ room 1)
    ∷ (buffer (token_from_none three_cells) 80 482 gives exact_base ++ room 1)
    -- one cell of 3 tokens listed twice: two equal inputs
    ∷ (buffer (token_from_none (replicate 2 (token_cell 1 (amount 3)))) 5 640 gives first_base (input 1 ∷ input 1 ∷ []) 5 1 ++ room 1)
    ∷ (answer on_grown 70 1170 gives 0 ∷ 1167 ∷ [])
    ∷ (buffer on_grown 70 1170 gives grown_base ++ room 3)
    -- 1: our transaction is unreadable
    ∷ (answer (record { ours = no_list; lock = no_list; udt = []; source = our_lock; cells = []; udt_deps = []; lock_dep = []; extra_deps = [] }) 5 300
    gives 1 ∷ [])
    -- 3: a script, the funding lock, the type or our lock; or a lent list
    ∷ (answer (scripts no_list [] our_lock) 5 300 gives 3 ∷ [])
    ∷ (answer (scripts expected_lock no_list our_lock) 5 300 gives 3 ∷ [])
    ∷ (answer (scripts expected_lock [] no_list) 5 300 gives 3 ∷ [])
    ∷ (answer (record {
      ours = [];
      lock = expected_lock;
      udt = [];
      source = our_lock;
      cells = no_list;
      udt_deps = [];
      lock_dep = [];
      extra_deps = dep_list [];
    }) 5 300 gives 3 ∷ [])
    ∷ (answer (typed three_cells no_list (encode CellDep (dep 1))) 70 902 gives 3 ∷ [])
    ∷ (answer (typed three_cells (dep_list []) no_list) 70 902 gives 3 ∷ [])
    ∷ (answer (record {
      ours = [];
      lock = expected_lock;
      udt = [];
      source = our_lock;
      cells = encode TokenCells [];
      udt_deps = [];
      lock_dep = [];
      extra_deps = no_list;
    }) 5 300 gives 3 ∷ [])
    -- 7: a figure too wide
    ∷ (answer from_none (2 ^ 64) 300 gives 7 ∷ [])
    -- 12: a token cell's data under 16 bytes; 10: the total is 2^128; 9: the list ended short
    ∷ (answer (supplied (token_cell 1 (replicate 15 0) ∷ [])) 70 902 gives 12 ∷ [])
    ∷ (answer (supplied (token_cell 1 [] ∷ [])) 1 902 gives 12 ∷ [])
    ∷ (answer (supplied (token_cell 1 (amount 1) ∷ token_cell 2 (amount (2 ^ 128 - 1)) ∷ [])) 70 902 gives 10 ∷ [])
    ∷ (answer (supplied three_cells) 121 902 gives 9 ∷ [])
    -- 11: tokens picked and the token's deps, or the lock's dep, not supplied; "a supplied empty list passes"; with nothing picked neither is needed
    ∷ (answer (typed three_cells [] (encode CellDep (dep 1))) 70 902 gives 11 ∷ [])
    ∷ (answer (typed three_cells (dep_list []) []) 70 902 gives 11 ∷ [])
    ∷ (answer (typed three_cells (dep_list []) (encode CellDep (dep 1))) 70 902 gives 0 ∷ 902 ∷ [])
    ∷ (answer (typed three_cells [] []) 0 902 gives 0 ∷ 526 ∷ [])
    -- 13: over the lent buffer, which stays as it was; or over 133,116 bytes (250 and the lock's args), whatever the buffer
    ∷ (answer from_none 5 249 gives 13 ∷ [])
    ∷ (buffer from_none 5 249 gives room 249)
    ∷ (answer (scripts (wide_lock 132866) [] our_lock) 5 133116 gives 0 ∷ 133116 ∷ [])
    ∷ (answer (scripts (wide_lock 132867) [] our_lock) 5 133117 gives 13 ∷ [])
    ∷ (buffer (scripts (wide_lock 132867) [] our_lock) 5 133117 gives room 133117)
    ∷ []
