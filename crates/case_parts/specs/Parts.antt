-- What the cases are built from: values of the schema, written as bytes.
use Rattle.std.specs.Prelude.{ℕ, List, [], ◌∷◌, replicate}
use Rattle.std.proofs.Math.Option.{none, some}
use Rattle.arithmetic.specs.LittleEndian.{to_le}
use Rattle.units.specs.declared.{Millis.Millis}
use Rattle.units.specs.Units.{Figures}
use Rattle.molecule.specs.Molecule.{option, Value, encode}
use Rattle.molecule.specs.Layout.{span}
use Rattle.transaction.specs.Ckb.{Byte32, Script, CellDep, CellInput, CellOutput, Transaction, Record}
use Rattle.error.specs.Outcome.{Outcome, fine, refused}
use Rattle.out_points.specs.declared.{OutPoint.OutPoint}

-- ---- scripts: a code hash of one byte repeated, hash type 0 and empty args

abbrev pub plain_script : ℕ → Value Script
plain_script b = (replicate 32 b, (0, ([], tt)))

abbrev pub expected_lock : List ℕ
expected_lock = encode Script (plain_script 0)

abbrev pub our_lock : List ℕ
our_lock = encode Script (plain_script 1)

abbrev pub token_type : List ℕ
token_type = encode Script (plain_script 2)

-- ---- parts of transactions, told apart by a number

-- the output n of the transaction whose hash is zeros, with since 0 or as a dep of type 0
abbrev pub input : ℕ → Value CellInput
input n = (to_le 8 0, ((replicate 32 0, (to_le 4 n, tt)), tt))

abbrev pub dep : ℕ → Value CellDep
dep n = ((replicate 32 0, (to_le 4 n, tt)), (0, tt))

abbrev pub header : ℕ → Value Byte32
header n = replicate 32 n

-- the first k of them
abbrev pub inputs : ℕ → List (Value CellInput)
inputs k = span input 0 k

abbrev pub deps : ℕ → List (Value CellDep)
deps k = span dep 0 k

abbrev pub headers : ℕ → List (Value Byte32)
headers k = span header 0 k

abbrev pub output : ℕ → Value (option Script) → ℕ → Value CellOutput
output lock type shannons = (to_le 8 shannons, (plain_script lock, (type, tt)))

-- under the expected lock, with no type or of the token
abbrev pub plain : ℕ → Value CellOutput
plain shannons = output 0 none shannons

abbrev pub token : ℕ → Value CellOutput
token shannons = output 0 (some (plain_script 2)) shannons

abbrev pub amount : ℕ → List ℕ
amount n = to_le 16 n

abbrev pub ms : ℕ → Millis
ms n = record { 0 = n }

-- the out point that `input n` spends
abbrev pub point : ℕ → OutPoint
point n = record { hash = record { a = 0; b = 0; c = 0; d = 0 }; index = n }

-- a buffer of so many bytes, each 7
abbrev pub room : ℕ → List ℕ
room n = replicate n 7

-- ---- transactions: version, cell deps, header deps, inputs, outputs and their data

abbrev pub transaction : ℕ → List (Value CellDep) → List (Value Byte32) → List (Value CellInput) → List (Value CellOutput) → List (List ℕ) → List (List ℕ)
    → List ℕ
transaction version ds hs is os es ws = encode Transaction ((to_le 4 version, (ds, (hs, (is, (os, (es, tt)))))), (ws, tt))

-- of version 0, with no deps and no witnesses
abbrev pub spending : List (Value CellInput) → List (Value CellOutput) → List (List ℕ) → List ℕ
spending is os es = transaction 0 [] [] is os es []

-- so many inputs, and nothing else
abbrev pub bare : ℕ → List ℕ
bare n = spending (inputs n) [] []

-- one input and one output of 100 shannons; the same but for one part; and holding tokens
abbrev pub usual : List ℕ
usual = spending (inputs 1) (plain 100 ∷ []) ([] ∷ [])

abbrev pub of_version : ℕ → List ℕ
of_version n = transaction n [] [] (inputs 1) (plain 100 ∷ []) ([] ∷ []) []

abbrev pub with_deps : List (Value CellDep) → List ℕ
with_deps ds = transaction 0 ds [] (inputs 1) (plain 100 ∷ []) ([] ∷ []) []

abbrev pub with_headers : List (Value Byte32) → List ℕ
with_headers hs = transaction 0 [] hs (inputs 1) (plain 100 ∷ []) ([] ∷ []) []

abbrev pub with_inputs : List (Value CellInput) → List ℕ
with_inputs is = spending is (plain 100 ∷ []) ([] ∷ [])

abbrev pub holding : ℕ → List ℕ
holding n = spending (inputs 1) (token 100 ∷ []) (amount n ∷ [])

-- ---- records

abbrev pub cell : Value CellOutput → List ℕ → Value (option Record)
cell o d = some (o, (d, tt))

abbrev pub not_live : Value (option Record)
not_live = none

-- ---- answers in figures

-- 0 and the surpluses in capacity and token, or the refusal's number and its values
abbrev pub numbers : Outcome Figures → List ℕ
numbers (fine s) = 0 ∷ s.capacity ∷ s.token ∷ []
numbers (refused n l) = n ∷ l
