-- Case files of the known outcomes, as whole bytes.
use Rattle.std.specs.Prelude.{ℕ, ◌+◌, ◌-◌, ◌*◌, ◌%◌, ◌^◌, length, replicate}
use Prim.Native.Char.{code}
use Prim.Native.String as text
use Prim.Native.String.{String}
use mathlib.Core.List.{List, [], ◌∷◌, ◌++◌, map, flatten}
use Rattle.std.proofs.Math.Option.{none, some}
use Rattle.arithmetic.specs.LittleEndian.{to_le}
use Rattle.molecule.specs.Molecule.{option, Value, encode}
use Rattle.transaction.specs.Ckb.{CellOutput, Record}
use Rattle.case_parts.specs.Parts.{expected_lock, our_lock, plain}

-- the bytes of a line
abbrev pub ascii : String → List ℕ
ascii text.[] = []
ascii (text.◌∷◌ c s) = code c ∷ ascii s

-- a word of kind and length, the body, and zeros up to 4 bytes
abbrev item : ℕ → List ℕ → List ℕ
item kind body = to_le 4 (kind * 2 ^ 28 + length body) ++ body ++ replicate ((4 - length body % 4) % 4) 0

-- no item where there is nothing
abbrev item_if_any : ℕ → List ℕ → List ℕ
item_if_any kind [] = []
item_if_any kind (b ∷ body) = item kind (b ∷ body)

abbrev record_items : Value (option Record) → List ℕ
record_items none = item 9 []
record_items (some r) = item 7 (encode CellOutput r.0) ++ item 8 r.1.0

-- ours and the type may be empty: none
abbrev pub file_at : ℕ → List ℕ → List ℕ → List ℕ → List (Value (option Record)) → List ℕ
file_at rate ours type peer records =
    item_if_any 1 ours ++ item 2 peer ++ item 3 expected_lock ++ item_if_any 4 type ++ item 5 our_lock ++ item 6 (to_le 8 rate)
    ++ flatten (map record_items records)

abbrev pub file : List ℕ → List ℕ → List ℕ → List (Value (option Record)) → List ℕ
file = file_at 1000

-- the paper's first case with its item words
abbrev pub first_file : List ℕ → List ℕ
first_file peer =
    to_le 4 0x200000C9 ++ peer ++ replicate 3 0
    ++ to_le 4 0x30000035 ++ expected_lock ++ replicate 3 0
    ++ to_le 4 0x50000035 ++ our_lock ++ replicate 3 0
    ++ to_le 4 0x60000008 ++ to_le 8 1000
    ++ to_le 4 0x7000004D ++ encode CellOutput (plain 10000000205) ++ replicate 3 0
    ++ to_le 4 0x80000000
