-- What is proved of the strings that are read (RFC 0008, RFC 0019): which ones they are, and that what the accessors give are the fields of their
-- values. The proofs are proofs/ReadExactly.antt and proofs/FieldsDecoded.antt.
use mathlib.Core.Path.{◌≡◌}
use Prim.Native.Nat.{ℕ, ◌^◌, ◌<◌}
use mathlib.Core.List.{List, [], ◌∷◌, map}
use mathlib.Core.Bool.{Bool, true, cond}
use mathlib.Core.Option
use mathlib.Core.Option.{Option, none, some}
use mathlib.Core.Logic.{◌↔◌}
use lib.ListN.{length, get_or}
use lib.Dec.{eqb}
use Rattle.arithmetic.specs.LittleEndian.{le, AllBytes, u32_at, u64_at}
use Rattle.molecule.specs.Molecule.{Ty, fixvec, dynvec, table, option, end, ◌&◌, Value, encode, decode, readable, Good}
use Rattle.molecule.specs.Layout.{part, field_of, item_count, item_of, fix_count, fix_item, entry_of}
use Rattle.transaction.specs.Ckb.{Byte32, Bytes, OutPoint, OutPoints, CellDep, CellDeps, CellInput, Script, CellOutput, RawTransaction, Transaction, TokenCell, TokenCells, Record, Records}
use Rattle.transaction.specs.Tx.{Tx, raw_field, witnesses_of, tx_at, args_of, capacity_of, lock_of, type_of, previous_output_of, first_of, data_of}

-- of the types that the code tests, those whose strings say their own length or are empty
abbrev pub dynamic_types : List Ty
dynamic_types =
    Script ∷ option Script ∷ CellOutput ∷ dynvec CellOutput ∷ CellDeps ∷ option CellDeps ∷ fixvec Byte32 ∷ fixvec CellInput ∷ OutPoints ∷ RawTransaction
    ∷ Transaction ∷ option Transaction ∷ TokenCell ∷ TokenCells ∷ Record ∷ option Record ∷ Records ∷ dynvec Bytes ∷ Bytes ∷ []

-- and a cell dep or nothing; for a list of updates it is crates/negotiation/proofs/ReadExactly.antt
abbrev pub tested : List Ty
tested = option CellDep ∷ dynamic_types

-- r is what the test answers of s, as its contract says: yes exactly if s has fewer than 2^32 bytes and is the encoding of a value
abbrev pub ReadExactly : Ty → Type 0
ReadExactly t =
    (s : List ℕ) → AllBytes s → (r : Bool) → r ≡ readable t s
    → (r ≡ true) ↔ ((length s < 2 ^ 32) × ((v : Value t) × Good t v × (encode t v ≡ s)))

-- P holds of every string that is read as a value of t, and that value
abbrev pub Decoded : (t : Ty) → (List ℕ → Value t → Type 0) → Type 0
Decoded t P = (s : List ℕ) → AllBytes s → (v : Value t) → decode t s ≡ some v → P s v

-- x is the encoding of v, and is read as v
pub record Encoding (t : Ty) (x : List ℕ) (v : Value t) : Type 0 where
  pub written : x ≡ encode t v
  pub value : decode t x ≡ some v

pub record OutPointFields (p : List ℕ) (v : Value OutPoint) : Type 0 where
  pub tx_hash : part p 0 32 ≡ v.0
  pub index : u32_at p 32 ≡ le v.1.0

pub record InputFields (i : List ℕ) (v : Value CellInput) : Type 0 where
  pub since : u64_at i 0 ≡ le v.0
  pub previous_output : Encoding OutPoint (previous_output_of i) v.1.0

pub record CellDepFields (d : List ℕ) (v : Value CellDep) : Type 0 where
  pub out_point : Encoding OutPoint (part d 0 36) v.0
  pub dep_type : get_or d 36 0 ≡ v.1.0

pub record ScriptFields (s : List ℕ) (v : Value Script) : Type 0 where
  pub code_hash : field_of s 3 0 ≡ v.0
  pub hash_type : get_or (field_of s 3 1) 0 0 ≡ v.1.0
  pub args : args_of s ≡ v.1.1.0

pub record OutputFields (o : List ℕ) (v : Value CellOutput) : Type 0 where
  pub capacity : capacity_of o ≡ le v.0
  pub lock : Encoding Script (lock_of o) v.1.0
  pub type_script : Encoding (option Script) (type_of o) v.1.1.0

-- a record, where t is CellOutput, or a token cell, where it is OutPoint
pub record CellFields (t : Ty) (c : List ℕ) (v : Value (table (t & Bytes & end))) : Type 0 where
  pub first : Encoding t (first_of c) v.0
  pub content : data_of c ≡ v.1.0

-- nothing is the empty string; what is there has the fields P
abbrev pub Optional : {A : Type 0} → (List ℕ → A → Type 0) → List ℕ → Option A → Type 0
Optional P s none = s ≡ []
Optional P s (some v) = (0 < length s) × P s v

-- n items, of which `item i` is the i-th, are xs; past the end `item` is empty
pub record Listed {A : Type 0} (empty : A) (n : ℕ) (item : ℕ → A) (xs : List A) : Type 0 where
  pub count : n ≡ length xs
  pub at : (i : ℕ) → item i ≡ get_or xs i empty

-- n strings are the encodings of v, and each is read as its value
pub record Items (t : Ty) (n : ℕ) (item : ℕ → List ℕ) (v : List (Value t)) : Type 0 where
  pub strings : Listed [] n item (map (λ x. encode t x) v)
  pub value : (i : ℕ) → i < n → decode t (item i) ≡ get_or (map some v) i none

-- an item of a list of records: nothing, or an output and its data
abbrev pub record_at : List ℕ → ℕ → Option (List ℕ × List ℕ)
record_at s i = cond (eqb (length (item_of s i)) 0) none (some (first_of (item_of s i), data_of (item_of s i)))

abbrev pub value_record : Value (option Record) → Option (List ℕ × List ℕ)
value_record r = Option.map (λ (v : Value Record). (encode CellOutput v.0, v.1.0)) r

-- the fields of a transaction
abbrev pub value_tx : Value Transaction → Tx
value_tx ((version, (cell_deps, (header_deps, (inputs, (outputs, (outputs_data, _)))))), (witnesses, _)) = record {
  version = le version;
  cell_deps = map (λ x. encode CellDep x) cell_deps;
  header_deps = header_deps;
  inputs = map (λ x. encode CellInput x) inputs;
  outputs = map (λ x. encode CellOutput x) outputs;
  outputs_data = outputs_data;
  witnesses = witnesses;
}

-- each part that is handed back is the encoding of its field
pub record TransactionParts (s : List ℕ) (v : Value Transaction) : Type 0 where
  pub raw : Encoding RawTransaction (field_of s 2 0) v.0
  pub cell_deps : Encoding CellDeps (raw_field s 1) v.0.1.0
  pub header_deps : Encoding (fixvec Byte32) (raw_field s 2) v.0.1.1.0
  pub inputs : Encoding (fixvec CellInput) (raw_field s 3) v.0.1.1.1.0
  pub outputs : Encoding (dynvec CellOutput) (raw_field s 4) v.0.1.1.1.1.0
  pub outputs_data : Encoding (dynvec Bytes) (raw_field s 5) v.0.1.1.1.1.1.0
  pub witnesses : Encoding (dynvec Bytes) (witnesses_of s) v.1.0

pub record TransactionFields (s : List ℕ) (v : Value Transaction) : Type 0 where
  pub fields : tx_at s ≡ value_tx v
  pub parts : TransactionParts s v
  pub cell_deps : Items CellDep (fix_count (raw_field s 1)) (fix_item (raw_field s 1) 37) v.0.1.0
  pub header_deps : Listed [] (fix_count (raw_field s 2)) (fix_item (raw_field s 2) 32) v.0.1.1.0
  pub inputs : Items CellInput (fix_count (raw_field s 3)) (fix_item (raw_field s 3) 44) v.0.1.1.1.0
  pub outputs : Items CellOutput (item_count (raw_field s 4)) (item_of (raw_field s 4)) v.0.1.1.1.1.0
  pub outputs_data : Listed [] (item_count (raw_field s 5)) (entry_of (raw_field s 5)) v.0.1.1.1.1.1.0
  pub witnesses : Listed [] (item_count (witnesses_of s)) (entry_of (witnesses_of s)) v.1.0
