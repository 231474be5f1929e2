-- Worked examples, by computation of the definitions.
use mathlib.Core.Path.{◌≡◌, refl}
use mathlib.Core.List.{[], ◌∷◌, flatten}
use mathlib.Core.Option.{some, none, bind}
use mathlib.Core.Bool.{true, false}
use lib.ListN.{length, replicate, set}
use Rattle.arithmetic.specs.LittleEndian.{le, to_le, num_at}
use Rattle.molecule.specs.Partial.{only, pick, there, both, each}
use Rattle.molecule.specs.Items.{unwords, words, offsets, join, cuts, items, split}
use Rattle.molecule.specs.Molecule.{byte, fixvec, table, end, ◌&◌, Value, size, encode, chunks, one_byte, decode, readable}
use Rattle.molecule.specs.Layout.{field_of, part, start, word, span, item_count, fix_count}
use Rattle.transaction.specs.Tx.{raw_field, witnesses_of, tx_at}
use Rattle.transaction.specs.Ckb.{Byte32, Bytes, CellInput, Script, Transaction, Records}

-- a transaction of version 0 with empty lists
abbrev pub empty : Value Transaction
empty = ((0 ∷ 0 ∷ 0 ∷ 0 ∷ [], ([], ([], ([], ([], ([], tt)))))), ([], tt))

pub empty-long : length (encode Transaction empty) ≡ 68
unfolding encode join unwords offsets to_le flatten
empty-long = refl

-- as numbers of four bytes: the size, the two offsets, the raw transaction's size and six offsets, the version, five lists, and the witnesses
pub empty-bytes : encode Transaction empty ≡ unwords (68 ∷ 12 ∷ 64 ∷ 52 ∷ 28 ∷ 32 ∷ 36 ∷ 40 ∷ 44 ∷ 48 ∷ 0 ∷ 0 ∷ 0 ∷ 0 ∷ 4 ∷ 4 ∷ 4 ∷ [])
unfolding encode join unwords offsets to_le flatten
empty-bytes = refl

pub empty_back : decode Transaction (encode Transaction empty) ≡ some empty
unfolding encode join unwords offsets to_le flatten le only pick both each words cuts items split size chunks one_byte decode bind
empty_back = refl

-- its first offset is 12; with 13 there it is no transaction
pub damaged : readable Transaction (set (encode Transaction empty) 4 13) ≡ false
unfolding encode join unwords offsets to_le flatten le only pick there both each words cuts items split size chunks one_byte decode readable bind
damaged = refl

-- a script with a code hash of 32 zero bytes, hash type 0 and no args
abbrev pub script : Value Script
script = (replicate 32 0, (0, ([], tt)))

pub script_long : length (encode Script script) ≡ 53
unfolding encode join unwords offsets to_le flatten
script_long = refl

pub script_back : decode Script (encode Script script) ≡ some script
unfolding encode join unwords offsets to_le flatten le only pick both each words cuts items split size chunks one_byte decode bind
script_back = refl

-- with one more field it is no script
pub extra_field : readable Script (encode (table (Byte32 & byte & Bytes & Bytes & end)) (replicate 32 0, (0, ([], ([], tt))))) ≡ false
unfolding encode join unwords offsets to_le flatten le only pick there both each words cuts items split size chunks one_byte decode readable bind
extra_field = refl

-- a dynvec of one empty item, here a record that is nothing; the same bytes are not a table of no fields, which has 4 bytes
pub one-item : decode Records (8 ∷ 0 ∷ 0 ∷ 0 ∷ 8 ∷ 0 ∷ 0 ∷ 0 ∷ []) ≡ some (none ∷ [])
unfolding le only pick both each words cuts items split decode bind
one-item = refl

pub one-item-table : readable (table end) (8 ∷ 0 ∷ 0 ∷ 0 ∷ 8 ∷ 0 ∷ 0 ∷ 0 ∷ []) ≡ false
unfolding le only pick there words cuts items split decode readable bind
one-item-table = refl

pub no_field : readable (table end) (4 ∷ 0 ∷ 0 ∷ 0 ∷ []) ≡ true
unfolding le only pick there split decode readable bind
no_field = refl

pub no_script : readable Script (4 ∷ 0 ∷ 0 ∷ 0 ∷ []) ≡ false
unfolding le only pick there split decode readable bind
no_script = refl

-- 2^30 inputs that are not there
pub no_inputs : readable (fixvec CellInput) (0 ∷ 0 ∷ 0 ∷ 64 ∷ []) ≡ false
unfolding le only there size decode readable
no_inputs = refl

-- a count that bytes only claim is no more than they could hold
pub claimed_count : fix_count (255 ∷ 255 ∷ 255 ∷ 255 ∷ []) ≡ 4
unfolding fix_count word num_at le
claimed_count = refl

pub claimed_items : item_count (8 ∷ 0 ∷ 0 ∷ 0 ∷ 255 ∷ 255 ∷ 255 ∷ 255 ∷ []) ≡ 2
unfolding item_count word num_at le
claimed_items = refl

-- no bytes are read as version 0 and empty lists, which is what no transaction of ours means
pub none-of-ours : tx_at [] ≡ record { version = 0; cell_deps = []; header_deps = []; inputs = []; outputs = []; outputs_data = []; witnesses = [] }
unfolding raw_field witnesses_of field_of part start word num_at span item_count fix_count
none-of-ours = refl
