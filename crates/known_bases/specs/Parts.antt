-- The other calls of our own side, and the writers of a transaction, worked through: lent bytes that reach each of their refusals, and what then stands in the
-- buffer. What they do when they are not refused is among the known outcomes (crates/known_outcomes), but for figures of the funding cell on which wrong rules
-- answer otherwise. proofs/KnownParts.antt proves all rows at once.
use Rattle.std.specs.Prelude.{ℕ, ◌-◌, ◌^◌, List, [], ◌∷◌, ◌++◌, replicate}
use Rattle.units.specs.Units.{in_shannons}
use Rattle.molecule.specs.Molecule.{Value, encode, readable}
use Rattle.transaction.specs.Ckb.{TokenCell, TokenCells, Transaction}
use Rattle.error.specs.Outcome.{Outcome, fine, refused}
use Rattle.funding_cell.specs.declared.{FundingRequest.FundingRequest}
use Rattle.funding_cell.specs.FundingCell.{build_funding_cell}
use Rattle.udt_cells.specs.Change.{Built, udt_inputs_outputs}
use Rattle.transaction_writer.specs.Written.{tx_bytes, in_form, bytes_if, written}
use Rattle.case_parts.specs.Rows.{Row, ◌gives◌}
use Rattle.case_parts.specs.Parts.{our_lock, token_type, plain, amount, room, spending, bare, usual, numbers}
use Rattle.known_bases.specs.Bases as bases
use Rattle.known_bases.specs.Bases.{token_cell, three_cells, no_list}

-- ---- the funding cell

-- so much local and so much in reserve, and the same of the remote side
abbrev sides : ℕ → ℕ → ℕ → ℕ → FundingRequest
sides local reserve remote remoteReserve = record {
  local_amount = local;
  local_reserved_ckb_amount = in_shannons reserve;
  remote_amount = remote;
  remote_reserved_ckb_amount = in_shannons remoteReserve;
}

-- nothing remote
abbrev funding : ℕ → ℕ → FundingRequest
funding local reserve = sides local reserve 0 0

-- one output and no inputs
abbrev output_only : List ℕ
output_only = spending [] (plain 100 ∷ []) ([] ∷ [])

abbrev funded : List ℕ → List ℕ → FundingRequest → List ℕ
funded ours type request = numbers (build_funding_cell ours type request)

-- ---- the token pick

-- the number, and the buffer of 132 bytes, each 7
abbrev pick_number : Outcome Built → ℕ
pick_number (fine b) = 0
pick_number (refused n l) = n

abbrev pick : List ℕ → List ℕ → List ℕ → ℕ → ℕ → List ℕ
pick cells type source wanted n =
    let r = udt_inputs_outputs cells type source wanted (room n) in
    pick_number r.0 ∷ r.1

abbrev cell_list : List (Value TokenCell) → List ℕ
cell_list l = encode TokenCells l

-- ---- writing

-- the number, and how many bytes are written; and the buffer
abbrev wrote : Outcome (List ℕ) → ℕ → List ℕ
wrote bytes n =
    let r = written bytes (room n) in
    bases.numbers r.0 ++ r.1

-- a transaction of empty lists, one of them in another form, written from its fields; and one read and written again
abbrev none4 : List ℕ
none4 = 0 ∷ 0 ∷ 0 ∷ 0 ∷ []

abbrev no_items : List ℕ
no_items = 4 ∷ 0 ∷ 0 ∷ 0 ∷ []

abbrev write : List ℕ → ℕ → List ℕ
write witnesses n = wrote (bytes_if 3 (in_form none4 none4 none4 no_items no_items witnesses) (tx_bytes 0 none4 none4 none4 no_items no_items witnesses)) n

abbrev rewrite : List ℕ → ℕ → List ℕ
rewrite s n = wrote (bytes_if 1 (readable Transaction s) s) n

abbrev empty_tx : List ℕ
empty_tx = tx_bytes 0 none4 none4 none4 no_items no_items no_items

abbrev pub parts : List (Row (List ℕ))
parts =
    -- the funding cell: 1, our transaction is unreadable, before the type; 3, the type, before the figures; 7, a sum of 2^64, and of 2^128 tokens
    (funded no_list no_list (funding (2 ^ 64) 0) gives 1 ∷ [])
    ∷ (funded [] no_list (funding (2 ^ 64) 0) gives 3 ∷ [])
    ∷ (funded [] [] (funding (2 ^ 64 - 1) 1) gives 7 ∷ [])
    ∷ (funded [] [] (funding (2 ^ 64 - 8) 7) gives 0 ∷ (2 ^ 64 - 1) ∷ 0 ∷ [])
    ∷ (funded usual token_type (sides (2 ^ 128 - 1) 7 1 13) gives 7 ∷ [])
    -- typed, the reserves come to 2^64, or to one less; not 2^64 as capacity, as if only amounts were held to their width
    ∷ (funded usual token_type (sides 5 (2 ^ 64 - 1) 11 1) gives 7 ∷ [])
    ∷ (funded usual token_type (sides 5 (2 ^ 64 - 2) 11 1) gives 0 ∷ (2 ^ 64 - 1) ∷ 16 ∷ [])
    -- untyped, both sides together come to 2^64; not as if each side were held to it by itself
    ∷ (funded usual [] (sides (2 ^ 63 - 7) 7 (2 ^ 63 - 13) 13) gives 7 ∷ [])
    -- an untyped amount of 2^64; not 7 shannons, as if its low half were taken
    ∷ (funded [] [] (funding (2 ^ 64) 7) gives 7 ∷ [])
    -- funded is a transaction with outputs: ours has an input and none, untyped and typed; not 36, nor 20 and 16, as if any transaction or any input were
    -- enough
    ∷ (funded (bare 1) [] (sides 5 7 11 13) gives 0 ∷ 12 ∷ 0 ∷ [])
    ∷ (funded (bare 1) token_type (sides 5 7 11 13) gives 0 ∷ 7 ∷ 5 ∷ [])
    -- ours has an output and no inputs; not 12, as if inputs were needed
    ∷ (funded output_only [] (sides 5 7 11 13) gives 0 ∷ 36 ∷ 0 ∷ [])
    -- unfunded, the remote figures are unread: with them the sums would be 2^64 or more, and 2^128 tokens or more; not 7
    ∷ (funded (bare 1) [] (sides 5 7 (2 ^ 128 - 1) (2 ^ 64 - 1)) gives 0 ∷ 12 ∷ 0 ∷ [])
    ∷ (funded (bare 1) token_type (sides 5 7 (2 ^ 128 - 1) (2 ^ 64 - 1)) gives 0 ∷ 7 ∷ 5 ∷ [])
    -- the type unreadable, and reserves of 2^64; not 7
    ∷ (funded usual no_list (sides 5 (2 ^ 64 - 1) 11 1) gives 3 ∷ [])
    -- the token pick: 3, the list of cells, the type, our lock; 12, data under 16 bytes; 10, a total of 2^128; 13, no room for the change output of 130 bytes
    ∷ (pick no_list token_type our_lock 70 132 gives 3 ∷ room 132)
    ∷ (pick (cell_list three_cells) no_list our_lock 70 132 gives 3 ∷ room 132)
    ∷ (pick (cell_list three_cells) token_type no_list 70 132 gives 3 ∷ room 132)
    ∷ (pick (cell_list (token_cell 1 (replicate 15 0) ∷ [])) token_type our_lock 70 132 gives 12 ∷ room 132)
    ∷ (pick (cell_list (token_cell 1 (amount 1) ∷ token_cell 2 (amount (2 ^ 128 - 1)) ∷ [])) token_type our_lock 70 132 gives 10 ∷ room 132)
    ∷ (pick (cell_list three_cells) token_type our_lock 70 129 gives 13 ∷ room 129)
    -- writing: the 68 bytes of empty lists; 3, a list in another form; 13, no room; written again, 1 for bytes that are no transaction, and 13
    ∷ (write no_items 70 gives 0 ∷ 68 ∷ empty_tx ++ room 2)
    ∷ (write none4 70 gives 3 ∷ room 70)
    ∷ (write no_items 67 gives 13 ∷ room 67)
    ∷ (rewrite empty_tx 70 gives 0 ∷ 68 ∷ empty_tx ++ room 2)
    ∷ (rewrite [] 70 gives 1 ∷ room 70)
    ∷ (rewrite empty_tx 67 gives 13 ∷ room 67)
    ∷ []
