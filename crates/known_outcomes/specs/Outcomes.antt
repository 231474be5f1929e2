-- The known outcomes (docs/RULES.md, "Case file and known outcomes", the starred ones), as one table: what the definitions compute, and what the
-- paper says. proofs/KnownOutcomes.antt proves all rows at once.
use Rattle.std.specs.Prelude.{ℕ, ◌+◌, ◌-◌, ◌*◌, ◌^◌, List, [], ◌∷◌, ◌++◌, length, replicate, Option, Some, None}
use Rattle.std.proofs.Math.Option.{none, some}
use Rattle.units.specs.declared.{Shannons.Shannons}
use Rattle.arithmetic.specs.LittleEndian.{to_le}
use Rattle.units.specs.Units.{in_shannons}
use Rattle.units.specs.Fee.{required_fee, change_capacity}
use Rattle.molecule.specs.Molecule.{Value, encode}
use Rattle.transaction.specs.Ckb.{Script, CellOutput, TokenCell, TokenCells}
use Rattle.error.specs.Outcome.{Outcome, fine, refused, number_of, leaves}
use Rattle.out_points.specs.OutPoints.{point_list}
use Rattle.out_points.specs.Tables.{after_list}
use Rattle.hold_records.specs.declared.{Hold.Hold, Taker.Taker}
use Rattle.hold_records.specs.Holds.{hold_for_watchtower, unavailable, take_cells, after_take}
use Rattle.funding_cell.specs.declared.{FundingRequest.FundingRequest}
use Rattle.funding_cell.specs.FundingCell.{build_funding_cell}
use Rattle.udt_cells.specs.Change.{Built, udt_inputs_outputs}
use Rattle.case_file.specs.CaseFile.{case_line}
use Rattle.known_outcomes.specs.CaseFiles.{ascii, file, file_at, first_file}
use Rattle.known_exclusions.specs.Exclusions.{listed, excluded_by}
use Rattle.case_parts.specs.Rows.{Row, ◌gives◌}
use Rattle.case_parts.specs.Parts.{plain_script, expected_lock, our_lock, token_type, inputs, output, plain, token, amount, ms, point, spending, with_inputs}
use Rattle.case_parts.specs.Parts.{cell, not_live, numbers}
use Rattle.known_cases.specs.Cases.{crowd, at_rate, offer, untyped, answer}

abbrev bytes : List ℕ → List ℕ
bytes s = length s ∷ []

-- of a transaction: how many bytes it has, and its size
abbrev measured : List ℕ → List ℕ
measured s = length s ∷ (length s + 4) ∷ []

abbrev shannons : Shannons → List ℕ
shannons s = s.0 ∷ []

-- nothing for what does not fit
abbrev if_fits : Option Shannons → List ℕ
if_fits (Some s) = shannons s
if_fits None = []

-- ---- transactions

abbrev pub empty_tx : List ℕ
empty_tx = spending [] [] []

-- one input, one untyped output of 10,000,000,000 with empty lock args and empty data, no deps and no witnesses
abbrev pub peer_tx : List ℕ
peer_tx = spending (inputs 1) (plain 10000000000 ∷ []) ([] ∷ [])

-- so many outputs of 100 shannons
abbrev pub outputs_tx : ℕ → List ℕ
outputs_tx n = spending (inputs 1) (replicate n (plain 100)) (replicate n [])

-- two inputs, and 5 tokens at output 0
abbrev pub tokens_tx : List ℕ
tokens_tx = spending (inputs 2) (token 100 ∷ []) (amount 5 ∷ [])

-- room for so many out points
abbrev pub room : ℕ → List ℕ
room n = replicate (4 + 36 * n) 0

-- what a call leaves of an empty table
abbrev held_after : Outcome (List Hold) → List Hold
held_after o = leaves o (λ l. l) []

-- ---- the table of holds: A is the cell 1, B the cell 2

-- what is unavailable of A at a time, which the watchtower got at 1,000
abbrev busy_at : ℕ → List ℕ
busy_at time = listed (after_list (unavailable (held_after (hold_for_watchtower [] (point_list (point 1 ∷ [])) (ms 1000))) (point_list (point 1
    ∷ [])) (point_list []) (ms time)) (room 1))

-- A, A, B picked from an empty table
abbrev picked_aab : Outcome (List Hold) × List ℕ × List ℕ
picked_aab = after_take (take_cells [] (point_list (point 1 ∷ point 1 ∷ point 2 ∷ [])) (point_list []) Taker.Watchtower (ms 1000)) (room 2) (room 1)

abbrev taken : Outcome (List Hold) × List ℕ × List ℕ → List ℕ
taken (o, out₁, out₂) = listed (number_of o, out₁)

abbrev turned_away : Outcome (List Hold) × List ℕ × List ℕ → List ℕ
turned_away (o, out₁, out₂) = listed (number_of o, out₂)

-- a request of local 5, reserve 7, remote 11, reserve 13
abbrev figures : FundingRequest
figures = record {
  local_amount = 5;
  local_reserved_ckb_amount = in_shannons 7;
  remote_amount = 11;
  remote_reserved_ckb_amount = in_shannons 13;
}

-- ---- the token pick

abbrev token_cell : ℕ → Value TokenCell
token_cell n = ((replicate 32 0, (to_le 4 0, tt)), (amount n, tt))

abbrev three_cells : List ℕ
three_cells = encode TokenCells (token_cell 30 ∷ token_cell 50 ∷ token_cell 40 ∷ [])

-- a buffer with two bytes more than the change output under our lock has
abbrev lent_buffer : List ℕ
lent_buffer = replicate 132 7

-- so many tokens picked of cells of 30, 50 and 40
abbrev pick : ℕ → Outcome Built × List ℕ
pick wanted = udt_inputs_outputs three_cells token_type our_lock wanted lent_buffer

-- 0, how many cells are taken, the change and the capacity of its output; or the refusal's number
abbrev built_numbers : Outcome Built → List ℕ
built_numbers (fine b) = 0 ∷ b.taken ∷ b.change ∷ b.capacity ∷ []
built_numbers (refused n l) = n ∷ l

abbrev picked : ℕ → List ℕ
picked wanted = built_numbers (pick wanted).0

abbrev buffer_left : ℕ → List ℕ
buffer_left wanted = (pick wanted).1

-- scripts with args of so many bytes
abbrev with_args : ℕ → List ℕ
with_args n = encode Script (replicate 32 1, (0, (replicate n 0, tt)))

-- the file of so many inputs, cell deps and header deps
abbrev crowded : ℕ → ℕ → ℕ → List ℕ
crowded ins ds hs = file [] [] (crowd ins 1 ds hs 0).peer (replicate ins (cell (plain 200000) []))

abbrev pub outcomes : List (Row (List ℕ))
outcomes =
    -- version 0 and empty lists: 68 bytes, size 72
    (measured empty_tx gives 68 ∷ 72 ∷ [])
    -- one input, one untyped output: 201 bytes; its lock has 53, its output 77; the fee at rate 1,000 is 205, and at rate 1,005 it is 206
    ∷ (measured peer_tx gives 201 ∷ 205 ∷ [])
    ∷ (bytes expected_lock gives 53 ∷ [])
    ∷ (bytes (encode CellOutput (plain 10000000000)) gives 77 ∷ [])
    ∷ (shannons (required_fee 1000 205) gives 205 ∷ [])
    ∷ (shannons (required_fee 1005 205) gives 206 ∷ [])
    -- ours none, rate 1,000, a record of 10,000,000,205: the case file has the paper's item words, and the whole output is the line; surplus 205
    ∷ (file [] [] peer_tx (cell (plain 10000000205) [] ∷ []) gives first_file peer_tx)
    ∷ (case_line (first_file peer_tx) gives ascii "0 000000000000000000000000000000cd\n")
    ∷ (answer (untyped [] (offer peer_tx (cell (plain 10000000205) [] ∷ []))) gives 0 ∷ 205 ∷ 0 ∷ [])
    -- record one less; at rate 1,005, 206 is required
    ∷ (case_line (file [] [] peer_tx (cell (plain 10000000204) [] ∷ [])) gives ascii "8 204 205 1000 205\n")
    ∷ (answer (untyped [] (offer peer_tx (cell (plain 10000000204) [] ∷ []))) gives 8 ∷ 204 ∷ 205 ∷ 1000 ∷ 205 ∷ [])
    ∷ (case_line (file_at 1005 [] [] peer_tx (cell (plain 10000000205) [] ∷ [])) gives ascii "8 205 206 1005 205\n")
    ∷ (answer (untyped [] (at_rate 1005 peer_tx (cell (plain 10000000205) [] ∷ []))) gives 8 ∷ 205 ∷ 206 ∷ 1005 ∷ 205 ∷ [])
    -- that transaction against itself, no record: accepted, surplus 0
    ∷ (case_line (file peer_tx [] peer_tx []) gives ascii "0 00000000000000000000000000000000\n")
    ∷ (answer (untyped peer_tx (offer peer_tx [])) gives 0 ∷ 0 ∷ 0 ∷ [])
    -- from none, 3 outputs pass the limits, 4 get 4
    ∷ (case_line (file [] [] (outputs_tx 3) (cell (plain 200000) [] ∷ [])) gives ascii "0 00000000000000000000000000030c14\n")
    ∷ (case_line (file [] [] (outputs_tx 4) (cell (plain 200000) [] ∷ [])) gives ascii "4\n")
    -- inputs 64 and 65, deps 8 and 9, header deps 2 and 3, bytes 133,116 and 133,117 (209 and the witness) likewise
    ∷ (case_line (crowded 64 0 0) gives ascii "0 00000000000000000000000000c34f9c\n")
    ∷ (case_line (crowded 65 0 0) gives ascii "4\n")
    ∷ (case_line (crowded 1 8 0) gives ascii "0 00000000000000000000000000030cdc\n")
    ∷ (case_line (crowded 1 9 0) gives ascii "4\n")
    ∷ (case_line (crowded 1 0 2) gives ascii "0 00000000000000000000000000030cdc\n")
    ∷ (case_line (crowded 1 0 3) gives ascii "4\n")
    ∷ (answer (untyped [] (crowd 1 1 0 0 132907)) gives 0 ∷ 199900 ∷ 0 ∷ [])
    ∷ (answer (untyped [] (crowd 1 1 0 0 132908)) gives 4 ∷ [])
    -- ours 2 inputs, added record 0 under our lock, record 1 not live: 6 2
    ∷ (case_line (file (with_inputs (inputs 2)) [] (with_inputs (inputs 4)) (cell (output 1 none 5) [] ∷ not_live ∷ [])) gives ascii "6 2\n")
    -- token records 2^128 - 1 and 1: 7
    ∷ (case_line (file [] token_type tokens_tx (cell (token 1000) (amount (2 ^ 128 - 1)) ∷ cell (token 1000) (amount 1) ∷ [])) gives ascii "7\n")
    -- figures local 5, reserve 7, remote 11, reserve 13: 12 unfunded, 36 funded; typed 5 and 7 (tokens, and reserves as capacity), then 16 and 20
    ∷ (numbers (build_funding_cell [] [] figures) gives 0 ∷ 12 ∷ 0 ∷ [])
    ∷ (numbers (build_funding_cell peer_tx [] figures) gives 0 ∷ 36 ∷ 0 ∷ [])
    ∷ (numbers (build_funding_cell [] token_type figures) gives 0 ∷ 7 ∷ 5 ∷ [])
    ∷ (numbers (build_funding_cell peer_tx token_type figures) gives 0 ∷ 20 ∷ 16 ∷ [])
    -- cells 30, 50, 40: wanted 70 takes two, change 10; 80 none; 121 gets 9
    -- (the change output under our lock, of the type, stands in the buffer; without one the buffer is as it was)
    ∷ (picked 70 gives 0 ∷ 2 ∷ 10 ∷ 9000000000 ∷ [])
    ∷ (buffer_left 70 gives encode CellOutput (output 1 (some (plain_script 2)) 9000000000) ++ 7 ∷ 7 ∷ [])
    ∷ (picked 80 gives 0 ∷ 2 ∷ 0 ∷ 0 ∷ [])
    ∷ (buffer_left 80 gives lent_buffer)
    ∷ (picked 121 gives 9 ∷ [])
    ∷ (buffer_left 121 gives lent_buffer)
    -- lock args 20, type args 32: change capacity 14,200,000,000
    ∷ (if_fits (change_capacity 20 32) gives 14200000000 ∷ [])
    ∷ (built_numbers (udt_inputs_outputs three_cells (with_args 32) (with_args 20) 70 (replicate 200 7)).0 gives 0 ∷ 2 ∷ 10 ∷ 14200000000 ∷ [])
    -- held by watchtower at 1,000: busy at 1,800,999, free at 1,801,000
    ∷ (busy_at 1800999 gives 0 ∷ 1 ∷ [])
    ∷ (busy_at 1801000 gives 0 ∷ [])
    -- free A, B; pick A, A, B: taken A, B; refused A
    ∷ (taken picked_aab gives 0 ∷ 1 ∷ 2 ∷ [])
    ∷ (turned_away picked_aab gives 0 ∷ 1 ∷ [])
    -- committed 100: kept at tip 99 and 112, dropped at 113
    ∷ (excluded_by 99 gives 0 ∷ 0 ∷ 1 ∷ [])
    ∷ (excluded_by 112 gives 0 ∷ 0 ∷ 1 ∷ [])
    ∷ (excluded_by 113 gives 0 ∷ [])
    ∷ []
