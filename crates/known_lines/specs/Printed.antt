-- Lines that the check program prints for whole files: 1, 2, 3 and 5. Those that begin with 0, 4, 6, 7 and 8 are among the known outcomes
-- (crates/known_outcomes/specs/Outcomes.antt). And what `basinpantry_check_case` leaves of a line in a lent buffer.
-- proofs/KnownPrinted.antt proves all rows at once.
use Rattle.std.specs.Prelude.{ℕ, ◌-◌, List, [], ◌∷◌, ◌++◌, length, take, replicate}
use Rattle.arithmetic.specs.LittleEndian.{to_le}
use Rattle.case_file.specs.CaseFile.{case_line}
use Rattle.error.specs.Outcome.{fine}
use Rattle.transaction_writer.specs.Written.{written}
use Rattle.words.specs.Words.{writing}
use Rattle.answer_words.specs.Answers.{count_words}
use Rattle.case_parts.specs.Rows.{Row, ◌gives◌}
use Rattle.case_parts.specs.Parts.{plain, room, bare, usual, cell, not_live}
use Rattle.known_outcomes.specs.CaseFiles.{ascii, file}

-- bytes that are no transaction and no script
abbrev unreadable : List ℕ
unreadable = 0 ∷ []

-- a file with another last byte
abbrev ending_in : ℕ → List ℕ → List ℕ
ending_in b f = take (length f - 1) f ++ (b ∷ [])

-- usual from none, with a record of 305 shannons and one byte of data, so that the file ends in three bytes of padding
abbrev padded : List ℕ
padded = file [] [] usual (cell (plain 305) (7 ∷ []) ∷ [])

abbrev pub printed : List (Row (List ℕ))
printed =
    -- ours unreadable, and the peer's and the type too; the peer's and the type; the type, or a record for no input; a record not live
    (case_line (file unreadable unreadable unreadable []) gives ascii "1\n")
    ∷ (case_line (file [] unreadable unreadable []) gives ascii "2\n")
    ∷ (case_line (file [] unreadable (bare 0) []) gives ascii "3\n")
    ∷ (case_line (file [] [] (bare 0) (not_live ∷ [])) gives ascii "3\n")
    ∷ (case_line (file [] [] (bare 1) (not_live ∷ [])) gives ascii "5\n")
    -- no file; another shape before all else: an item of kind 0 behind the last; not 1
    ∷ (case_line [] gives ascii "3\n")
    ∷ (case_line (file unreadable unreadable unreadable [] ++ replicate 4 0) gives ascii "3\n")
    -- not live with a body; not 5, as if it were unread
    ∷ (case_line (file [] [] (bare 1) [] ++ to_le 4 0x90000004 ++ replicate 4 0) gives ascii "3\n")
    -- padding of zeros, and not; not accepted, as if it were unread
    ∷ (case_line padded gives ascii "0 000000000000000000000000000000cd\n")
    ∷ (case_line (ending_in 1 padded) gives ascii "3\n")
    -- 65,536 bytes, of which ours, unreadable, has all but 140; a word more: 3, not 1, as if any length were read
    ∷ (case_line (file (replicate 65396 0) [] [] []) gives ascii "1\n")
    ∷ (case_line (file (replicate 65400 0) [] [] []) gives ascii "3\n")
    ∷ []

-- the number, the four words and the buffer: a byte too few, just enough, and two that keep their value
abbrev pub in_buffer : List (Row ((ℕ × List ℕ) × List ℕ))
in_buffer =
    (writing count_words (written (fine (case_line [])) (room 1)) (room 4) gives ((13, room 4), room 1))
    ∷ (writing count_words (written (fine (case_line [])) (room 2)) (room 4) gives ((0, 2 ∷ room 3), ascii "3\n"))
    ∷ (writing count_words (written (fine (case_line [])) (room 4)) (room 4) gives ((0, 2 ∷ room 3), ascii "3\n" ++ room 2))
    ∷ []
