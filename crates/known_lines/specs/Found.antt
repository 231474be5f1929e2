-- What a transaction is asked for by number: the version, how many items a list has, and where they stand. proofs/KnownFound.antt proves all rows at once.
use Rattle.std.specs.Prelude.{ℕ, List, [], ◌∷◌}
use Rattle.words.specs.Words.{in_words, writing}
use Rattle.answer_words.specs.Answers.{count_words}
use Rattle.transaction_lists.specs.Found.{version_found, count_found}
use Rattle.item_places.specs.Places.{places_found, listed}
use Rattle.case_parts.specs.Rows.{Row, ◌gives◌}
use Rattle.case_parts.specs.Parts.{plain, header, deps, inputs, room, transaction}

-- version 9, two cell deps, a header dep, three inputs, an output of 77 bytes, two data entries and a witness
abbrev asked : List ℕ
asked = transaction 9 (deps 2) (header 1 ∷ []) (inputs 3) (plain 300 ∷ []) ((7 ∷ []) ∷ [] ∷ []) ((1 ∷ 2 ∷ 3 ∷ []) ∷ [])

-- bytes that are no transaction
abbrev unreadable : List ℕ
unreadable = 0 ∷ []

-- the number, and the four words
abbrev pub numbers : List (Row (ℕ × List ℕ))
numbers =
    (in_words count_words (version_found asked) (room 4) gives (0, 9 ∷ room 3))
    ∷ (in_words count_words (version_found unreadable) (room 4) gives (1, room 4))
    ∷ (in_words count_words (count_found asked 2) (room 4) gives (0, 3 ∷ room 3))
    -- there is no list 6; where there is no transaction either, that is told
    ∷ (in_words count_words (count_found asked 6) (room 4) gives (3, room 4))
    ∷ (in_words count_words (count_found unreadable 6) (room 4) gives (1, room 4))
    ∷ []

-- and the words that are lent for the places
abbrev places_in : List ℕ → ℕ → ℕ → (ℕ × List ℕ) × List ℕ
places_in tx list n = writing count_words (listed (places_found tx list n) (room n)) (room 4)

abbrev pub places : List (Row ((ℕ × List ℕ) × List ℕ))
places =
    -- three inputs: six words, of which a seventh keeps its value, and five are too few
    (places_in asked 2 7 gives ((0, 3 ∷ room 3), 162 ∷ 44 ∷ 206 ∷ 44 ∷ 250 ∷ 44 ∷ 7 ∷ []))
    ∷ (places_in asked 2 5 gives ((13, room 4), room 5))
    -- the bytes of data entries, without their counts, and of the witness
    ∷ (places_in asked 4 4 gives ((0, 2 ∷ room 3), 395 ∷ 1 ∷ 400 ∷ 0 ∷ []))
    ∷ (places_in asked 5 2 gives ((0, 1 ∷ room 3), 412 ∷ 3 ∷ []))
    -- no such list, and no transaction, before the room
    ∷ (places_in asked 6 0 gives ((3, room 4), []))
    ∷ (places_in unreadable 2 0 gives ((1, room 4), []))
    ∷ []
