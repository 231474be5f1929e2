-- Worked case files, and a file for each way in which the shape can be another.
use mathlib.Core.Path.{◌≡◌, refl}
use Prim.Native.Nat.{ℕ}
use mathlib.Core.List.{List, [], ◌∷◌, ◌++◌, flatten}
use mathlib.Core.Option.{none, some, bind}
use Rattle.arithmetic.specs.LittleEndian.{le, to_le, num_at}
use Rattle.molecule.specs.Partial.{only, pick, there}
use Rattle.molecule.specs.Items.{join, unwords, offsets, split}
use Rattle.molecule.specs.Molecule.{decode, readable}
use Rattle.molecule.specs.Layout.{part}
use Rattle.error.specs.Outcome.{check_with}
use Rattle.error.specs.Outcome as outcome
use Rattle.rules.specs.Judge.{judge, ruling, ruling_against, opening, closing, scripts, within, comparison}
use Rattle.rules.specs.Lines.{verdict, first_failing, followed, line_with}
use Rattle.rules.specs.Lines as lines
use Rattle.verdict_line.specs.VerdictLine.{digit, digits, decimal, spaced, refused_with, line_of}
use Rattle.case_file.specs.CaseFile.{◌>>=◌, kind_at, length_at, all_zero, item_at, optional_at, rate_at, dead_at, cell_at, resolved_at, records_from, record_bytes, record_list, read_case, case_of, verdict_of, case_line}

-- items 2, 3 and 5 of length 0, and a rate of 7
abbrev no_scripts : List ℕ
no_scripts = 0 ∷ 0 ∷ 0 ∷ 32 ∷ 0 ∷ 0 ∷ 0 ∷ 48 ∷ 0 ∷ 0 ∷ 0 ∷ 80 ∷ []

abbrev rate : List ℕ
rate = 8 ∷ 0 ∷ 0 ∷ 96 ∷ 7 ∷ 0 ∷ 0 ∷ 0 ∷ 0 ∷ 0 ∷ 0 ∷ 0 ∷ []

-- the shortest file
shortest_case : case_of (no_scripts ++ rate) ≡ some (record { ours = []; peer = []; lock = []; type = []; source = []; rate = 7; records = [] })
unfolding case_of read_case only pick optional_at item_at rate_at ◌>>=◌ kind_at length_at num_at le part all_zero records_from
shortest_case = refl

-- its line is "2": the peer's bytes are no transaction
shortest_line : case_line (no_scripts ++ rate) ≡ 50 ∷ 10 ∷ []
unfolding case_line verdict_of case_of read_case only pick optional_at item_at rate_at ◌>>=◌ kind_at length_at num_at le part all_zero records_from judge ruling verdict first_failing followed lines.◌>>◌ lines.◌>>=◌ line_with outcome.◌>>◌ check_with ruling_against opening closing scripts within comparison readable there decode bind split line_of refused_with decimal digits digit spaced
shortest_line = refl

-- the empty file is no case: "3"
no_bytes : case_line [] ≡ 51 ∷ 10 ∷ []
unfolding case_line verdict_of case_of read_case only pick optional_at item_at rate_at ◌>>=◌ kind_at num_at line_of refused_with decimal digits digit spaced
no_bytes = refl

-- a body of one byte and its padding, with our transaction and the type in their places; a cell, and one that is not live
abbrev whole : List ℕ
whole = 1 ∷ 0 ∷ 0 ∷ 16 ∷ 1 ∷ 0 ∷ 0 ∷ 0 ∷ 1 ∷ 0 ∷ 0 ∷ 32 ∷ 2 ∷ 0 ∷ 0 ∷ 0 ∷ 1 ∷ 0 ∷ 0 ∷ 48 ∷ 3 ∷ 0 ∷ 0 ∷ 0 ∷ 1 ∷ 0 ∷ 0 ∷ 64 ∷ 4 ∷ 0 ∷ 0 ∷ 0 ∷ 1 ∷ 0 ∷ 0 ∷ 80 ∷ 5 ∷ 0 ∷ 0 ∷ 0 ∷ 8 ∷ 0 ∷ 0 ∷ 96 ∷ 7 ∷ 0 ∷ 0 ∷ 0 ∷ 0 ∷ 0 ∷ 0 ∷ 0 ∷ 2 ∷ 0 ∷ 0 ∷ 112 ∷ 6 ∷ 7 ∷ 0 ∷ 0 ∷ 1 ∷ 0 ∷ 0 ∷ 128 ∷ 8 ∷ 0 ∷ 0 ∷ 0 ∷ 0 ∷ 0 ∷ 0 ∷ 144 ∷ []

whole-case : case_of whole
    ≡ some (record { ours = 1 ∷ []; peer = 2 ∷ []; lock = 3 ∷ []; type = 4 ∷ []; source = 5 ∷ []; rate = 7; records = some (record { output = 6 ∷ 7 ∷ []; cell_data = 8 ∷ [] }) ∷ none ∷ [] })
unfolding case_of read_case only pick optional_at item_at rate_at ◌>>=◌ kind_at length_at num_at le part all_zero records_from resolved_at dead_at cell_at
whole-case = refl

-- the list that those records are lent in
whole-records : record_list (some (record { output = 6 ∷ 7 ∷ []; cell_data = 8 ∷ [] }) ∷ none ∷ [])
    ≡ 31 ∷ 0 ∷ 0 ∷ 0 ∷ 12 ∷ 0 ∷ 0 ∷ 0 ∷ 31 ∷ 0 ∷ 0 ∷ 0 ∷ 19 ∷ 0 ∷ 0 ∷ 0 ∷ 12 ∷ 0 ∷ 0 ∷ 0 ∷ 14 ∷ 0 ∷ 0 ∷ 0 ∷ 6 ∷ 7 ∷ 1 ∷ 0 ∷ 0 ∷ 0 ∷ 8 ∷ []
unfolding record_bytes join unwords offsets flatten to_le
whole-records = refl

-- padding that is not zero
padding : case_of (1 ∷ 0 ∷ 0 ∷ 16 ∷ 1 ∷ 0 ∷ 0 ∷ 1 ∷ 0 ∷ 0 ∷ 0 ∷ 32 ∷ 0 ∷ 0 ∷ 0 ∷ 48 ∷ 0 ∷ 0 ∷ 0 ∷ 80 ∷ 8 ∷ 0 ∷ 0 ∷ 96 ∷ 7 ∷ 0 ∷ 0 ∷ 0 ∷ 0 ∷ 0 ∷ 0 ∷ 0 ∷ []) ≡ none
unfolding case_of read_case only pick optional_at item_at rate_at ◌>>=◌ kind_at length_at num_at le part all_zero records_from resolved_at dead_at cell_at
padding = refl

-- the lock before the peer's transaction
order : case_of (0 ∷ 0 ∷ 0 ∷ 48 ∷ 0 ∷ 0 ∷ 0 ∷ 32 ∷ 0 ∷ 0 ∷ 0 ∷ 80 ∷ 8 ∷ 0 ∷ 0 ∷ 96 ∷ 7 ∷ 0 ∷ 0 ∷ 0 ∷ 0 ∷ 0 ∷ 0 ∷ 0 ∷ []) ≡ none
unfolding case_of read_case only pick optional_at item_at rate_at ◌>>=◌ kind_at length_at num_at le part all_zero records_from resolved_at dead_at cell_at
order = refl

-- a body past the end of the file
past : case_of (0 ∷ 0 ∷ 0 ∷ 32 ∷ 0 ∷ 0 ∷ 0 ∷ 48 ∷ 0 ∷ 0 ∷ 0 ∷ 80 ∷ 8 ∷ 0 ∷ 0 ∷ 96 ∷ 7 ∷ 0 ∷ 0 ∷ 0 ∷ 0 ∷ 0 ∷ 0 ∷ []) ≡ none
unfolding case_of read_case only pick optional_at item_at rate_at ◌>>=◌ kind_at length_at num_at le part all_zero records_from resolved_at dead_at cell_at
past = refl

-- a rate of 7 bytes
short_rate : case_of (0 ∷ 0 ∷ 0 ∷ 32 ∷ 0 ∷ 0 ∷ 0 ∷ 48 ∷ 0 ∷ 0 ∷ 0 ∷ 80 ∷ 7 ∷ 0 ∷ 0 ∷ 96 ∷ 7 ∷ 0 ∷ 0 ∷ 0 ∷ 0 ∷ 0 ∷ 0 ∷ 0 ∷ []) ≡ none
unfolding case_of read_case only pick optional_at item_at rate_at ◌>>=◌ kind_at length_at num_at le part all_zero records_from resolved_at dead_at cell_at
short_rate = refl

-- a byte after the last item
trailing : case_of (0 ∷ 0 ∷ 0 ∷ 32 ∷ 0 ∷ 0 ∷ 0 ∷ 48 ∷ 0 ∷ 0 ∷ 0 ∷ 80 ∷ 8 ∷ 0 ∷ 0 ∷ 96 ∷ 7 ∷ 0 ∷ 0 ∷ 0 ∷ 0 ∷ 0 ∷ 0 ∷ 0 ∷ 0 ∷ []) ≡ none
unfolding case_of read_case only pick optional_at item_at rate_at ◌>>=◌ kind_at length_at num_at le part all_zero records_from resolved_at dead_at cell_at
trailing = refl

-- an output without its data
no_data : case_of (0 ∷ 0 ∷ 0 ∷ 32 ∷ 0 ∷ 0 ∷ 0 ∷ 48 ∷ 0 ∷ 0 ∷ 0 ∷ 80 ∷ 8 ∷ 0 ∷ 0 ∷ 96 ∷ 7 ∷ 0 ∷ 0 ∷ 0 ∷ 0 ∷ 0 ∷ 0 ∷ 0 ∷ 0 ∷ 0 ∷ 0 ∷ 112 ∷ []) ≡ none
unfolding case_of read_case only pick optional_at item_at rate_at ◌>>=◌ kind_at length_at num_at le part all_zero records_from resolved_at dead_at cell_at
no_data = refl

-- a cell that is not live, with a body
long_dead : case_of (0 ∷ 0 ∷ 0 ∷ 32 ∷ 0 ∷ 0 ∷ 0 ∷ 48 ∷ 0 ∷ 0 ∷ 0 ∷ 80 ∷ 8 ∷ 0 ∷ 0 ∷ 96 ∷ 7 ∷ 0 ∷ 0 ∷ 0 ∷ 0 ∷ 0 ∷ 0 ∷ 0 ∷ 1 ∷ 0 ∷ 0 ∷ 144 ∷ 1 ∷ 0 ∷ 0 ∷ 0 ∷ []) ≡ none
unfolding case_of read_case only pick optional_at item_at rate_at ◌>>=◌ kind_at length_at num_at le part all_zero records_from resolved_at dead_at cell_at
long_dead = refl
