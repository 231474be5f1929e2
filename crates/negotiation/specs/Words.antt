-- The answers to updates in words of 64 bits, five for each (ours: docs/DECISIONS.md, "Lists of updates").
use Rattle.std.specs.Prelude.{ℕ, List, [], ◌∷◌, ◌++◌}
use Rattle.error.specs.Outcome.{Outcome, number_of, values_of}
use Rattle.units.specs.Units.{Figures}
use Rattle.words.specs.Words.{four_of, surplus_words}

-- the number, 0 for an acceptance, and four words for the surpluses or for the values of the refusal
abbrev pub update_words : Outcome Figures → List ℕ
update_words o = number_of o ∷ four_of (values_of surplus_words o)

-- those of a list, one after another
unfoldable pub all_words : List (Outcome Figures) → List ℕ
all_words [] = []
all_words (o ∷ os) = update_words o ++ all_words os
