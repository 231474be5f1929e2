-- How an answer crosses to C (ours: docs/DECISIONS.md, "The C interface"): as its number, and as words that are set at the start of four lent ones.
-- docs/RULES.md, "The three demands", 1: "and then the transaction in force, every table and every lent output byte are as before". The words that hold the
-- values of a refusal are set, and no other.
use Rattle.std.specs.Prelude.{ℕ, ◌/◌, ◌%◌, ◌^◌, List, [], ◌∷◌, ◌++◌, length, drop, get_or}
use Rattle.error.specs.Outcome.{Outcome, number_of, values_of}
use Rattle.units.specs.Units.{Figures}

-- the answer n, and these values as the first words, of which those beyond keep their value
unfoldable pub set_words : ℕ → List ℕ → List ℕ → ℕ × List ℕ
set_words n values words = (n, values ++ drop (length values) words)

unfoldable pub in_words : {A : Type 0} → (A → List ℕ) → Outcome A → List ℕ → ℕ × List ℕ
in_words f o words = set_words (number_of o) (values_of f o) words

-- a call that leaves a lent buffer too, by its answer and the buffer after it
unfoldable pub writing : {A : Type 0} → (A → List ℕ) → Outcome A × List ℕ → List ℕ → (ℕ × List ℕ) × List ℕ
writing f call words = (in_words f call.0 words, call.1)

-- four values, and 0 for those that are missing: the form of the answers in a list of updates
abbrev pub four_of : List ℕ → List ℕ
four_of values = get_or values 0 0 ∷ get_or values 1 0 ∷ get_or values 2 0 ∷ get_or values 3 0 ∷ []

-- a number of 128 bits in two words
abbrev pub low : ℕ → ℕ
low n = n % 2 ^ 64

abbrev pub high : ℕ → ℕ
high n = n / 2 ^ 64

-- the surpluses of capacity and of the token
unfoldable pub surplus_words : Figures → List ℕ
surplus_words f = low f.capacity ∷ high f.capacity ∷ low f.token ∷ high f.token ∷ []
