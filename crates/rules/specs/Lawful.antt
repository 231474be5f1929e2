-- The law over a list of calls of any entry, in as many figures as its acceptances carry (docs/RULES.md, "The three demands", 3), and what an entry owes for
-- it.
use Rattle.std.specs.Prelude.{◌≡◌, ℕ, ◌+◌, true, false, List, [], ◌∷◌, ◌++◌, map, length}
use Rattle.error.specs.Outcome.{Outcome, fine, refused}
use Rattle.molecule.specs.Partial.{All}
use Rattle.molecule.specs.Molecule.{option, readable}
use Rattle.transaction.specs.Ckb.{Transaction}
use Rattle.transaction.specs.Tx.{Tx, tx_at}
use Rattle.units.specs.Units.{Figures}
use Rattle.transaction.specs.Cells.{Cell}
use Rattle.rules.specs.Surplus.{Measure, capacities, expected}
use Rattle.rules.specs.Step.{Extends, Balanced}
use Rattle.rules.specs.Run.{Entry, Exact, verdicts, in_force, forces, next, kept, kept_records, inputs_of, spent_cells, Returned, Ran}

-- A figure that an acceptance carries: what it counts, and where it is found in what is carried.
pub record Figure (S : Type 0) : Type 0 where
  pub measure : Measure
  pub pick : S → ℕ

-- those of an update: the surplus in capacity, and in the expected token
abbrev pub two_figures : List ℕ → List (Figure Figures)
two_figures type =
    record { measure = capacities; pick = λ f. f.capacity }
    ∷ record { measure = expected type; pick = λ f. f.token }
    ∷ []

module _ {C S : Type 0} (E : Entry C S) (figures : List (Figure S)) where
  -- What holds of a list of calls from a start, of the answers that they gave, the bytes that each handed back, and those at the end.
  pub record Lawful (start : List ℕ) (calls : List C) (answers : List (Outcome S)) (handed : List (List ℕ)) (end : List ℕ) : Type 0 where
    -- the answers with their numbers, and the bytes that each call hands back, are those of the rules from the start and the calls alone
    pub judged : answers ≡ verdicts E start calls
    pub handed_back : handed ≡ forces E start calls
    pub at_end : end ≡ in_force E start calls
    -- in each figure: each accepted answer carries the surplus of its own step, which is never negative, and these sum to the surplus of the transaction in
    -- force at the end against the one at the start, over the records of the accepted updates in order
    pub exact : All (λ f. Exact E f.measure f.pick start calls answers end) figures
    -- the inputs at the end are those at the start and then, one for each of these records, the input that it was lent for
    pub inputs : (tx_at end).inputs ≡ (tx_at start).inputs ++ inputs_of (kept E start calls)
    pub records : spent_cells (kept E start calls) ≡ kept_records E start calls
    -- from a readable transaction, or none, what each call hands back is readable, or none
    pub readable_on : readable (option Transaction) start ≡ true → All (λ b. readable (option Transaction) b ≡ true) handed
    -- from an unreadable one every call is refused with 1, and it stays in force
    pub unreadable : readable (option Transaction) start ≡ false → (answers ≡ map (λ _. refused 1 []) calls) × (end ≡ start)

-- ---- what an entry owes for that, for one call

-- what an acceptance that carries s says of the transaction in force before it, the peer's, and the cells of its records
pub record Owed {S : Type 0} (figures : List (Figure S)) (a b : Tx) (records : List Cell) (s : S) : Type 0 where
  pub extends : Extends a b
  pub inputs : length b.inputs ≡ length a.inputs + length records
  pub balanced : All (λ f. Balanced f.measure a b records (f.pick s)) figures

pub record Owes {C S : Type 0} (E : Entry C S) (figures : List (Figure S)) : Type 0 where
  pub accepts : (ours : List ℕ) (c : C) (s : S) → E.judged ours c ≡ fine s → Owed figures (tx_at ours) (tx_at (E.peer_of c)) (E.lent c) s
  pub reads : (ours : List ℕ) (c : C) (s : S) → E.judged ours c ≡ fine s → readable (option Transaction) (E.peer_of c) ≡ true
  pub ones : (ours : List ℕ) (c : C) → readable (option Transaction) ours ≡ false → E.judged ours c ≡ refused 1 []

-- a program whose calls answer, and hand back, what an entry says
pub record Obeys {C S U : Type 0} (E : Entry C S) (told : U → Outcome S) (Called : List ℕ → C → U → List ℕ → Type 0) : Type 0 where
  pub answers : (ours handed : List ℕ) (c : C) (u : U) → Called ours c u handed → told u ≡ E.judged ours c
  pub hands : (ours handed : List ℕ) (c : C) (u : U) → Called ours c u handed → handed ≡ next E ours c

-- The law of an entry in these figures: whatever program obeys it, every list of its calls, each given the bytes that the one before handed back, is lawful.
abbrev pub Law : {C S : Type 0} → Entry C S → List (Figure S) → Type 1
Law {C} {S} E figures = (U : Type 0) (told : U → Outcome S) (Called : List ℕ → C → U → List ℕ → Type 0) → Obeys E told Called
    → (start : List ℕ) (calls : List C) (returned : List (Returned U)) (end : List ℕ) → Ran Called start calls returned end
    → Lawful E figures start calls (map (λ r. told r.answer) returned) (map (λ r. r.handed) returned) end

-- ---- two entries in one list of calls

pub data Either (C D : Type 0) : Type 0 where
  one : C → Either C D
  other : D → Either C D

module _ {C D S : Type 0} (E : Entry C S) (F : Entry D S) where
  abbrev pub judged_by : List ℕ → Either C D → Outcome S
  judged_by ours (one c) = E.judged ours c
  judged_by ours (other d) = F.judged ours d

  abbrev pub peer_by : Either C D → List ℕ
  peer_by (one c) = E.peer_of c
  peer_by (other d) = F.peer_of d

  abbrev pub lent_by : Either C D → List Cell
  lent_by (one c) = E.lent c
  lent_by (other d) = F.lent d

  -- each call by its own entry
  abbrev pub mixed : Entry (Either C D) S
  mixed = record { judged = judged_by; peer_of = peer_by; lent = lent_by }
