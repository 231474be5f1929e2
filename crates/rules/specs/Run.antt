-- A list of calls (docs/RULES.md, "The three demands", 3, and "What the peer put in"): each is judged against the transaction in force that the one before
-- left.
use Rattle.std.specs.Prelude.{ℕ, ◌+◌, ◌≡◌, List, [], ◌∷◌, ◌++◌, map, length, drop, ℤ, pos}
use Rattle.error.specs.Outcome.{Outcome, fine, refused, leaves}
use Rattle.transaction.specs.Tx.{tx_at}
use Rattle.transaction.specs.Cells.{Cell}
use Rattle.rules.specs.Records.{lent_at}
use Rattle.molecule.specs.Partial.{All}
use Rattle.rules.specs.Surplus.{Measure, surplus}
use Rattle.units.specs.Units.{Figures}
use Rattle.rules.specs.Judge.{Call, judge, live_cells}

-- An entry judges calls C against our bytes, and its acceptances carry S.
pub record Entry (C S : Type 0) : Type 0 where
  pub judged : List ℕ → C → Outcome S
  pub peer_of : C → List ℕ
  -- the live cells of the records that a call lends
  pub lent : C → List Cell

-- the bytes in force after a verdict: the peer's after an acceptance, ours after a refusal
abbrev pub handed_back {ℓ} : {S : Type 0} {A : Type ℓ} → Outcome S → A → A → A
handed_back v ours peer = leaves v (λ _. peer) ours

-- what an acceptance adds, and a refusal does not
abbrev pub keep : {S A : Type 0} → Outcome S → List A → List A
keep (fine s) l = l
keep (refused n l) m = []

-- what the accepted updates carry, in order
abbrev pub carried : {S : Type 0} → (S → ℕ) → List (Outcome S) → List ℕ
carried pick [] = []
carried pick (fine s ∷ vs) = pick s ∷ carried pick vs
carried pick (refused n l ∷ vs) = carried pick vs

abbrev pub sum_of : List ℕ → ℕ
sum_of [] = 0
sum_of (n ∷ ns) = n + sum_of ns

-- 0 or more
abbrev pub NotNegative : ℤ → Type 0
NotNegative z = (n : ℕ) × (z ≡ pos n)

-- an added input, and the cell of the record that was lent for it
pub record Spent : Type 0 where
  pub input : List ℕ
  pub cell : Cell

-- the k-th record belongs to the k-th added input
abbrev pub spends : List (List ℕ) → List Cell → List Spent
spends [] cs = []
spends (i ∷ is) [] = []
spends (i ∷ is) (c ∷ cs) = record { input = i; cell = c } ∷ spends is cs

abbrev pub inputs_of : List Spent → List (List ℕ)
inputs_of [] = []
inputs_of (s ∷ ss) = s.input ∷ inputs_of ss

abbrev pub spent_cells : List Spent → List Cell
spent_cells [] = []
spent_cells (s ∷ ss) = s.cell ∷ spent_cells ss

module _ {C S : Type 0} (E : Entry C S) where
  abbrev pub next : List ℕ → C → List ℕ
  next ours c = handed_back (E.judged ours c) ours (E.peer_of c)

  abbrev pub verdicts : List ℕ → List C → List (Outcome S)
  verdicts ours [] = []
  verdicts ours (c ∷ cs) = E.judged ours c ∷ verdicts (next ours c) cs

  abbrev pub in_force : List ℕ → List C → List ℕ
  in_force ours [] = ours
  in_force ours (c ∷ cs) = in_force (next ours c) cs

  -- the bytes in force after each call
  abbrev pub forces : List ℕ → List C → List (List ℕ)
  forces ours [] = []
  forces ours (c ∷ cs) = next ours c ∷ forces (next ours c) cs

  -- the records of the accepted updates, in order
  abbrev pub kept_records : List ℕ → List C → List Cell
  kept_records ours [] = []
  kept_records ours (c ∷ cs) = keep (E.judged ours c) (E.lent c) ++ kept_records (next ours c) cs

  -- what a call would add to ours
  abbrev pub spent_by : List ℕ → C → List Spent
  spent_by ours c = spends (drop (length (tx_at ours).inputs) (tx_at (E.peer_of c)).inputs) (E.lent c)

  -- the inputs that the accepted updates added, with their records, in order
  abbrev pub kept : List ℕ → List C → List Spent
  kept ours [] = []
  kept ours (c ∷ cs) = keep (E.judged ours c) (spent_by ours c) ++ kept (next ours c) cs

  -- the surplus of each accepted update against the transaction in force before it, over its own records
  abbrev pub steps : Measure → List ℕ → List C → List ℤ
  steps m ours [] = []
  steps m ours (c ∷ cs) =
      keep (E.judged ours c) (surplus m (tx_at ours) (tx_at (E.peer_of c)) (E.lent c) ∷ []) ++ steps m (next ours c) cs

  -- The law for one measure, of the verdicts of a list of calls and the bytes in force at its end: `pick` takes the surplus from what an acceptance carries.
  pub record Exact (m : Measure) (pick : S → ℕ) (start : List ℕ) (calls : List C) (answers : List (Outcome S)) (end : List ℕ) : Type 0 where
    -- each accepted update carries the surplus of its own step
    pub each : map pos (carried pick answers) ≡ steps m start calls
    -- none of which is negative
    pub natural : All NotNegative (steps m start calls)
    -- and they sum to the surplus of the transaction then in force against the one at the start, over the records kept, in order
    pub sums : pos (sum_of (carried pick answers)) ≡ surplus m (tx_at start) (tx_at end) (kept_records start calls)

-- what a call of a program returns: its answer, and the bytes that it hands back
pub record Returned (U : Type 0) : Type 0 where
  pub answer : U
  pub handed : List ℕ

-- A list of calls of a program, each given the bytes that the one before handed back. `Called ours c u handed` is what is known of one call: given ours
-- and c it answered u and handed back those bytes.
pub data Ran {C U : Type 0} (Called : List ℕ → C → U → List ℕ → Type 0) : List ℕ → List C → List (Returned U) → List ℕ → Type 0 where
  stop : {ours : List ℕ} → Ran Called ours [] [] ours
  call : {ours handed end : List ℕ} {c : C} {cs : List C} {u : U} {rs : List (Returned U)} → Called ours c u handed → Ran Called handed cs rs end
      → Ran Called ours (c ∷ cs) (record { answer = u; handed = handed } ∷ rs) end

-- ---- update_for_peer

-- the live cells of lent records
abbrev pub lent_cells : List ℕ → List Cell
lent_cells s = live_cells (lent_at s).records

abbrev pub update_for_peer : List ℕ → List ℕ → Entry Call Figures
update_for_peer lock type = record {
  judged = judge lock type;
  peer_of = λ c. c.peer;
  lent = λ c. lent_cells c.records;
}
