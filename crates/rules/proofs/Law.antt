-- The surplus law over a whole list of updates, for any entry that owes a step: several tokens, other limits or arrivals in another order need no new
-- induction.
use mathlib.Core.Path.{◌≡◌, refl, ap, ap₂, ◌∙◌, subst}
use Prim.Native.Nat.{ℕ}
use mathlib.Core.List.{List, [], ◌∷◌, ◌++◌, map}
use mathlib.Core.Bool.{true}
use lib.IntN.{pos}
use Rattle.error.specs.Outcome.{Outcome, fine, refused}
use Rattle.molecule.specs.Molecule.{option, readable}
use Rattle.transaction.specs.Ckb.{Transaction}
use Rattle.transaction.specs.Tx.{Tx, tx_at}
use Rattle.transaction.specs.Cells.{Cell, cells}
use Rattle.molecule.specs.Partial.{All}
use Rattle.rules.specs.Surplus.{total, first, added, Measure, surplus}
use Rattle.rules.specs.Run.{Entry, handed_back, keep, carried, sum_of, next, verdicts, in_force, forces, kept_records, spent_by, kept, inputs_of, spent_cells, steps, NotNegative, Exact, Returned, Ran, call}
use Rattle.rules.specs.Run as run
use Rattle.rules.proofs.Telescope.{Chain, stop, step, Sum, chain_sum, step_records, records-append}
use Rattle.rules.specs.Step.{Step}
use Rattle.rules.proofs.Whole.{whole}

-- a balance in whole numbers
step_surplus : {m : Measure} {a c : Tx} {records : List Cell} {paid : ℕ} → Step m a c records paid → pos paid ≡ surplus m a c records
unfolding surplus
step_surplus {m} {a} {c} {records} {paid} s =
    whole (total m.of records) (first m.at_zero (cells a)) paid (first m.at_zero (cells c)) (total m.of (added a c)) s.account.balance

module _ {C S : Type 0} (E : Entry C S) where
  module _ (m : Measure) (pick : S → ℕ)
      (step_by : (ours : List ℕ) (c : C) (s : S) → E.judged ours c ≡ fine s
      → Step m (tx_at ours) (tx_at (E.peer_of c)) (E.lent c) (pick s)) where
    abbrev ChainOf : List ℕ → List C → Type 0
    ChainOf start calls = Chain m (tx_at start) (tx_at (in_force E start calls)) (kept E start calls) (sum_of (carried pick (verdicts E start calls)))

    turn : (start : List ℕ) (c : C) (cs : List C) (v : Outcome S) → E.judged start c ≡ v → ((b : List ℕ) → ChainOf b cs)
        → Chain m (tx_at start) (tx_at (in_force E (handed_back v start (E.peer_of c)) cs))
        (keep v (spent_by E start c) ++ kept E (handed_back v start (E.peer_of c)) cs)
        (sum_of (carried pick (v ∷ verdicts E (handed_back v start (E.peer_of c)) cs)))
    turn start c cs (fine s) e ih = step (step_by start c s e) (ih (E.peer_of c))
    turn start c cs (refused n l) e ih = ih start

    chain : (calls : List C) (start : List ℕ) → ChainOf start calls
    chain [] start = stop
    chain (c ∷ cs) start = turn start c cs (E.judged start c) refl (chain cs)

    each_turn : (start : List ℕ) (c : C) (cs : List C) (v : Outcome S) → E.judged start c ≡ v
        → ((b : List ℕ) → map pos (carried pick (verdicts E b cs)) ≡ steps E m b cs)
        → map pos (carried pick (v ∷ verdicts E (handed_back v start (E.peer_of c)) cs))
        ≡ keep v (surplus m (tx_at start) (tx_at (E.peer_of c)) (E.lent c) ∷ []) ++ steps E m (handed_back v start (E.peer_of c)) cs
    each_turn start c cs (fine s) e ih = λ i. step_surplus (step_by start c s e) i ∷ ih (E.peer_of c) i
    each_turn start c cs (refused n l) e ih = ih start

    each_step : (calls : List C) (start : List ℕ) → map pos (carried pick (verdicts E start calls)) ≡ steps E m start calls
    each_step [] start = refl
    each_step (c ∷ cs) start = each_turn start c cs (E.judged start c) refl (each_step cs)

    all_natural : (ns : List ℕ) → All NotNegative (map pos ns)
    all_natural [] = tt
    all_natural (n ∷ ns) = ((n, refl), all_natural ns)

    total-surplus : {a c : Tx} {ss : List run.Spent} {paid : ℕ} → Sum m a c ss paid → pos paid ≡ surplus m a c (spent_cells ss)
    unfolding surplus
    total-surplus {a} {c} {ss} {paid} s =
        whole (total m.of (spent_cells ss)) (first m.at_zero (cells a)) paid (first m.at_zero (cells c)) (total m.of (added a c)) s.balance

    -- no record of an accepted update is left out
    records_turn : (start : List ℕ) (c : C) (cs : List C) (v : Outcome S) → E.judged start c ≡ v
        → ((b : List ℕ) → spent_cells (kept E b cs) ≡ kept_records E b cs)
        → spent_cells (keep v (spent_by E start c) ++ kept E (handed_back v start (E.peer_of c)) cs)
        ≡ keep v (E.lent c) ++ kept_records E (handed_back v start (E.peer_of c)) cs
    records_turn start c cs (fine s) e ih =
        records-append (spent_by E start c) (kept E (E.peer_of c) cs)
        ∙ ap₂ (λ (a b : List Cell). a ++ b) (step_records (step_by start c s e)) (ih (E.peer_of c))
    records_turn start c cs (refused n l) e ih = ih start

    pub kept-records : (calls : List C) (start : List ℕ) → spent_cells (kept E start calls) ≡ kept_records E start calls
    kept-records [] start = refl
    kept-records (c ∷ cs) start = records_turn start c cs (E.judged start c) refl (kept-records cs)

    pub exact : (start : List ℕ) (calls : List C) → Exact E m pick start calls (verdicts E start calls) (in_force E start calls)
    exact start calls = record {
      each = each_step calls start;
      natural = subst (All NotNegative) (each_step calls start) (all_natural (carried pick (verdicts E start calls)));
      sums = total-surplus (chain_sum (chain calls start)) ∙ ap (surplus m (tx_at start) (tx_at (in_force E start calls))) (kept-records calls start);
    }

    -- the inputs of the transaction in force are those at the start, and then the kept ones
    pub kept-inputs : (start : List ℕ) (calls : List C) → (tx_at (in_force E start calls)).inputs ≡ (tx_at start).inputs ++ inputs_of (kept E start calls)
    kept-inputs start calls = (chain_sum (chain calls start)).inputs

  -- from a readable transaction, or none, a readable one, or none, is in force
  module _ (reads : (ours : List ℕ) (c : C) (s : S) → E.judged ours c ≡ fine s → readable (option Transaction) (E.peer_of c) ≡ true) where
    read_turn : (start : List ℕ) (c : C) (v : Outcome S) → E.judged start c ≡ v → readable (option Transaction) start ≡ true
        → readable (option Transaction) (handed_back v start (E.peer_of c)) ≡ true
    read_turn start c (fine s) e h = reads start c s e
    read_turn start c (refused n l) e h = h

    pub stay-readable : (calls : List C) (start : List ℕ) → readable (option Transaction) start ≡ true
        → All (λ (b : List ℕ). readable (option Transaction) b ≡ true) (forces E start calls)
    stay-readable [] start h = tt
    stay-readable (c ∷ cs) start h =
        let k : readable (option Transaction) (next E start c) ≡ true = read_turn start c (E.judged start c) refl h in
        (k, stay-readable cs (next E start c) k)

  -- calls of which each answers and hands back what the rules say are a run of the rules
  module _ {U : Type 0} {Called : List ℕ → C → U → List ℕ → Type 0} (told : U → Outcome S)
      (answers : (ours handed : List ℕ) (c : C) (u : U) → Called ours c u handed → told u ≡ E.judged ours c)
      (hands : (ours handed : List ℕ) (c : C) (u : U) → Called ours c u handed → handed ≡ next E ours c) where
    pub ran_answers : {start end : List ℕ} {calls : List C} {rs : List (Returned U)} → Ran Called start calls rs end
        → map (λ (r : Returned U). told r.answer) rs ≡ verdicts E start calls
    ran_answers run.stop = refl
    ran_answers (call {cs = cs} k r) = λ i. answers _ _ _ _ k i ∷ (ran_answers r ∙ ap (λ (b : List ℕ). verdicts E b cs) (hands _ _ _ _ k)) i

    pub ran_handed : {start end : List ℕ} {calls : List C} {rs : List (Returned U)} → Ran Called start calls rs end
        → map (λ (r : Returned U). r.handed) rs ≡ forces E start calls
    ran_handed run.stop = refl
    ran_handed (call {cs = cs} k r) = λ i. hands _ _ _ _ k i ∷ (ran_handed r ∙ ap (λ (b : List ℕ). forces E b cs) (hands _ _ _ _ k)) i

    pub ran_bytes : {start end : List ℕ} {calls : List C} {rs : List (Returned U)} → Ran Called start calls rs end → end ≡ in_force E start calls
    ran_bytes run.stop = refl
    ran_bytes (call {cs = cs} k r) = ran_bytes r ∙ ap (λ (b : List ℕ). in_force E b cs) (hands _ _ _ _ k)
