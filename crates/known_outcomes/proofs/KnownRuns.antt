-- A list of updates worked through by the definitions of crates/rules/specs/Run.antt, and what fails where the type changes.
use Rattle.std.proofs.Common.{Err, Ok}
use Rattle.rules.specs.Told.{Update}
use mathlib.Core.Path.{◌≡◌, refl, sym, ap, ◌∙◌}
use Prim.Native.Nat.{ℕ}
use native.Mathlib.Omega.{arith}
use mathlib.Core.List.{List, [], ◌∷◌}
use lib.IntN.{ℤ, pos}
use Rattle.error.specs.Outcome.{fine, refused}
use Rattle.rules.specs.Surplus.{Measure, capacities, expected, surplus}
use Rattle.rules.specs.Judge.{Call}
use Rattle.transaction.specs.Tx.{tx_at}
use Rattle.rules.specs.Run.{Entry, Exact, verdicts, in_force, kept, kept_records, steps, carried, sum_of, update_for_peer, Returned, Ran, stop, call}
use Rattle.units.specs.Units.{in_shannons, in_tokens, Figures}
use Rattle.error.specs.declared.Refusal.{Refusal}
use Rattle.error.specs.Refusal.{number, values}
use Rattle.funding_tx.specs.Negotiation.{Called}
use Rattle.rules.proofs.Accept.{accepted}
use Rattle.rules.proofs.Law.{exact}
use Rattle.rules.proofs.LawfulLaws.{step_of}
use Rattle.case_parts.specs.Parts.{expected_lock, token_type, input, token, amount}
use Rattle.known_outcomes.specs.Runs.{worked, opening, growing, spent_for, any_type, changing}
use Rattle.known_outcomes.proofs.Computing.{computing}

-- ---- the worked list, from none

abbrev E : Entry Call Figures
E = update_for_peer expected_lock token_type

pub worked-verdicts : verdicts E [] worked ≡ fine (record { capacity = 860; token = 1 }) ∷ refused 5 [] ∷ fine (record { capacity = 10; token = 1 }) ∷ []
unfolding computing
worked-verdicts = refl

pub worked-bytes : in_force E [] worked ≡ growing.peer
unfolding computing
worked-bytes = refl

-- the refused update's record is not among them
pub worked_kept : kept E [] worked ≡ spent_for (input 0) (token 1000) (amount 7) ∷ spent_for (input 1) (token 60) (amount 4) ∷ []
unfolding computing
worked_kept = refl

-- each accepted update's own surplus
pub worked-steps : (steps E capacities [] worked ≡ pos 860 ∷ pos 10 ∷ []) × (steps E (expected token_type) [] worked ≡ pos 1 ∷ pos 1 ∷ [])
unfolding computing
worked-steps = (refl, refl)

-- what they carry
abbrev Sums : {C : Type 0} → Entry C Figures → List C → (Figures → ℕ) → ℕ → Type 0
Sums F calls pick n = sum_of (carried pick (verdicts F [] calls)) ≡ n

pub worked-sums : Sums E worked (λ s. s.capacity) 870 × Sums E worked (λ s. s.token) 2
unfolding computing
worked-sums = (refl, refl)

-- the surplus of the end against the start, over the kept records
abbrev Whole : {C : Type 0} → Entry C Figures → List C → Measure → ℤ → Type 0
Whole F calls m z = surplus m (tx_at []) (tx_at (in_force F [] calls)) (kept_records F [] calls) ≡ z

pub worked-whole : Whole E worked capacities (pos 870) × Whole E worked (expected token_type) (pos 2)
unfolding computing
worked-whole = (refl, refl)

-- these are calls of the code: what its contracts say of them holds
abbrev accept : ℕ → ℕ → Call → Returned Update
accept capacity token c = record { answer = Ok (record { capacity = in_shannons capacity; token = in_tokens token }); handed = c.peer }

pub worked_ran : Ran (Called expected_lock token_type) [] worked
    (accept 860 1 opening ∷ record { answer = Err Refusal.InvalidPeerFundingTx; handed = opening.peer } ∷ accept 10 1 growing ∷ []) growing.peer
unfolding computing number values
worked_ran = call (record { answer = refl; bytes = refl }) (call (record { answer = refl; bytes = refl }) (call (record { answer = refl; bytes = refl }) stop))

-- ---- the type changes

abbrev F : Entry (List ℕ × Call) Figures
F = any_type expected_lock

pub changing-verdicts : verdicts F [] changing ≡ fine (record { capacity = 900; token = 2 }) ∷ fine (record { capacity = 0; token = 0 }) ∷ []
unfolding computing
changing-verdicts = refl

pub changing-sums : Sums F changing (λ s. s.capacity) 900 × Sums F changing (λ s. s.token) 2
unfolding computing
changing-sums = (refl, refl)

-- in tokens of the first type 7, untyped 0: neither is the sum
pub changing-whole : Whole F changing capacities (pos 900) × Whole F changing (expected token_type) (pos 7) × Whole F changing (expected []) (pos 0)
unfolding computing
changing-whole = (refl, refl, refl)

pub no_token_law : Exact F (expected token_type) (λ s. s.token) [] changing (verdicts F [] changing) (in_force F [] changing) → ⊥
no_token_law e =
    let h : pos 2 ≡ pos 7 = ap pos (sym changing-sums.1) ∙ e.sums ∙ changing-whole.1 in
    let z : ◌≡◌ {A = ℕ} 2 7 = cc in
    omega arith

pub no_untyped_law : Exact F (expected []) (λ s. s.token) [] changing (verdicts F [] changing) (in_force F [] changing) → ⊥
no_untyped_law e =
    let h : pos 2 ≡ pos 0 = ap pos (sym changing-sums.1) ∙ e.sums ∙ changing-whole.2 in
    let z : ◌≡◌ {A = ℕ} 2 0 = cc in
    omega arith

-- capacity needs no such condition
pub any_type-capacity : (lock start : List ℕ) (calls : List (List ℕ × Call)) → Exact (any_type lock) capacities (λ s. s.capacity) start calls (verdicts (any_type lock) start calls) (in_force (any_type lock) start calls)
any_type-capacity lock = exact (any_type lock) capacities (λ s. s.capacity) (λ ours c s e. (let (w, _, _) = accepted lock c.0 ours c.1 s e in step_of w w.balanced.0))
