-- Demand 3 as a statement about calls of the code, whatever peer bytes, records, source lock and fee rate each call brings. It is proved in
-- proofs/Demand3.antt.
use Rattle.std.specs.Prelude.{◌≡◌, ℕ, List, map, Err}
use Rattle.error.specs.declared.Refusal.{Refusal}
use Rattle.error.specs.Outcome.{Outcome}
use Rattle.units.specs.Units.{Figures}
use Rattle.rules.specs.Judge.{Call, judge}
use Rattle.rules.specs.Told.{Update, told, in_force_of}
use Rattle.rules.specs.Run.{update_for_peer, Returned, Ran}
use Rattle.rules.specs.Lawful.{Lawful, two_figures}

-- the answers of a list of calls, told in numbers, and the bytes that each handed back
abbrev pub told_of : List (Returned Update) → List (Outcome Figures)
told_of rs = map (λ r. told r.answer) rs

abbrev pub handed_of : List (Returned Update) → List (List ℕ)
handed_of rs = map (λ r. r.handed) rs

module _ (lock udt : List ℕ) where
  -- A call: `update_for_peer` answers, and then `in_force` of its answer hands back bytes. The two lines are the contract of the one and the clause on bytes of
  -- the other (src/lib.rt), word for word; the other clause of `in_force`, that these are the lent bytes themselves and no copy, is not needed here.
  pub record Called (ours : List ℕ) (call : Call) (update : Update) (handed : List ℕ) : Type 0 where
    pub answer : told update ≡ judge lock udt ours call
    pub bytes : handed ≡ in_force_of update ours call.peer

  -- a refused call changes nothing
  abbrev pub Refusals : Type 0
  Refusals = (ours : List ℕ) (call : Call) (refusal : Refusal) (handed : List ℕ) → Called ours call (Err refusal) handed → handed ≡ ours

  -- demand 3: every list of calls, each given the bytes that the one before handed back, is lawful, in capacity and in the expected token
  abbrev pub Demand3 : Type 0
  Demand3 = (start : List ℕ) (calls : List Call) (returned : List (Returned Update)) (end : List ℕ) → Ran Called start calls returned end
      → Lawful (update_for_peer lock udt) (two_figures udt) start calls (told_of returned) (handed_of returned) end
