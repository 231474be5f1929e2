-- A list of updates judged one after another, each against the transaction that the one before it left in force (docs/RULES.md, "The three demands", 3): what
-- `replay` answers, and what it leaves in the lent buffer (ours: docs/DECISIONS.md, "Lists of updates").
use Rattle.std.specs.Prelude.{ℕ, ◌+◌, ◌*◌, List, [], ◌∷◌, ◌++◌, length, drop, leb, Result}
use Rattle.molecule.specs.Molecule.{readable}
use Rattle.molecule.specs.Layout.{item_count}
use Rattle.error.specs.Outcome.{Outcome, fine, refused, check, ◌>>◌, told_by}
use Rattle.units.specs.Units.{Figures}
use Rattle.rules.specs.Run.{handed_back, carried, sum_of, verdicts, update_for_peer}
use Rattle.error.specs.declared.Refusal.{Refusal}
use Rattle.negotiation.specs.declared.Summary as replay
use Rattle.negotiation.specs.Updates.{Updates, calls_of}
use Rattle.negotiation.specs.Words.{all_words}

-- how many updates, how many of them accepted, and the index of the transaction that is then in force
pub record Summary : Type 0 where
  pub updates : ℕ
  pub accepted : ℕ
  pub at : ℕ

unfoldable pub accepted_of : List (Outcome Figures) → ℕ
accepted_of vs = sum_of (carried (λ f. 1) vs)

-- the index after these verdicts, of which the first is of update i, where it was `at` before them
unfoldable pub index_after : ℕ → ℕ → List (Outcome Figures) → ℕ
index_after at i [] = at
index_after at i (v ∷ vs) = index_after (handed_back v at (i + 1)) (i + 1) vs

abbrev pub summary_of : List (Outcome Figures) → Summary
summary_of vs = record { updates = length vs; accepted = accepted_of vs; at = index_after 0 0 vs }

-- the verdicts, or why nothing is judged; `room` is how many words are lent for the answers
unfoldable pub replay_of : List ℕ → List ℕ → List ℕ → List ℕ → ℕ → Outcome (List (Outcome Figures))
replay_of lock udt start updates room = do
  -- no list of updates
  check 3 (readable Updates updates)
  -- fewer than five words for each
  check 13 (leb (5 * item_count updates) room)
  fine (verdicts (update_for_peer lock udt) start (calls_of updates))

-- what is answered, and the buffer: it begins with the words of the answers, and what is beyond keeps its value; after a refusal all is as it was
unfoldable pub after_replay : Outcome (List (Outcome Figures)) → List ℕ → Outcome Summary × List ℕ
after_replay (fine vs) out = (fine (summary_of vs), all_words vs ++ drop (length (all_words vs)) out)
after_replay (refused n l) out = (refused n l, out)

-- what `replay` answers
abbrev pub Replayed : Type 0
Replayed = Result replay.Summary Refusal

-- the figures of an answer in numbers
abbrev pub told_replay : Replayed → Outcome Summary
told_replay = told_by (λ r. record { updates = r.updates; accepted = r.accepted; at = r.at })
