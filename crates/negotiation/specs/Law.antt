-- Demand 3 as a statement about one function: what a caller finds in the words that `replay` leaves. It is proved in proofs/Demand3.antt; the C call
-- `basinpantry_replay` has it in its own contract.
use Rattle.std.specs.Prelude.{◌≡◌, ℕ, zero, suc, ◌+◌, ◌*◌, ◌^◌, true, cond, List, [], ◌∷◌, T, eqb, length, take, drop, get_or}
use Rattle.molecule.specs.Partial.{All}
use Rattle.molecule.specs.Molecule.{option, readable}
use Rattle.transaction.specs.Ckb.{Transaction}
use Rattle.molecule.specs.Layout.{item_count}
use Rattle.error.specs.Outcome.{Outcome, fine, refused}
use Rattle.units.specs.Units.{Figures}
use Rattle.rules.specs.Run.{Exact, update_for_peer, verdicts, forces}
use Rattle.rules.specs.Lawful.{Lawful, two_figures}
use Rattle.negotiation.specs.Updates.{Updates, calls_of, transaction_at}
use Rattle.words.specs.Words.{four_of}
use Rattle.negotiation.specs.Words.{all_words}
use Rattle.negotiation.specs.Replay.{Replayed, accepted_of, replay_of, after_replay, told_replay}

-- the answer that five words tell: where the first is 0 an acceptance, with its two surpluses in halves
abbrev pub answer_in : List ℕ → Outcome Figures
answer_in ws =
    cond (eqb (get_or ws 0 0) 0)
    (fine (record { capacity = get_or ws 1 0 + 2 ^ 64 * get_or ws 2 0; token = get_or ws 3 0 + 2 ^ 64 * get_or ws 4 0 }))
    (refused (get_or ws 0 0) (four_of (drop 1 ws)))

-- n answers, one after another
unfoldable pub answers_in : ℕ → List ℕ → List (Outcome Figures)
answers_in zero ws = []
answers_in (suc n) ws = answer_in ws ∷ answers_in n (drop 5 ws)

module _ (lock udt start updates before : List ℕ) where
  -- A call of `replay`: what its contract (src/lib.rt) says of its arguments and result, word for word; `before` and `after` is what the lent words are before
  -- the call and after it.
  abbrev pub Called : Replayed → List ℕ → Type 0
  Called r after = (told_replay r, after) ≡ after_replay (replay_of lock udt start updates (length before)) before

  -- what holds of a call that is done, with these three numbers
  pub record LawfulReplay (n accepted at : ℕ) (after : List ℕ) : Type 0 where
    -- what was lent is a list of n updates
    pub is_list : T (readable Updates updates)
    pub count : n ≡ item_count updates
    -- the words are those of the rules' verdicts, from the start and the list alone
    pub words : take (5 * n) after ≡ all_words (verdicts (update_for_peer lock udt) start (calls_of updates))
    -- these verdicts, and the transaction that the index names as the one then in force, are lawful
    pub lawful : Lawful (update_for_peer lock udt) (two_figures udt) start (calls_of updates) (verdicts (update_for_peer lock udt) start (calls_of updates))
        (forces (update_for_peer lock udt) start (calls_of updates)) (transaction_at start updates at)
    -- from a readable transaction, or none, that one is readable, or none
    pub readable_at : readable (option Transaction) start ≡ true → readable (option Transaction) (transaction_at start updates at) ≡ true
    -- so many of the answers in the words are acceptances, and their surpluses in the words have the law too
    pub acceptances : accepted ≡ accepted_of (answers_in n after)
    pub exact : All (λ f. Exact (update_for_peer lock udt) f.measure f.pick start (calls_of updates) (answers_in n after) (transaction_at start updates at))
        (two_figures udt)
    -- the words beyond those of the n answers keep their value
    pub beyond : drop (5 * n) after ≡ drop (5 * n) before
