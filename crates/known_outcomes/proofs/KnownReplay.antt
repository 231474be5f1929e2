-- The worked list of updates through the definitions of `replay`, from lent bytes to words.
use mathlib.Core.Path.{◌≡◌, refl}
use mathlib.Core.List.{[], ◌∷◌, ◌++◌}
use lib.ListN.{replicate}
use Rattle.error.specs.Outcome.{fine, refused, number_of, values_of}
use Rattle.rules.specs.Judge.{judge}
use Rattle.negotiation.specs.Updates.{field_bytes, rate_of, calls_of, transaction_at}
use Rattle.words.specs.Words.{surplus_words, set_words, in_words}
use Rattle.negotiation.specs.Words.{all_words}
use Rattle.negotiation.specs.Replay.{accepted_of, index_after, replay_of, after_replay}
use Rattle.case_parts.specs.Parts.{expected_lock, token_type}
use Rattle.known_outcomes.specs.Runs.{worked, opening, growing}
use Rattle.known_outcomes.specs.Replays.{lent, lent_one}
use Rattle.known_outcomes.proofs.Computing.{computing}

-- the calls are read back
pub replayed_calls : calls_of lent ≡ worked
unfolding computing field_bytes rate_of
replayed_calls = refl

-- accepted with 860 shannons and 1 token, refused with 5, accepted with 10 and 1; the third is in force, and a sixteenth word keeps its value
pub replayed : after_replay (replay_of expected_lock token_type [] lent 16) (replicate 16 7)
    ≡ (fine (record { updates = 3; accepted = 2; at = 3 }), 0 ∷ 860 ∷ 0 ∷ 1 ∷ 0 ∷ 5 ∷ 0 ∷ 0 ∷ 0 ∷ 0 ∷ 0 ∷ 10 ∷ 0 ∷ 1 ∷ 0 ∷ 7 ∷ [])
unfolding computing field_bytes rate_of number_of values_of surplus_words all_words accepted_of index_after replay_of after_replay
replayed = refl

pub replayed_in_force : transaction_at [] lent 3 ≡ growing.peer
unfolding computing field_bytes transaction_at
replayed_in_force = refl

-- a byte too many is no list of updates; fourteen words are too few for three updates, and four for one
pub replay_refusals : (after_replay (replay_of expected_lock token_type [] (lent ++ (0 ∷ [])) 16) (replicate 16 7) ≡ (refused 3 [], replicate 16 7))
    × (after_replay (replay_of expected_lock token_type [] lent 14) (replicate 14 7) ≡ (refused 13 [], replicate 14 7))
    × (after_replay (replay_of expected_lock token_type [] lent_one 4) (replicate 4 7) ≡ (refused 13 [], replicate 4 7))
unfolding computing replay_of after_replay
replay_refusals = (refl, refl, refl)

-- the first update's answer by itself sets four words; a refusal that carries no value, of a transaction that can't be read, none
pub answered_in_words : (in_words surplus_words (judge expected_lock token_type [] opening) (replicate 4 7) ≡ (0, 860 ∷ 0 ∷ 1 ∷ 0 ∷ []))
    × (in_words surplus_words (judge expected_lock token_type (0 ∷ []) opening) (replicate 4 7) ≡ (1, replicate 4 7))
unfolding computing number_of values_of surplus_words set_words in_words
answered_in_words = (refl, refl)
