use native.Mathlib.Omega.{arith}
use Rattle.words.proofs.WordLaws.{mapped_words}
use Rattle.answer_words.specs.Answers.{replay_words}
use Rattle.answer_words.proofs.tell_replayed.Goals as goal

pub returns : goal.returns
unfolding replay_words
returns c = mapped_words replay_words (λ x. record { updates = x.updates; accepted = x.accepted; at = x.at }) c.args.replayed _ _ c.map.ensures.cases (c.tell.ensures (omega arith))
