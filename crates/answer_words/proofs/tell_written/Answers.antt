use native.Mathlib.Omega.{arith}
use Rattle.words.proofs.WordLaws.{mapped_words}
use Rattle.answer_words.specs.Answers.{count_words}
use Rattle.answer_words.proofs.tell_written.Goals as goal

pub returns : goal.returns
unfolding count_words
returns c = mapped_words count_words (λ n. n) c.args.written _ _ c.map.ensures.cases (c.tell.ensures (omega arith))
