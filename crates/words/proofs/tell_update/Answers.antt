use native.Mathlib.Omega.{arith}
use Rattle.rules.specs.Told.{figures}
use Rattle.words.specs.Words.{surplus_words}
use Rattle.words.proofs.WordLaws.{mapped_words}
use Rattle.words.proofs.tell_update.Goals as goal

pub returns : goal.returns
unfolding surplus_words
returns c = mapped_words surplus_words figures c.args.update _ _ c.map.ensures.cases (c.tell.ensures (omega arith))
