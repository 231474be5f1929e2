use native.Mathlib.Omega.{arith}
use Rattle.words.proofs.WordLaws.{mapped_words}
use Rattle.udt_cells.specs.Change.{built_of}
use Rattle.answer_words.specs.Answers.{pick_words}
use Rattle.answer_words.proofs.tell_pick.Goals as goal

pub returns : goal.returns
unfolding pick_words
returns c = mapped_words pick_words built_of c.args.pick _ _ c.map.ensures.cases (c.tell.ensures (omega arith))
