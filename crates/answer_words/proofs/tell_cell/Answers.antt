use native.Mathlib.Omega.{arith}
use Rattle.words.proofs.WordLaws.{mapped_words}
use Rattle.funding_cell.specs.FundingCell.{figures_of}
use Rattle.answer_words.specs.Answers.{cell_words}
use Rattle.answer_words.proofs.tell_cell.Goals as goal

pub returns : goal.returns
unfolding cell_words
returns c = mapped_words cell_words figures_of c.args.cell _ _ c.map.ensures.cases (c.tell.ensures (omega arith))
