use Rattle.std.proofs.Common.{◌∙◌}
use Rattle.lists.proofs.EqualLaws.{eq-pointwise, eq_whole}
use Rattle.lists.proofs.same.Goals as goal

pub returns-then-a-b : goal.returns-then-a-b
returns-then-a-b c = eq_whole _ _ (c.eq.ensures ∙ eq-pointwise _ _)
