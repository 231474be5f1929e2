use Rattle.std.proofs.Common.{arith, ◌∙◌, ap}
use Rattle.std.proofs.lemmas.Grind.{common_steps}
use Rattle.arithmetic.specs.Amount.{amount_at}
use Rattle.molecule.specs.Layout.{item_count}
use Rattle.error.specs.Outcome.{check, check_with, ◌>>◌}
use Rattle.rules.specs.Judge.{at_first}
use Rattle.rules.specs.Surplus.{first, amount_of, has_amount}
use Rattle.rules.proofs.CellLaws.{cell_at, cells-none, cells-some}
use Rattle.contribution.specs.Answers.{first_amount}
use Rattle.contribution.proofs.funded.Funded.first_amount.Goals as goal

pub returns-then-item_count-eq0 : goal.returns-then-item_count-eq0
unfolding first first_amount at_first check check_with ◌>>◌
returns-then-item_count-eq0 c = grind (arith, common_steps, cells-none c.args.self.tx.now (c.item_count.ensures ∙ ap item_count c.args.self.outputs_are))

pub returns : goal.returns
unfolding first first_amount at_first check check_with ◌>>◌ amount_of has_amount cell_at amount_at
returns c = grind (arith, common_steps, cells-some c.args.self.tx.now (c.item_count.ensures ∙ ap item_count c.args.self.outputs_are))
