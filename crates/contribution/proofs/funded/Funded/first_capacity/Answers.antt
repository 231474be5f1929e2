use Rattle.std.proofs.Common.{arith, ◌∙◌, ap}
use Rattle.std.proofs.lemmas.Grind.{common_steps}
use Rattle.molecule.specs.Layout.{item_count}
use Rattle.rules.specs.Surplus.{first, cell_capacity}
use Rattle.rules.proofs.CellLaws.{cell_at, cells-none, cells-some}
use Rattle.contribution.proofs.funded.Funded.first_capacity.Goals as goal

pub returns-then-item_count-eq0 : goal.returns-then-item_count-eq0
unfolding first
returns-then-item_count-eq0 c = grind (arith, common_steps, cells-none c.args.self.tx.now (c.item_count.ensures ∙ ap item_count c.args.self.outputs_are))

pub returns : goal.returns
unfolding first cell_capacity cell_at
returns c = grind (arith, common_steps, cells-some c.args.self.tx.now (c.item_count.ensures ∙ ap item_count c.args.self.outputs_are))
