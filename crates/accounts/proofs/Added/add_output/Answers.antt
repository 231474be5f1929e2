use Rattle.std.proofs.Common.{arith}
use Rattle.std.proofs.lemmas.Grind.{common_steps}
use Rattle.rules.specs.Surplus.{is_of}
use Rattle.rules.specs.Lines.{first_failing, verdict, followed, line_with, answer}
use Rattle.rules.specs.Lines as lines
use Rattle.rules.specs.Judge.{of_outputs, counted}
use Rattle.accounts.specs.Added.{cell_in}
use Rattle.accounts.proofs.Added.add_output.Goals as goal

pub returns-then-not-same_script : goal.returns-then-not-same_script
unfolding counted first_failing verdict followed line_with answer lines.◌>>◌ is_of cell_in
returns-then-not-same_script c = grind (arith, common_steps)

pub returns : goal.returns
unfolding is_of cell_in
returns c = grind (arith, common_steps, c.add_amount.ensures of_outputs c.args.udt.now c.item-o.result.now)
