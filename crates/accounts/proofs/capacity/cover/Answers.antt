use Rattle.std.proofs.Common.{arith}
use Rattle.std.proofs.lemmas.Grind.{common_steps}
use Rattle.error.specs.Refusal.{number, values}
use Rattle.arithmetic.specs.Amount.{difference}
use Rattle.units.specs.Fee.{required_fee}
use Rattle.error.specs.Outcome.{check, check_with, ◌>>◌}
use Rattle.rules.specs.Lines.{first_failing, verdict, followed, line_with, answer}
use Rattle.rules.specs.Lines as lines
use Rattle.rules.specs.Judge.{covered}
use Rattle.accounts.proofs.capacity.cover.Goals as goal

pub returns-in_err-rest : goal.returns-in_err-rest
unfolding covered first_failing verdict followed line_with answer lines.◌>>◌ check check_with ◌>>◌ number values difference
returns-in_err-rest c = grind (arith, common_steps)

pub returns-in_err-left : goal.returns-in_err-left
unfolding covered first_failing verdict followed line_with answer lines.◌>>◌ check check_with ◌>>◌ number values difference
returns-in_err-left c = grind (arith, common_steps)

pub returns-then-not-opening : goal.returns-then-not-opening
unfolding covered first_failing verdict followed line_with answer lines.◌>>◌ check check_with ◌>>◌ number values difference
returns-then-not-opening c = grind (arith, common_steps)

pub returns-then-lt : goal.returns-then-lt
unfolding covered first_failing verdict followed line_with answer lines.◌>>◌ check check_with ◌>>◌ number values difference required_fee
returns-then-lt c = grind (arith, common_steps)

pub returns : goal.returns
unfolding covered first_failing verdict followed line_with answer lines.◌>>◌ check check_with ◌>>◌ number values difference required_fee
returns c = grind (arith, common_steps)
