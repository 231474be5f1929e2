use Rattle.std.proofs.Common.{arith}
use Rattle.std.proofs.lemmas.Grind.{common_steps}
use Rattle.error.specs.Refusal.{number, values}
use Rattle.arithmetic.specs.Amount.{sum, difference}
use Rattle.error.specs.Outcome.{check, check_with, ◌>>◌}
use Rattle.rules.specs.Lines.{first_failing, verdict, followed, line_with, answer}
use Rattle.rules.specs.Lines as lines
use Rattle.rules.specs.Judge.{settled}
use Rattle.accounts.proofs.token.settle.Goals as goal

pub returns-in_err-needed : goal.returns-in_err-needed
unfolding settled first_failing verdict followed line_with answer lines.◌>>◌ check check_with ◌>>◌ number values sum
returns-in_err-needed c = grind (arith, common_steps)

pub returns : goal.returns
unfolding settled first_failing verdict followed line_with answer lines.◌>>◌ check check_with ◌>>◌ number values sum difference
returns c = grind (arith, common_steps)
