use Rattle.std.proofs.Common.{arith}
use Rattle.std.proofs.lemmas.Grind.{common_steps}
use Rattle.error.specs.Refusal.{number, values}
use Rattle.arithmetic.specs.Amount.{sum, amount_at}
use Rattle.error.specs.Outcome.{check, check_with, ◌>>◌}
use Rattle.rules.specs.Surplus.{has_amount, amount_of}
use Rattle.rules.specs.Lines.{first_failing, verdict, followed, line_with, answer}
use Rattle.rules.specs.Lines as lines
use Rattle.rules.specs.Judge.{counted}
use Rattle.accounts.proofs.token.add_amount.Goals as goal

pub returns-in_err-amount : goal.returns-in_err-amount
unfolding counted first_failing verdict followed line_with answer lines.◌>>◌ check check_with ◌>>◌ number values amount_at has_amount amount_of
returns-in_err-amount c names type o e = grind (arith, common_steps)

pub returns : goal.returns
unfolding counted first_failing verdict followed line_with answer lines.◌>>◌ check check_with ◌>>◌ number values sum amount_at has_amount amount_of
returns c names type o e = grind (arith, common_steps)
