use Rattle.std.proofs.Common.{arith}
use Rattle.std.proofs.lemmas.Grind.{common_steps}
use Rattle.arithmetic.specs.Amount.{difference}
use Rattle.error.specs.Refusal.{number, values}
use Rattle.error.specs.Outcome.{check, check_with, ◌>>◌}
use Rattle.rules.specs.Judge.{token_delta}
use Rattle.rules.specs.Lines.{line_with, answer, followed, verdict, first_failing}
use Rattle.rules.specs.Lines as lines
use Rattle.contribution.specs.Answers.{first_amount}
use Rattle.contribution.proofs.Both.token_delta.Goals as goal

pub returns-in_err-a : goal.returns-in_err-a
unfolding token_delta line_with answer followed lines.◌>>◌ verdict first_failing first_amount check check_with ◌>>◌ number values
returns-in_err-a c = grind (arith, common_steps)

pub returns-in_err-b : goal.returns-in_err-b
unfolding token_delta line_with answer followed lines.◌>>◌ verdict first_failing first_amount check check_with ◌>>◌ number values
returns-in_err-b c = grind (arith, common_steps)

pub returns : goal.returns
unfolding token_delta line_with answer followed lines.◌>>◌ verdict first_failing first_amount check check_with ◌>>◌ number values difference
returns c = grind (arith, common_steps)
