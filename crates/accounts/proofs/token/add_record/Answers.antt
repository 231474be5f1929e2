use Rattle.std.proofs.Common.{arith}
use Rattle.std.proofs.lemmas.Grind.{common_steps}
use Rattle.rules.specs.Surplus.{is_of}
use Rattle.rules.specs.Judge.{of_records, counted}
use Rattle.rules.specs.Lines.{first_failing, verdict, followed, line_with, answer, known}
use Rattle.rules.specs.Lines as lines
use Rattle.accounts.specs.Inner.{and_record}
use Rattle.accounts.proofs.token.add_record.Goals as goal

pub returns-in_err-sum : goal.returns-in_err-sum
unfolding and_record lines.◌>>=◌ known followed verdict first_failing
returns-in_err-sum c = grind (arith, common_steps)

pub returns-then-not-same_script : goal.returns-then-not-same_script
unfolding and_record lines.◌>>=◌ known followed verdict first_failing counted answer is_of
returns-then-not-same_script c = grind (arith, common_steps)

pub returns : goal.returns
unfolding and_record lines.◌>>=◌ known followed verdict first_failing is_of
returns c = grind (arith, common_steps, c.add_amount.ensures of_records c.args.udt.now c.record_output-o.result.now)
