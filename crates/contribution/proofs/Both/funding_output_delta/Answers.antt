use Rattle.std.proofs.Common.{arith}
use Rattle.std.proofs.lemmas.Grind.{common_steps}
use Rattle.arithmetic.specs.Amount.{difference}
use Rattle.error.specs.Refusal.{number, values}
use Rattle.error.specs.Outcome.{check, check_with, ◌>>◌, ◌>>=◌}
use Rattle.lists.proofs.EqualLaws.{empty-is}
use Rattle.contribution.proofs.AccountLaws.{delta_steps}
use Rattle.contribution.proofs.Both.funding_output_delta.Goals as goal

pub returns-then-not-has_first : goal.returns-then-not-has_first
unfolding check check_with ◌>>◌ number values
returns-then-not-has_first c =
    grind (arith, common_steps, delta_steps)

pub returns-in_err-capacity : goal.returns-in_err-capacity
unfolding check check_with ◌>>◌ number values difference
returns-in_err-capacity c =
    grind (arith, common_steps, delta_steps)

pub returns-then-is_empty : goal.returns-then-is_empty
unfolding check check_with ◌>>◌ ◌>>=◌ number values difference
returns-then-is_empty c =
    grind (arith, common_steps, delta_steps, empty-is c.args.self.udt.now)

pub returns-in_err-token : goal.returns-in_err-token
unfolding check check_with ◌>>◌ ◌>>=◌ number values difference
returns-in_err-token c =
    grind (arith, common_steps, delta_steps, empty-is c.args.self.udt.now)

pub returns : goal.returns
unfolding check check_with ◌>>◌ ◌>>=◌ number values difference
returns c =
    grind (arith, common_steps, delta_steps, empty-is c.args.self.udt.now)
