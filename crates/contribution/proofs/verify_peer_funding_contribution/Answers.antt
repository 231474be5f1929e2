use Rattle.std.proofs.Common.{arith}
use Rattle.std.proofs.lemmas.Grind.{common_steps}
use Rattle.lists.proofs.EqualLaws.{whole}
use Rattle.error.specs.Outcome.{◌>>=◌}
use Rattle.contribution.proofs.AccountLaws.{contribution_steps}
use Rattle.contribution.proofs.verify_peer_funding_contribution.Goals as goal

pub returns-in_err-growth : goal.returns-in_err-growth
unfolding ◌>>=◌
returns-in_err-growth c = grind (arith, common_steps, whole, contribution_steps)

pub returns : goal.returns
unfolding ◌>>=◌
returns c = grind (arith, common_steps, whole, contribution_steps)
