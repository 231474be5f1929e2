use Rattle.std.proofs.Common.{arith}
use Rattle.std.proofs.lemmas.Grind.{common_steps}
use Rattle.error.specs.Refusal.{number, values}
use Rattle.error.specs.Outcome.{check, check_with, ◌>>◌, ◌>>=◌}
use Rattle.lists.proofs.EqualLaws.{whole}
use Rattle.funding_tx.proofs.VerdictLaws.{opening_steps, against_steps}
use Rattle.funding_tx.proofs.judge_against.Goals as goal

pub returns-then-not-is_transaction : goal.returns-then-not-is_transaction
unfolding check check_with ◌>>◌ ◌>>=◌ number values
returns-then-not-is_transaction c = grind (arith, common_steps, whole, opening_steps, against_steps)

pub returns-then-not-are_scripts : goal.returns-then-not-are_scripts
unfolding check check_with ◌>>◌ ◌>>=◌ number values
returns-then-not-are_scripts c = grind (arith, common_steps, whole, opening_steps, against_steps)

pub returns-then-not-validate_peer_funding_tx_complexity : goal.returns-then-not-validate_peer_funding_tx_complexity
unfolding check check_with ◌>>◌ ◌>>=◌ number values
returns-then-not-validate_peer_funding_tx_complexity c = grind (arith, common_steps, whole, opening_steps, against_steps)

pub returns-then-not-keeps_ours : goal.returns-then-not-keeps_ours
unfolding check check_with ◌>>◌ ◌>>=◌ number values
returns-then-not-keeps_ours c = grind (arith, common_steps, whole, opening_steps, against_steps)

pub returns-in_err-brought : goal.returns-in_err-brought
unfolding check check_with ◌>>◌ ◌>>=◌ number values
returns-in_err-brought c = grind (arith, common_steps, whole, opening_steps, against_steps)

pub returns : goal.returns
unfolding check check_with ◌>>◌ ◌>>=◌ number values
returns c = grind (arith, common_steps, whole, opening_steps, against_steps)
