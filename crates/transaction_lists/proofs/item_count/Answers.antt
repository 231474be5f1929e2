use Rattle.std.proofs.Common.{arith}
use Rattle.std.proofs.lemmas.Grind.{common_steps}
use Rattle.error.specs.Refusal.{number, values}
use Rattle.error.specs.Outcome.{check, check_with, ◌>>◌}
use Rattle.transaction_lists.specs.Found.{count_found}
use Rattle.transaction_lists.proofs.item_count.Goals as goal

pub returns-then-not-is_transaction : goal.returns-then-not-is_transaction
unfolding count_found check check_with ◌>>◌ number values
returns-then-not-is_transaction c = grind (arith, common_steps)

pub returns-in_err-kind : goal.returns-in_err-kind
unfolding count_found check check_with ◌>>◌ number values
returns-in_err-kind c = grind (arith, common_steps)

pub returns : goal.returns
unfolding count_found check check_with ◌>>◌
returns c = grind (arith, common_steps)
