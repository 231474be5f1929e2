use Rattle.std.proofs.Common.{arith}
use Rattle.std.proofs.lemmas.Grind.{common_steps}
use Rattle.error.specs.Refusal.{number, values}
use Rattle.error.specs.Outcome.{check, check_with, ◌>>◌}
use Rattle.reader.proofs.TransactionLaws.{reads_version}
use Rattle.transaction_lists.specs.Found.{version_found}
use Rattle.transaction_lists.proofs.version.Goals as goal

pub returns-then-not-is_transaction : goal.returns-then-not-is_transaction
unfolding version_found check check_with ◌>>◌ number values
returns-then-not-is_transaction c = grind (arith, common_steps)

pub returns : goal.returns
unfolding version_found check check_with ◌>>◌
returns c = grind (arith, common_steps, reads_version)
