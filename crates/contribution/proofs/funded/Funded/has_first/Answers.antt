use Rattle.std.proofs.Common.{arith}
use Rattle.std.proofs.lemmas.Grind.{common_steps}
use Rattle.molecule.proofs.Offsets.{span-length}
use Rattle.transaction.specs.Tx.{tx_at}
use Rattle.lists.proofs.EqualLaws.{empty-is}
use Rattle.contribution.proofs.funded.Funded.has_first.Goals as goal

pub returns-then-item_count-ne0 : goal.returns-then-item_count-ne0
returns-then-item_count-ne0 c = grind (arith, common_steps, empty-is (tx_at c.args.self.tx.now).outputs, empty-is (tx_at c.args.self.tx.now).outputs_data, span-length)

pub returns-else-item_count-ne0 : goal.returns-else-item_count-ne0
returns-else-item_count-ne0 c = grind (arith, common_steps, empty-is (tx_at c.args.self.tx.now).outputs, span-length)
