use Rattle.std.proofs.Common.{arith}
use Rattle.std.proofs.lemmas.Grind.{common_steps}
use Rattle.molecule.proofs.Offsets.{span-length}
use Rattle.transaction.specs.Tx.{tx_at}
use Rattle.lists.proofs.EqualLaws.{empty-is}
use Rattle.contribution.proofs.funded.Funded.is_unfunded.Goals as goal

pub returns-then-input_count-eq0 : goal.returns-then-input_count-eq0
returns-then-input_count-eq0 c = grind (arith, common_steps, empty-is (tx_at c.args.self.tx.now).inputs, empty-is (tx_at c.args.self.tx.now).outputs, span-length)

pub returns-else-input_count-eq0 : goal.returns-else-input_count-eq0
returns-else-input_count-eq0 c = grind (arith, common_steps, empty-is (tx_at c.args.self.tx.now).inputs, span-length)
