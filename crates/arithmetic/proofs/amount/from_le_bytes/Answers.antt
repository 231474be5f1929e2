use Rattle.arithmetic.proofs.AmountLaws.{amount_is}
use Rattle.arithmetic.proofs.amount.from_le_bytes.Goals as goal

pub returns : goal.returns
returns c = amount_is c.args.s.now c.in_ok-bytes.ensures.cases c.from_le_bytes.ensures
