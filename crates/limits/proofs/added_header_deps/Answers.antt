use Rattle.std.proofs.Common.{◌∙◌, sym, length}
use Rattle.molecule.proofs.Offsets.{span-length}
use Rattle.transaction.specs.Tx.{tx_at}
use Rattle.limits.proofs.added_header_deps.Goals as goal

pub returns : goal.returns
returns c = c.added.ensures (λ s. length (tx_at s).header_deps) (λ s r e. e ∙ sym (span-length _ 0 _))
