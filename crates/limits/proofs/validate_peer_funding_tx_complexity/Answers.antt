use Rattle.limits.proofs.Ways.{ways}
use Rattle.limits.proofs.validate_peer_funding_tx_complexity.Goals as goal

pub returns : goal.returns
returns c = search ways
