use Rattle.watchtower_holds.proofs.Ways.{ways}
use Rattle.watchtower_holds.proofs.without.Goals as goal

pub mark_all-requires : goal.mark_all-requires
mark_all-requires c = search ways
