use Rattle.item_lookup.proofs.Ways.{ways}
use Rattle.item_lookup.proofs.Search.scan_item.Goals as goal

pub loop-j-preserved : goal.loop-j-preserved
loop-j-preserved c = search ways
