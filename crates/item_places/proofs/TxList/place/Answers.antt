use Rattle.item_places.proofs.Ways.{ways}
use Rattle.item_places.proofs.TxList.place.Goals as goal

pub returns-in-CellDeps : goal.returns-in-CellDeps
returns-in-CellDeps c = search ways

pub returns-in-HeaderDeps : goal.returns-in-HeaderDeps
returns-in-HeaderDeps c = search ways

pub returns-in-Inputs : goal.returns-in-Inputs
returns-in-Inputs c = search ways

pub returns-in-Outputs : goal.returns-in-Outputs
returns-in-Outputs c = search ways

pub returns-in-OutputsData : goal.returns-in-OutputsData
returns-in-OutputsData c = search ways

pub returns-in-Witnesses : goal.returns-in-Witnesses
returns-in-Witnesses c = search ways
