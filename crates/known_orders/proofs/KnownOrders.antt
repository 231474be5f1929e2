-- Every row is what the definitions compute.
use mathlib.Core.Path.{refl}
use Rattle.known_orders.specs.Orders.{orders}
use Rattle.case_parts.specs.Rows.{AllRight}
use Rattle.case_parts.proofs.Rows.{◌and◌, done}
use Rattle.known_cases.proofs.Computing.{computing_updates}

pub known_orders : AllRight orders
unfolding computing_updates
known_orders =
    refl and refl and refl and refl and refl and refl and refl and refl and refl and refl and refl and refl and refl and refl
    and refl and refl and refl and refl and refl and refl and refl and refl and refl and refl and refl and refl and refl
    and refl and refl and refl and refl and refl and refl and refl and refl and refl and refl and refl and refl and refl
    and refl and refl and refl and refl and refl and refl and refl and refl and refl and refl and refl and refl and refl and refl and refl and refl and done
