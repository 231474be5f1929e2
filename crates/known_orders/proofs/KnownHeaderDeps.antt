-- Every row about header deps is what the definitions compute.
use mathlib.Core.Path.{refl}
use Rattle.known_orders.specs.HeaderDeps.{header_deps}
use Rattle.case_parts.specs.Rows.{AllRight}
use Rattle.case_parts.proofs.Rows.{◌and◌, done}
use Rattle.known_cases.proofs.Computing.{computing_updates}

pub known_header_deps : AllRight header_deps
unfolding computing_updates
known_header_deps =
    refl and refl and refl and refl and refl and refl and refl and refl and refl and refl and refl and refl and refl
    and refl and refl and refl and refl and refl and refl and refl and refl and refl and refl and refl and refl and refl
    and refl and refl and refl and refl and refl and refl and refl and refl and refl and refl and refl and refl and refl
    and refl and refl and done
