use Rattle.std.proofs.Common.{◌≡◌, arith, Some}
use Rattle.udt_cells.proofs.Ways.{ways}
use Rattle.udt_cells.proofs.PickLaws.{pick-enough}
use Rattle.udt_cells.proofs.pick.Goals as goal

pub returns-in-Some : goal.returns-in-Some
returns-in-Some c = search ways

pub returns : goal.returns
returns c =
    let e : c.item_count-n.result ≡ c.loop-taken.taken = omega arith in
    let s : c.checked_sub-2.result ≡ Some c.in_ok-change.change = grind arith in
    rw e (pick-enough c.loop-taken.invariant c.checked_sub-2.ensures s)
