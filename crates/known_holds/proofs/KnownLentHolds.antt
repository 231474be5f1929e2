-- Every row is what the definitions compute.
use mathlib.Core.Path.{refl}
use Rattle.hold_records.specs.declared.{Taker.Taker}
use Rattle.case_parts.specs.Rows.{AllRight}
use Rattle.case_parts.specs.Parts.{point, room}
use Rattle.case_parts.proofs.Rows.{◌and◌, done}
use Rattle.known_holds.specs.Holds.{A, B, of1, of2, none}
use Rattle.known_holds.specs.LentHolds.{funded, watched, released, locked, naming, taken}
use Rattle.known_holds.proofs.Computing.{computing}
use Rattle.known_holds.proofs.ZerosLaws.{hold-zeros, watch-zeros, release-zeros, lock-zeros, named-zeros, takes-zeros}

pub known_funded : AllRight funded
unfolding computing
known_funded = refl and refl and refl and refl and refl and hold-zeros 256 1 (of1 A) and done

pub known_watched : AllRight watched
unfolding computing
known_watched = refl and refl and refl and refl and refl and refl and watch-zeros 255 (of1 A) 1000 and watch-zeros 256 (of1 A) 1000 and watch-zeros 257 (of1 A) 1000 and done

pub known_released : AllRight released
unfolding computing
known_released = refl and refl and refl and release-zeros 257 (of1 A) and refl and refl and refl and done

pub known_locked : AllRight locked
unfolding computing
known_locked = refl and refl and refl and lock-zeros 257 1000 (room 9220) and refl and refl and lock-zeros 257 1000 (room 9219) and refl and refl and done

pub known_named : AllRight naming
unfolding computing
known_named = refl and refl and named-zeros 257 (of2 A (point 0)) none 1000 (room 40) and refl and refl and refl and refl and refl and done

pub known_taken : AllRight taken
unfolding computing
known_taken =
    refl
    and refl
    and refl
    and takes-zeros 255 (of1 A) none (Taker.Funding 1) 1000 (room 40) (room 4)
    and takes-zeros 255 (of2 A B) none (Taker.Funding 1) 1000 (room 76) (room 4)
    and takes-zeros 257 (of1 A) none (Taker.Funding 1) 1000 (room 40) (room 4)
    and refl
    and refl
    and refl
    and refl
    and refl
    and refl
    and refl
    and done
