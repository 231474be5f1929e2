-- The laws of lists of calls on a table of holds, for successive lent bytes.
use Prim.Native.Nat.{ℕ, zero, suc}
use native.Mathlib.Omega.{arith}
use mathlib.Core.List.{List, [], ◌∷◌, map}
use lib.ListN.{take, replicate, length-take, length-map}
use Rattle.arithmetic.specs.LittleEndian.{AllBytes}
use Rattle.molecule.specs.{Layout.word, Partial.All}
use Rattle.molecule.proofs.Offsets.{span-length}
use Rattle.out_points.specs.OutPoints.{Fit}
use Rattle.hold_records.specs.Holds.{records_of, cells_of}
use Rattle.table_bytes.specs.declared.{Place.Place}
use Rattle.table_bytes.specs.Places.{FitPlace, place_of, places}
use Rattle.table_bytes.proofs.AgainLaws.{places-fit}
use Rattle.held_bytes.specs.HeldBytes.{hold_of, held_of, held_at, held_table}
use Rattle.held_bytes.proofs.BytesLaws.{held-zeros}
use Rattle.table_laws.specs.Holds.{Reached, empty, InRange, OneEach, HeldRefused, HeldStands, LockedRefused, StaysHeld, HeldOnce}
use Rattle.table_laws.proofs.Holds.{each_once}
use Rattle.table_laws.proofs.Given.{refuses_held, leaves-held, refuses_locked, holds_on, holds_once}

-- ---- any bytes of a lent slice are in range, and calls may begin with zeros

points-fit : (n : ℕ) (l : List Place) → All FitPlace l → All Fit (cells_of (take n (map hold_of l)))
unfolding hold_of
points-fit zero l a = tt
points-fit (suc n) [] a = tt
points-fit (suc n) (p ∷ l) a = (a.0.point-fits, points-fit n l a.1)

pub in_range : (s : List ℕ) → AllBytes s → InRange (held_at s)
unfolding held_at held_of records_of
in_range s b = record {
  few = let l = length-take (word s 0) (map hold_of (places 256 s)) in let m = length-map (places 256 s) hold_of in let n = span-length (place_of s) 0 256 in omega arith;
  fit = points-fit (word s 0) (places 256 s) (places-fit s 0 256 b);
}

pub zeros_reached : Reached held_table (replicate 12292 0)
unfolding held_at
zeros_reached = empty held-zeros

-- ---- the laws

pub one_each : OneEach held_table
one_each = each_once

pub held-refused : HeldRefused held_table
held-refused = refuses_held

pub held-stands : HeldStands held_table
held-stands = leaves-held

pub locked-refused : LockedRefused held_table
locked-refused = refuses_locked

pub stays_held : StaysHeld held_table
stays_held = holds_on

pub held_once : HeldOnce held_table
held_once = holds_once
