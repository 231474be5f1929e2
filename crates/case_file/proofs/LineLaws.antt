-- The line that was written lies within the buffer.
use mathlib.Core.Path.{◌≡◌}
use Prim.Native.Nat.{ℕ, ◌≤◌}
use mathlib.Core.List.{List}
use native.Mathlib.Omega.{arith}
use lib.ListN.{length, length-append}
use Rattle.molecule.specs.Write.{splice}
use Rattle.molecule.proofs.WriteLaws.{splice_zero}

pub line-within : (line xs : List ℕ) {after : List ℕ} {n : ℕ} → after ≡ splice line 0 xs → n ≡ length xs → n ≤ length after
line-within line xs e h = rw (e, splice_zero, length-append) (omega arith)
