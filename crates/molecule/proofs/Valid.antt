-- The types that a schema of RFC 0008 may use: what the laws of reading and writing ask of a type. No contract cites this.
use mathlib.Core.Bool.{Bool, true, false, not, ◌&&◌}
use Prim.Native.Nat.{◌*◌}
use lib.Dec.{ltb}
use Rattle.molecule.specs.Molecule.{Ty, byte, array, struct, fixvec, dynvec, table, option, Fields, end, ◌&◌, size, sizes}

-- Which types a schema may use: the parts of arrays, structs and fixvecs have a fixed size, a fixvec's items and what is optional have bytes.
unfoldable mutual
  pub fixed : Ty → Bool
  fixed byte = true
  fixed (array t n) = fixed t
  fixed (struct ts) = all_fixed ts
  fixed (fixvec t) = false
  fixed (dynvec t) = false
  fixed (table ts) = false
  fixed (option t) = false

  pub all_fixed : Fields → Bool
  all_fixed end = true
  all_fixed (t & ts) = fixed t && all_fixed ts

unfoldable pub has_bytes : Ty → Bool
has_bytes byte = true
has_bytes (array t n) = ltb 0 (n * size t)
has_bytes (struct ts) = ltb 0 (sizes ts)
has_bytes (fixvec t) = true
has_bytes (dynvec t) = true
has_bytes (table ts) = true
has_bytes (option t) = false

unfoldable mutual
  pub valid : Ty → Bool
  valid byte = true
  valid (array t n) = fixed t
  valid (struct ts) = all_fixed ts
  valid (fixvec t) = fixed t && has_bytes t
  valid (dynvec t) = not (fixed t) && valid t
  valid (table ts) = all_valid ts
  valid (option t) = has_bytes t && valid t

  pub all_valid : Fields → Bool
  all_valid end = true
  all_valid (t & ts) = valid t && all_valid ts
