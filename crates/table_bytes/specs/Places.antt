-- A table of cells in bytes (ours: docs/DECISIONS.md, "Tables of cells", "A lent table is bytes of a fixed form"): its count in four bytes, then places of 48
-- bytes each.
use Rattle.std.specs.Prelude.{ℕ, ◌^◌, ◌<◌, length}
use mathlib.Core.List.{List, ◌++◌, map, flatten}
use Rattle.arithmetic.specs.LittleEndian.{to_le, u32_at, u64_at}
use Rattle.molecule.specs.Layout.{span, fix_item}
use Rattle.out_points.specs.OutPoints.{Fit, out_point_at, point_bytes}
use Rattle.table_bytes.specs.declared.{Place.Place}

-- its numbers fit their types, as in every value that code has
pub record FitPlace (p : Place) : Type 0 where
  pub point-fits : Fit p.point
  pub kind_fits : p.kind < 2 ^ 32
  pub number_fits : p.number < 2 ^ 64

-- ---- read; a number that is not there whole is 0

unfoldable pub place_at : List ℕ → Place
place_at x = record { point = out_point_at x 0; kind = u32_at x 36; number = u64_at x 40 }

-- place i of a lent table, and its first n places
unfoldable pub place_of : List ℕ → ℕ → Place
place_of s i = place_at (fix_item s 48 i)

abbrev pub places : ℕ → List ℕ → List Place
places n s = span (place_of s) 0 n

-- ---- written

unfoldable pub place_bytes : Place → List ℕ
place_bytes p = point_bytes p.point ++ to_le 4 p.kind ++ to_le 8 p.number

unfoldable pub places_bytes : List Place → List ℕ
places_bytes l = flatten (map place_bytes l)

unfoldable pub table_bytes : List Place → List ℕ
table_bytes l = to_le 4 (length l) ++ places_bytes l
