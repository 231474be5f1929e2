-- The choice of the distinct deps of four lists.
use Rattle.std.specs.Prelude.{ℕ, ◌≤◌, ◌<◌, List, Option, Some, None, length}
use Rattle.cell_deps.specs.declared.DepLists.{DepLists}
use Rattle.cell_deps.specs.CellDeps.{Chooses}
use Rattle.cell_deps.specs.DepLists.{distinct_of}

-- how many there are, and their places; nothing exactly where there are more than there is room for
abbrev pub ChoosesOf : DepLists → ℕ → List ℕ → Option ℕ → Type 0
ChoosesOf l room places (Some n) = (n ≤ room) × Chooses l.present.now l.udt.now l.lock.now l.extra.now room places n
ChoosesOf l room places None = room < length (distinct_of l)
