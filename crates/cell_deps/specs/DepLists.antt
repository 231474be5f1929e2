-- The four lists of deps, as functions are lent them.
use Rattle.std.specs.Prelude.{ℕ, List}
use Rattle.cell_deps.specs.declared.DepLists.{DepLists}
use Rattle.cell_deps.specs.CellDeps.{last_dep_at, own_dep_at, dep_at, dep_count, cell_deps, deps_at, placed_at}

abbrev pub last_dep_of : DepLists → ℕ → List ℕ
last_dep_of l = last_dep_at l.lock.now l.extra.now

abbrev pub own_dep_of : DepLists → ℕ → List ℕ
own_dep_of l = own_dep_at l.udt.now l.lock.now l.extra.now

-- the dep at a place
abbrev pub dep_of : DepLists → ℕ → List ℕ
dep_of l = dep_at l.present.now l.udt.now l.lock.now l.extra.now

-- how many there are
abbrev pub count_of : DepLists → ℕ
count_of l = dep_count l.present.now l.udt.now l.lock.now l.extra.now

-- each dep once, where it first stands
abbrev pub distinct_of : DepLists → List (List ℕ)
distinct_of l = cell_deps l.present.now l.udt.now l.lock.now l.extra.now

-- the deps at these places, and the one at place j of a list of places
abbrev pub chosen_of : DepLists → List ℕ → List (List ℕ)
chosen_of l = deps_at l.present.now l.udt.now l.lock.now l.extra.now

abbrev pub placed_of : DepLists → List ℕ → ℕ → List ℕ
placed_of l = placed_at l.present.now l.udt.now l.lock.now l.extra.now
