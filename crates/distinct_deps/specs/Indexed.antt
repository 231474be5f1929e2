-- The four lists of deps, as the code holds them with their indexes.
use Rattle.cell_deps.specs.declared.DepLists.{DepLists}
use Rattle.distinct_deps.specs.declared.IndexedLists.{IndexedLists}

abbrev pub deps_in : IndexedLists → DepLists
deps_in d = record { present = d.present.list; udt = d.udt.list; lock = d.lock; extra = d.extra.list }
