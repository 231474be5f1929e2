-- What an iterator over the items of a dynvec has left.
use Rattle.std.specs.Prelude.{ℕ, ◌-◌, List}
use Rattle.molecule.specs.Layout.{item_of, span}
use Rattle.recorded_calls.specs.declared.items.Items.{Items}

abbrev pub items_left : Items → List (List ℕ)
items_left s = span (item_of s.list.now) s.next (s.count - s.next)
