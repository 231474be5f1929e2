-- What the functions inside promise one another: items of a, of k bytes each, among the first n of b.
use Rattle.std.specs.Prelude.{ℕ, ◌-◌, Bool, List}
use Rattle.molecule.specs.Layout.{span, fix_item}
use Rattle.lists.specs.Lists.{contains, contains_all}
use Rattle.item_lookup.specs.declared.Search.{Search}

-- the string x
abbrev pub is_among : List ℕ → List ℕ → ℕ → ℕ → Bool
is_among x b k n = contains x (span (fix_item b k) 0 n)

-- the items from `from` on and before m
abbrev pub are_among : List ℕ → ℕ → ℕ → List ℕ → ℕ → ℕ → Bool
are_among a from m b k n = contains_all (span (fix_item a k) from (m - from)) (span (fix_item b k) 0 n)

-- one of our items among theirs, and all of ours from `from` on
abbrev pub item_among : Search → ℕ → Bool
item_among l i = is_among (fix_item l.ours.now l.size i) l.theirs.now l.size l.n

abbrev pub rest_among : Search → ℕ → Bool
rest_among l from = are_among l.ours.now from l.m l.theirs.now l.size l.n
