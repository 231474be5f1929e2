-- The keys of a list's items, as functions are lent them.
use Rattle.std.specs.Prelude.{ℕ, List}
use Rattle.item_index.specs.declared.Keys.{Keys}
use Rattle.item_index.specs.Index.{key_of}

-- the key of item i
abbrev pub keys_of : Keys → ℕ → List ℕ
keys_of k = key_of k.items.now k.size k.skip
