-- Where the items of a list of a transaction stand (ours: docs/DECISIONS.md, "The C interface", "Reading by number").
use Rattle.std.specs.Prelude.{◌≡◌, ℕ, ◌+◌, ◌*◌, ◌≤◌}
use mathlib.Core.List.{List, [], ◌∷◌, flatten}
use lib.{Dec.leb, ListN.length}
use Rattle.molecule.specs.Layout.{span, part, part_start, field_of, field_start, fix_item, fix_start, item_of, item_start, entry_of, entry_start}
use Rattle.transaction.specs.Tx.{raw_field, raw_start}
use Rattle.error.specs.Outcome.{Outcome, fine, check, ◌>>=◌, ◌>>◌, putting}
use Rattle.transaction_lists.specs.Lists.{item_in, place_in_bytes}
use Rattle.transaction_lists.specs.Found.{count_found}
use Rattle.item_places.specs.declared.Place.{Place}

-- p is the place of f in s, which is at a
pub record At (s f : List ℕ) (a : ℕ) (p : Place) : Type 0 where
  pub starts : p.start ≡ a
  pub long : p.len ≡ length f
  pub within : a + length f ≤ length s

-- p is the place in s of the bytes between two ends, of item i of n, of item i of a list of items of k bytes and of one of unsized items, and of its content
abbrev pub PartAt : List ℕ → ℕ → ℕ → Place → Type 0
PartAt s from to p = At s (part s from to) (part_start s from to) p

abbrev pub FieldAt : List ℕ → ℕ → ℕ → Place → Type 0
FieldAt s n i p = At s (field_of s n i) (field_start s n i) p

abbrev pub FixAt : List ℕ → ℕ → ℕ → Place → Type 0
FixAt s k i p = At s (fix_item s k i) (fix_start s k i) p

abbrev pub ItemAt : List ℕ → ℕ → Place → Type 0
ItemAt s i p = At s (item_of s i) (item_start s i) p

abbrev pub EntryAt : List ℕ → ℕ → Place → Type 0
EntryAt s i p = At s (entry_of s i) (entry_start s i) p

-- and in a transaction, of field j of the raw one, and of item i of a list by number
abbrev pub RawAt : List ℕ → ℕ → Place → Type 0
RawAt tx j p = At tx (raw_field tx j) (raw_start tx j) p

abbrev pub AnItemIn : List ℕ → ℕ → ℕ → Place → Type 0
AnItemIn tx list i p = At tx (item_in tx list i) (place_in_bytes tx list i) p

-- the place of a part of a part
abbrev pub onward : Place → Place → Place
onward outer inner = record { start = outer.start + inner.start; len = inner.len }

-- two words for an item: where in the transaction's bytes it starts, and how many bytes it has
abbrev pub place_words : List ℕ → ℕ → ℕ → List ℕ
place_words tx list i = place_in_bytes tx list i ∷ length (item_in tx list i) ∷ []

-- those of the first n items
abbrev pub places_of : List ℕ → ℕ → ℕ → List (List ℕ)
places_of tx list n = span (place_words tx list) 0 n

-- those of all items, or why there are none; `room` is how many words are lent
unfoldable pub places_found : List ℕ → ℕ → ℕ → Outcome (List (List ℕ))
places_found tx list room = do
  -- no transaction, no such list
  n ← count_found tx list
  -- fewer than two words for each
  check 13 (leb (2 * n) room)
  fine (places_of tx list n)

-- a call that lists these places: how many there are, and the buffer after it
abbrev pub listed : Outcome (List (List ℕ)) → List ℕ → Outcome ℕ × List ℕ
listed found out = putting length flatten found out
