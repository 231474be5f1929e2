-- A list as the code holds what it is put together of.
use Rattle.std.specs.Prelude.{ℕ, min, List, length}
use Rattle.list_writer.specs.declared.{Lengths.Lengths, Parts.Parts}
use Rattle.list_writer.specs.ListWriter.{joined}
use Rattle.list_writer.specs.Around.{around, list_size, head_of}

-- its length and its header, by lengths
abbrev pub list_len : Lengths → ℕ
list_len l = list_size l.first l.items.list.now l.items.count l.last

abbrev pub head_in : Lengths → List ℕ
head_in l = head_of l.first l.items.list.now l.items.count l.last

-- the list in bytes, and its length
abbrev pub list_bytes : Parts → List ℕ
list_bytes p = around (joined p.first.now) p.items.list.now p.items.count (joined p.last.now)

abbrev pub size_of : Parts → ℕ
size_of p = list_size (length (joined p.first.now)) p.items.list.now p.items.count (length (joined p.last.now))

-- the lengths of its parts, as far as 133,117
abbrev pub lengths_of : Parts → Lengths
lengths_of p = record {
  first = min (length (joined p.first.now)) 133117;
  items = p.items;
  last = min (length (joined p.last.now)) 133117;
}
