-- Readers (docs/RULES.md, "The bytes underneath": "A reader holds the transaction's bytes and a field's start"): the bytes that they hold, and the place in
-- them.
use Rattle.std.specs.Prelude.{ℕ, List}
use Rattle.std.specs.Borrow.{Bor}
use Rattle.reader.specs.Places.{field_at}
use Rattle.reader.specs.declared.Reader.{Reader}

-- the reader at the start of s
abbrev pub start_of : Bor (List ℕ) → Reader
start_of s = record { src = s; at = 0 }

-- the reader r moved to field i of the table where it stands
abbrev pub at_field : Reader → ℕ → Reader
at_field r i = record { src = r.src; at = field_at r.src.now r.at i }
