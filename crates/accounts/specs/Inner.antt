-- What functions of this crate answer inside; no entry's contract cites it.
use Rattle.std.specs.Prelude.{ℕ, List}
use Rattle.transaction.specs.Cells.{Cell}
use Rattle.rules.specs.Judge.{of_records, counted}
use Rattle.rules.specs.Lines.{Ruled, ◌>>=◌}

-- a sum of tokens, if there is one so far, with those of one more record
unfoldable pub and_record : List ℕ → Ruled ℕ → Cell → Ruled ℕ
and_record type paid c = do
  sum ← paid
  counted of_records type sum c
