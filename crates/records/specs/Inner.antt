-- What functions of this crate answer inside; no entry's contract cites it.
use Rattle.std.specs.Prelude.{ℕ, List}
use Rattle.error.specs.declared.Refusal.{Refusal}
use Rattle.error.specs.Outcome.{Outcome, fine, check, ◌>>◌, refusal}
use Rattle.rules.specs.Records.{LentRecords}
use Rattle.rules.specs.Lines.{verdict}
use Rattle.rules.specs.Judge.{live, live_cells}
use Rattle.records.specs.Resolved.{Brought, brought}

-- what records bring in whatever their number; the first is of input i among all
unfoldable pub gathered : List ℕ → List ℕ → ℕ → LentRecords → Outcome Brought
gathered source type i lent = do
  check 3 lent.readable
  verdict (live source i lent.records)
  fine (brought type (live_cells lent.records))

-- a refusal by a record, but 3 where one of them is unreadable
unfoldable pub or_unreadable : Refusal → LentRecords → Outcome Brought
or_unreadable e lent = do
  check 3 lent.readable
  refusal e
