-- The number that stands for each list of a transaction (ours: docs/DECISIONS.md, "The C interface", "Reading by number").
use Rattle.std.specs.Prelude.{◌≡◌, ℕ, ◌≤◌, Result, MatchResult}
use Rattle.error.specs.declared.Refusal.{Refusal}
use Rattle.transaction_lists.specs.declared.ListKind.{ListKind}
use Rattle.transaction_lists.specs.declared.ListKind.TheVariants.{CellDeps, HeaderDeps, Inputs, Outputs, OutputsData, Witnesses}

abbrev pub list_number : ListKind → ℕ
list_number CellDeps = 0
list_number HeaderDeps = 1
list_number Inputs = 2
list_number Outputs = 3
list_number OutputsData = 4
list_number Witnesses = 5

-- the list with a number, or 3 where there is none
abbrev pub Decodes : ℕ → Result ListKind Refusal → Type 0
Decodes n r = MatchResult r (λ list. list_number list ≡ n) (λ e. (e ≡ Refusal.LentBytesUnreadable) × (6 ≤ n))
