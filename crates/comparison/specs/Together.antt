-- Lines of the comparison (docs/RULES.md, the table's row "comparison") that read one list of each transaction, and that one function answers.
use Rattle.std.specs.Prelude.{ℕ, Bool, ◌&&◌, List, length, drop, leb}
use Rattle.lists.specs.Lists.{agree, contains_all}
use Rattle.transaction.specs.Cells.{Cell}
use Rattle.rules.specs.Surplus.{is_of}
use Rattle.rules.specs.Judge.{at_first, has_lock, no_data_untyped}

-- none fewer, and none of ours missing
unfoldable pub none_missing : List (List ℕ) → List (List ℕ) → Bool
none_missing ours peer = leb (length ours) (length peer) && contains_all ours peer

-- none fewer, and each after 0 as ours
unfoldable pub kept_after_first : List (List ℕ) → List (List ℕ) → Bool
kept_after_first ours peer = leb (length ours) (length peer) && agree (drop 1 ours) (drop 1 peer)

-- output 0, if present, has the expected lock and type, and no data where it is untyped
unfoldable pub funding_cell_first : List ℕ → List ℕ → List Cell → Bool
funding_cell_first lock type cs = at_first (has_lock lock) cs && (at_first (is_of type) cs && at_first (no_data_untyped type) cs)
