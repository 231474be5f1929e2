-- What the functions of the account answer, in the rules' numbers (docs/RULES.md, the table's row "contribution").
use Rattle.std.specs.Prelude.{ℕ, ◌+◌, List, length}
use Rattle.units.specs.Units.{shannon_count, token_count, Figures}
use Rattle.error.specs.Outcome.{told_by}
use Rattle.transaction.specs.Tx.{tx_at}
use Rattle.rules.specs.Surplus.{added}
use Rattle.rules.specs.Judge.{unfunded, accounts, contribution}
use Rattle.rules.specs.Lines.{Ruled, known}
use Rattle.accounts.specs.declared.Brought.{Brought}
use Rattle.contribution.specs.declared.{Growth.Growth, Both.Both}

-- the growth of output 0
abbrev pub grown_by : Growth → Figures
grown_by g = record { capacity = shannon_count g.capacity; token = token_count g.token }

-- both accounts by what records bring in, where output 0 has grown by so much
abbrev pub account_of : Both → ℕ → Brought → Growth → Ruled Figures
account_of b rate brought g =
    accounts b.udt.now (unfunded (tx_at b.ours.tx.now)) (shannon_count brought.capacity) (known (told_by token_count brought.token))
    (added (tx_at b.ours.tx.now) (tx_at b.peer.tx.now)) rate (length b.peer.tx.now + 4) (grown_by g)

-- the rules' contribution by what records bring in
abbrev pub contribution_of : List ℕ → List ℕ → List ℕ → Brought → ℕ → Ruled Figures
contribution_of type ours peer brought rate =
    contribution type (tx_at ours) (tx_at peer) (shannon_count brought.capacity) (known (told_by token_count brought.token)) rate (length peer + 4)
