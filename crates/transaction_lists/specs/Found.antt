-- What a transaction is asked for by number, and why it is refused (ours: docs/DECISIONS.md, "The C interface", "Reading by number"; the numbers are those of
-- the table in docs/RULES.md, "A peer's update arrives": 1 "our bytes unreadable", 3 for what is lent and is not in its form).
use Rattle.std.specs.Prelude.{ℕ, List}
use lib.{Dec.ltb, ListN.length}
use Rattle.molecule.specs.Molecule.{readable}
use Rattle.transaction.specs.Ckb.{Transaction}
use Rattle.transaction.specs.Tx.{tx_at}
use Rattle.error.specs.Outcome.{Outcome, fine, check, ◌>>◌}
use Rattle.transaction_lists.specs.Lists.{list_in}

unfoldable pub version_found : List ℕ → Outcome ℕ
version_found tx = do
  -- no transaction
  check 1 (readable Transaction tx)
  fine (tx_at tx).version

-- how many items a list has
unfoldable pub count_found : List ℕ → ℕ → Outcome ℕ
count_found tx list = do
  -- no transaction
  check 1 (readable Transaction tx)
  -- no such list
  check 3 (ltb list 6)
  fine (length (list_in tx list))
