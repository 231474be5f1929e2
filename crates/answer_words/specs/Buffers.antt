-- What is written at the start of a lent buffer.
use Rattle.std.specs.Prelude.{ℕ, List, length, ltb}
use Rattle.molecule.specs.Molecule.{readable}
use Rattle.transaction.specs.Ckb.{Transaction}
use Rattle.transaction_lists.specs.Lists.{list_in, item_in}
use Rattle.error.specs.Outcome.{Outcome, fine, check, ◌>>◌}

-- an item of a list of a transaction, by number and place
unfoldable pub item_found : List ℕ → ℕ → ℕ → Outcome (List ℕ)
item_found tx list i = do
  -- no transaction
  check 1 (readable Transaction tx)
  -- no such list, or no item at this place
  check 3 (ltb i (length (list_in tx list)))
  fine (item_in tx list i)
