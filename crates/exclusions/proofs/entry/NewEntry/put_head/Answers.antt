use Rattle.exclusions.proofs.EntryWays.{ways}
use Rattle.exclusions.proofs.entry.NewEntry.put_head.Goals as goal

pub returns-clause-put : goal.returns-clause-put
returns-clause-put c = search ways
