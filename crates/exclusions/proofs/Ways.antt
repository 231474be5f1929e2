-- What closes the goals of the calls.
use Rattle.std.proofs.Common.{rules}
use Rattle.exclusions.proofs.EnterLaws.{read_yes, enter_many, enter_full, enter_done}
use Rattle.exclusions.proofs.CallLaws.{tx_bad, tx_read, add_bad, add_none, add_done, remove_bad, remove-done, truncate-done, migrate_bad_old, migrate_bad_new, none_done, migrate_unknown, migrate-done}
use Rattle.exclusion_entries.proofs.LentLaws.{lent_bad}
use Rattle.exclusion_entries.proofs.StayLaws.{told_good, stays_few, points-few}

pub ruleset ways = (rules, read_yes, enter_many, enter_full, enter_done, tx_bad, tx_read, lent_bad, add_bad, add_none, add_done, remove_bad, remove-done, truncate-done, migrate_bad_old, migrate_bad_new, none_done, migrate_unknown, migrate-done, told_good, stays_few, points-few)
