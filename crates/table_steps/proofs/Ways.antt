-- What closes the goals of this crate's functions.
use Rattle.std.proofs.Common.{rules}
use Rattle.table_laws.proofs.Lent.{in_range}
use Rattle.table_steps.proofs.LentSteps.{hold-lent-done, watch-lent-done, lock-lent-done, take-lent-done}
use Rattle.table_steps.proofs.StepLaws.{hold_step, release_step, watch_step, lock_step, take_step, hold-done, watch-done, lock-done, take_done}
use Rattle.table_steps.proofs.MapSteps.{add_step, commit_step, remove_step, truncate_step, migrate_step}

pub ruleset ways = (rules, in_range, hold-lent-done, watch-lent-done, lock-lent-done, take-lent-done, hold_step, release_step, watch_step, lock_step, take_step, hold-done, watch-done, lock-done, take_done, add_step, commit_step, remove_step, truncate_step, migrate_step)
