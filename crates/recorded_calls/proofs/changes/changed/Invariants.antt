use Rattle.std.proofs.Common.{◌≡◌, ◌-◌, ◌++◌}
use Rattle.recorded_calls.specs.Changes.{changed_from}
use Rattle.recorded_calls.proofs.changes.changed.Given as goal

abbrev pub invariant-loop : goal.invariant-loop
invariant-loop l = l.copy.items ++ changed_from l.file l.next (l.count - l.counter) l.rest ≡ changed_from l.file 0 l.count l.changes
