use Rattle.std.proofs.Common.{◌≡◌, ◌-◌}
use Rattle.recorded_calls.specs.Changes.{put_changes}
use Rattle.recorded_calls.proofs.changes.put_changed.Given as goal

abbrev pub invariant-loop : goal.invariant-loop
invariant-loop l = put_changes l.room l.at l.file l.from (l.count - l.counter) l.rest ≡ put_changes l.initial.room 0 l.file 0 l.count l.changes
