use Rattle.std.proofs.Common.{rules}
use Rattle.recorded_calls.proofs.ChangeLaws.{changes_step}
use Rattle.recorded_calls.proofs.changes.changed.Goals as goal

pub loop-preserved : goal.loop-preserved
loop-preserved c =
    changes_step _ _ _ _ _ _ _ _ _ _ _ _ _ _ c.loop-test.true c.loop.invariant c.with_whole_places-change.ensures.from c.with_whole_places-change.ensures.to c.with_whole_places-change.ensures.size
    c.part.ensures.result_value c.with_whole_places-change.ensures.bytes (search rules) c.part-rest.ensures.result_value
