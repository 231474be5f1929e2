use Rattle.recorded_calls.proofs.ChangeLaws.{put_changes_step, changes_done}
use Rattle.recorded_calls.proofs.changes.put_changed.Goals as goal

pub loop-preserved : goal.loop-preserved
loop-preserved c =
    put_changes_step _ _ _ _ _ _ _ _ _ _ _ _ _ _ _ _ _ _ c.loop-test.true c.loop.invariant c.from-change.ensures.from c.from-change.ensures.to c.from-change.ensures.size
    c.part.ensures.result_value c.from-change.ensures.bytes c.put-at.ensures.out_after c.put-at.ensures.value c.put-at-in-loop.ensures.out_after
    c.put-at-in-loop.ensures.value c.part-rest.ensures.result_value

pub returns-clause-whole : goal.returns-clause-whole
returns-clause-whole c =
    changes_done _ _ _ _ _ _ _ _ _ _ _ _ c.loop-test.false c.loop.invariant c.part-2.ensures.result_value c.put.ensures.out_after c.put.ensures.value
