use Rattle.hold_records.proofs.LimitLaws.{over-is}
use Rattle.watchtower_holds.proofs.HintLaws.{go_none, go_last, go_there, go_on}
use Rattle.watchtower_holds.proofs.renew_from.Goals as goal

pub returns-then-last-ge-MOST_RECORDS-clause-held_value : goal.returns-then-last-ge-MOST_RECORDS-clause-held_value
returns-then-last-ge-MOST_RECORDS-clause-held_value c = over-is _ (go_none c.loop-i.invariant c.loop-i-test.true c.point_of-point.ensures c.first-k.ensures c.if-last-k.true c.if-last-ge-MOST_RECORDS.true)

pub loop-i-preserved-then-last-k : goal.loop-i-preserved-then-last-k
loop-i-preserved-then-last-k c = go_last c.loop-i.invariant c.loop-i-test.true c.point_of-point.ensures c.first-k.ensures c.if-last-k.true c.if-last-ge-MOST_RECORDS.false c.note.ensures

pub loop-i-preserved-then-tower_on : goal.loop-i-preserved-then-tower_on
loop-i-preserved-then-tower_on c = go_there c.loop-i.invariant c.loop-i-test.true c.point_of-point.ensures c.first-k.ensures _ c.if-last-k.false c.tower_on.ensures c.if-tower_on.true

pub loop-i-preserved : goal.loop-i-preserved
loop-i-preserved c = go_on c.loop-i.invariant c.loop-i-test.true c.point_of-point.ensures c.first-k.ensures c.tower_place-at.ensures c.if-last-k.false c.if-at-ge-MOST_RECORDS.false c.counted.ensures c.note-in-loop-i.ensures
