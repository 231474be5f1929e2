use Rattle.distinct_deps.proofs.DistinctLaws.{gather_start, gather_old, gather_new}
use Rattle.distinct_deps.proofs.Ways.{ways}
use Rattle.distinct_deps.proofs.IndexedLists.gather.Goals as goal
use Rattle.distinct_deps.proofs.IndexedLists.gather.Goals.{then-is_new+else-places-count, else-is_new}

pub loop-i-preserved : goal.loop-i-preserved
loop-i-preserved c =
    let k = c.loop-i.invariant in
    elim c.if-is_new.branch [
      | then-is_new+else-places-count w ↦ rw (w.places-is, w.count-is) (gather_new _ _ _ _ k c.loop-i-test.true c.is_new.ensures w.if-is_new.true w.if-places-count.false)
      | else-is_new w ↦ rw (w.places-is, w.count-is) (gather_old _ _ _ _ k c.loop-i-test.true c.is_new.ensures w.if-is_new.false)
    ]

pub loop-i-init : goal.loop-i-init
loop-i-init c = gather_start _ _ _ _ _ (rw c.lists.ensures at c.dep_count-i-end.ensures)

pub returns-then-places-count : goal.returns-then-places-count
returns-then-places-count c = search ways

pub returns : goal.returns
returns c = search ways
