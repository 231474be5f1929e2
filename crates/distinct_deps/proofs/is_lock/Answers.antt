use Rattle.distinct_deps.proofs.DistinctLaws.{lock-none, lock-is}
use Rattle.distinct_deps.proofs.is_lock.Goals as goal

pub returns-then-not-is_empty : goal.returns-then-not-is_empty
returns-then-not-is_empty c = lock-is c.args.lock.now c.args.x.now c.is_empty.ensures c.if-not-is_empty.true c.same.ensures

pub returns-else-not-is_empty : goal.returns-else-not-is_empty
returns-else-not-is_empty c = lock-none c.args.lock.now c.args.x.now c.is_empty.ensures c.if-not-is_empty.false
