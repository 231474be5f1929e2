use Rattle.std.proofs.Common.{rules, arith}
use Rattle.item_index.specs.Keys.{keys_of}
use Rattle.item_index.proofs.FindLaws.{place_none, place_other, place_here}
use Rattle.item_index.proofs.Keys.place_of.Goals as goal

pub returns-then-at-s : goal.returns-then-at-s
returns-then-at-s c = λ o. place_none (keys_of c.args.self) c.args.s.now c.args.x.now o c.partition_point-at.ensures.partitioned (λ a r q k. search rules) c.if-at-s.true

pub returns-then-same : goal.returns-then-same
returns-then-same c = λ o. place_here (keys_of c.args.self) c.args.s.now c.args.x.now o c.partition_point-at.ensures.partitioned (λ a r q k. search rules) (omega arith) c.key.ensures c.same.ensures c.if-same.true

pub returns-else-same : goal.returns-else-same
returns-else-same c = λ o. place_other (keys_of c.args.self) c.args.s.now c.args.x.now o c.partition_point-at.ensures.partitioned (λ a r q k. search rules) (omega arith) c.key.ensures c.same.ensures c.if-same.false
