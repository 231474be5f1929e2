use Rattle.std.proofs.Common.{◌+◌, ◌<◌, length, rules, arith}
use Rattle.lists.specs.Lists.{eq_bytes}
use Rattle.lists.proofs.BlockLaws.{block_more}
use Rattle.lists.proofs.same_block.Goals as goal

pub loop-i-init : goal.loop-i-init
unfolding eq_bytes
loop-i-init g c = search rules

pub loop-i-preserved : goal.loop-i-preserved
loop-i-preserved g c =
    let p : c.args.at + c.loop-i.i < length c.args.a.now = omega arith in
    let q : c.args.at + c.loop-i.i < length c.args.b.now = omega arith in
    rw block_more (search rules)
