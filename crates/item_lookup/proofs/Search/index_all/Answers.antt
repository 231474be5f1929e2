use Rattle.std.proofs.Common.{rules, length}
use Rattle.lists.proofs.LoopLaws.{among_more, among_stop}
use Rattle.item_lookup.proofs.AllLaws.{found}
use Rattle.item_lookup.proofs.Search.index_all.Goals as goal

pub returns-then-not-has : goal.returns-then-not-has
returns-then-not-has c =
    let e = found c.args.self.ours.now c.args.self.theirs.now c.args.self.size c.args.self.n c.loop-i.i (length c.args.s.now) (length c.args.t.now) c.build.new.s c.build.ensures c.requires.n_in_bounds c.requires.n_in_bounds_2 c.fix_item-x.ensures.result_value c.has.ensures in
    search (rules, among_stop)

pub loop-i-preserved : goal.loop-i-preserved
loop-i-preserved c =
    let e = found c.args.self.ours.now c.args.self.theirs.now c.args.self.size c.args.self.n c.loop-i.i (length c.args.s.now) (length c.args.t.now) c.build.new.s c.build.ensures c.requires.n_in_bounds c.requires.n_in_bounds_2 c.fix_item-x.ensures.result_value c.has.ensures in
    search (rules, among_more)
