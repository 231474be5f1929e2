use Rattle.std.proofs.Common.{◌/◌, length, sym, ◌∙◌, arith}
use Rattle.item_index.specs.Keys.{keys_of}
use Rattle.item_index.proofs.SortLaws.{sorted_same, sorted_rises, merged_same}
use Rattle.item_index.proofs.Keys.+sort.Goals as goal

pub returns-then-comes_first-clause-same : goal.returns-then-comes_first-clause-same
returns-then-comes_first-clause-same t c =
    let m = length c.args.s.now / 2 in
    merged_same c.args.s.now c.sort.new.s c.sort-2.new.s m (omega arith) c.sort.ensures.same c.sort-2.ensures.same c.split_at.ensures.front c.split_at.ensures.back c.merge.ensures.same c.copy_back.ensures

pub returns-else-comes_first-clause-same : goal.returns-else-comes_first-clause-same
returns-else-comes_first-clause-same t c =
    let m = length c.args.s.now / 2 in
    sorted_same c.args.s.now c.sort.new.s c.sort-2.new.s m (omega arith) c.sort.ensures.same c.sort-2.ensures.same

pub returns-else-comes_first-clause-order : goal.returns-else-comes_first-clause-order
returns-else-comes_first-clause-order t c =
    let m = length c.args.s.now / 2 in
    sorted_rises c.args.s.now c.sort.new.s c.sort-2.new.s m (omega arith) c.sort.ensures.same c.sort-2.ensures.same (keys_of c.args.self) (omega arith) (omega arith) c.sort.ensures.order c.sort-2.ensures.order
    (sym c.comes_first.ensures ∙ c.if-comes_first.false)
