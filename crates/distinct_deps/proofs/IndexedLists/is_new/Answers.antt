use Rattle.std.proofs.Common.{arith}
use Rattle.distinct_deps.proofs.DistinctLaws.{dep-rest, own_rest, dep_past, own_new, own_past, last_extra_new}
use Rattle.distinct_deps.proofs.IndexedLists.is_new.Goals as goal

pub returns-in_default-checked_sub : goal.returns-in_default-checked_sub
returns-in_default-checked_sub c =
    let m = c.in-Some.ensures in
    let less = c.in_default-checked_sub.ensures in
    let x = rw c.lists.ensures at c.dep_at-x.ensures in
    let own = dep-rest _ _ _ _ _ c.fix_count.ensures m.0 m.1 x in
    dep_past _ _ _ _ _ x c.fix_count.ensures m.0 c.has.ensures c.if-has.false m.1
    (own_new _ _ _ _ _ c.fix_count-2.ensures (omega arith) own c.is_first-in_default-checked_sub.ensures)

pub returns : goal.returns
returns c =
    let m = c.in-Some.ensures in
    let n = c.in-Some-checked_sub.ensures in
    let k = c.in-Some-checked_sub-2.ensures in
    let x = rw c.lists.ensures at c.dep_at-x.ensures in
    let own = dep-rest _ _ _ _ _ c.fix_count.ensures m.0 m.1 x in
    let last = own_rest _ _ _ _ c.fix_count-2.ensures n.0 n.1 own in
    dep_past _ _ _ _ _ x c.fix_count.ensures m.0 c.has.ensures c.if-has.false m.1
    (own_past _ _ _ _ _ c.fix_count-2.ensures n.0 c.has-2.ensures c.if-has-2.false n.1
    (last_extra_new _ _ _ _ c.any_count.ensures.value k.0 c.is_lock.ensures c.if-is_lock.false (omega (arith, c.fix_count.ensures, c.fix_count-2.ensures)) last k.1 c.is_first-2.ensures))
