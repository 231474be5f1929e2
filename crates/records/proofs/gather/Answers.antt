use Rattle.std.proofs.Common.{◌≡◌, length, ap, sym, ◌∙◌, not, arith}
use Rattle.records.proofs.Ways.{ways}
use Rattle.records.proofs.GatherLaws.{gather_counted, gather_dead, gather_unread, gather_ours, gather_more}
use Rattle.records.proofs.gather.Goals as goal

pub loop-i-init : goal.loop-i-init
loop-i-init c = gather_counted _ _ _ _ (sym c.list_header.ensures ∙ c.in-Some.is) c.start-from.ensures

pub returns-then-to-from : goal.returns-then-to-from
returns-then-to-from c = search ways

pub returns : goal.returns
returns c = search ways

pub returns-then-is_empty : goal.returns-then-is_empty
returns-then-is_empty c =
    let z : length c.part-x.result.now ≡ 0 = grind arith in
    gather_dead c.loop-i.invariant c.loop-i-test.true c.start-to.ensures c.part-x.ensures.result_value _ z c.unless_unreadable.ensures

pub returns-then-not-is_record : goal.returns-then-not-is_record
returns-then-not-is_record c =
    let z : length c.part-x.result.now ≡ 0 → ⊥ = grind arith in
    gather_unread c.loop-i.invariant c.loop-i-test.true c.start-to.ensures c.part-x.ensures.result_value z c.is_record.ensures (ap not c.if-not-is_record.true)

pub returns-then-has_our_lock : goal.returns-then-has_our_lock
returns-then-has_our_lock c =
    let z : length c.part-x.result.now ≡ 0 → ⊥ = grind arith in
    gather_ours c.loop-i.invariant c.loop-i-test.true c.start-to.ensures c.part-x.ensures.result_value z c.is_record.ensures c.has_our_lock.ensures _
    c.if-has_our_lock.true c.unless_unreadable-then-has_our_lock.ensures

pub loop-i-preserved : goal.loop-i-preserved
loop-i-preserved c =
    let z : length c.part-x.result.now ≡ 0 → ⊥ = grind arith in
    gather_more c.loop-i.invariant c.loop-i-test.true c.start-to.ensures c.part-x.ensures.result_value z c.is_record.ensures c.has_our_lock.ensures c.record_capacity.result
    c.add_record-token.result c.if-to-from.false (ap not c.if-not-is_record.false) c.if-has_our_lock.false (search ways) c.record_capacity.ensures.result_value c.record_capacity.ensures.result_bound
    c.saturating_add-capacity.ensures c.add_record-token.ensures
