use Rattle.std.proofs.Common.{rules, refl, arith}
use Rattle.distinct_deps.proofs.ChooseLaws.{choose_met, choose_unmet, choose_put, choose_new, choose_full}
use Rattle.distinct_deps.proofs.Ways.{ways}
use Rattle.distinct_deps.proofs.in_turn.choose_in_turn.Goals as goal
use Rattle.distinct_deps.proofs.in_turn.choose_in_turn.Goals.{in-Ok, in-Err+else-room-count}

pub returns-then-room-count : goal.returns-then-room-count
returns-then-room-count c =
    let k = c.loop-i.invariant in
    let h = c.loop-i-test.true in
    let absent = choose_unmet _ _ _ _ k h c.dep_at-x.ensures (λ a r g t. search rules) c.in-Err.at c.in-Err.ensures.bound c.in-Err.ensures.position in
    choose_full _ _ _ _ k h absent (omega arith) refl

pub loop-i-preserved : goal.loop-i-preserved
loop-i-preserved c =
    let k = c.loop-i.invariant in
    let h = c.loop-i-test.true in
    elim c.match-found.branch [
      | in-Ok w ↦ rw (w.places-is, w.sorted-is, w.count-is) (choose_met _ _ _ _ k h c.dep_at-x.ensures (λ a r g t. search rules) _ w.in-Ok.ensures.bound w.in-Ok.ensures.position)
      | in-Err+else-room-count w ↦ rw (w.places-is, w.sorted-is, w.count-is)
          (let absent = choose_unmet _ _ _ _ k h c.dep_at-x.ensures (λ a r g t. search rules) w.in-Err.at w.in-Err.ensures.bound w.in-Err.ensures.position in
          choose_new _ _ _ _ k h absent (omega arith) (choose_put _ _ _ _ k h absent _ (omega arith) w.copy_within.ensures.len w.copy_within.ensures.by_index.0 w.copy_within.ensures.by_index.1))
    ]

pub loop-i-init : goal.loop-i-init
loop-i-init c = search ways

pub returns : goal.returns
returns c = search ways
