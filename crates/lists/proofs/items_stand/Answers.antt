use Rattle.lists.proofs.EqualLaws.{eq_items}
use Rattle.lists.proofs.Ways.{ways}
use Rattle.lists.proofs.items_stand.Goals as goal
use Rattle.lists.proofs.items_stand.Goals.{then-n-i-via-then-n-i, then-n-i-via-else-n-i+then-not-same}

pub loop-i-init : goal.loop-i-init
loop-i-init g c = λ at t. search ways

pub returns-then-n-i : goal.returns-then-n-i
returns-then-n-i g c = λ at t.
    let h = c.loop-i.invariant at t in
    elim c.then-n-i.branch [
      | then-n-i-via-then-n-i w ↦ search ways
      | then-n-i-via-else-n-i+then-not-same w ↦ let e = eq_items _ _ (t _ _ _ w.item.ensures) (t _ _ _ w.item-else-n-i.ensures) w.same.ensures in search ways
    ]

pub loop-i-preserved : goal.loop-i-preserved
loop-i-preserved g c = λ at t.
    let h = c.loop-i.invariant at t in
    let e = eq_items _ _ (t _ _ _ c.item.ensures) (t _ _ _ c.item-else-n-i.ensures) c.same.ensures in
    search ways

pub returns : goal.returns
returns g c = λ at t. let h = c.loop-i.invariant at t in search ways
