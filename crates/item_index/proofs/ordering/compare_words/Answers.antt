use Rattle.std.proofs.Common.{◌-◌, ◌*◌, ◌≤◌, length}
use native.Mathlib.Omega.{arith}
use Rattle.item_index.proofs.Ways.{ways}
use Rattle.item_index.proofs.ordering.compare_words.Goals as goal

pub returns-then-u-v : goal.returns-then-u-v
returns-then-u-v c = search ways

pub returns : goal.returns
returns c =
    let e = c.loop-k.auto.k-end in
    let r = c.requires.in_bounds in
    let h : length c.args.a.now - 8 ≤ 8 * c.loop-k.k = omega (arith, e, r, c.loop-k-test.false) in
    search (ways, h)
