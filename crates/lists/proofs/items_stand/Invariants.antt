use Rattle.std.proofs.Common.{◌≡◌, ℕ, List, drop}
use Rattle.molecule.specs.Layout.{span, item_count}
use Rattle.lists.specs.Lists.{extends}
use Rattle.lists.proofs.LoopLaws.{Left}
use Rattle.lists.proofs.items_stand.Given as goal

abbrev pub invariant-loop-i : goal.invariant-loop-i
invariant-loop-i g l = (at : List ℕ → ℕ → List ℕ) → ((s : _) (i : ℕ) (x : _) → goal.F-post g l.item s i x → x.now ≡ at s.now i)
    → Left (at l.a) (at l.b) l.m l.n l.i (extends (drop l.first (span (at l.a) 0 (item_count l.a))) (drop l.first (span (at l.b) 0 (item_count l.b))))
