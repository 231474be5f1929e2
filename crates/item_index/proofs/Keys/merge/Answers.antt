use Rattle.std.proofs.Common.{◌<◌, length, sym, ◌∙◌, arith}
use Rattle.std.proofs.lemmas.Bool.{false≢true}
use borrow.Author.Tests.{eq-eqb, ltb-true}
use Rattle.item_index.proofs.MergeLaws.{merge_right, merge_left}
use Rattle.item_index.proofs.Keys.merge.Goals as goal
use Rattle.item_index.proofs.Keys.merge.Goals.{then-i-left, else-i-left+then-j-right, else-i-left+else-j-right, then-comes_first, else-comes_first}

-- the next is the right's, where the left has no more or where it comes first, or else the left's
pub loop-place-preserved : goal.loop-place-preserved
loop-place-preserved c =
    let k = c.loop-place.invariant in
    let h : c.loop-place.place-index < length c.loop-place.out = omega arith in
    elim c.if-comes_first.branch [
      | then-comes_first w ↦ rw (w.out-is, w.i-is, w.j-is) (elim c.if-i-left.branch [
        | then-i-left v ↦ merge_right k h (let e = v.if-i-left.true in omega arith) (λ l. absurd (let e = v.if-i-left.true in omega arith))
        | else-i-left+then-j-right v ↦ merge_right k h v.if-j-right.true (λ l. sym v.comes_first.ensures ∙ sym v.value-is ∙ w.if-comes_first.true)
        | else-i-left+else-j-right v ↦ absurd (let l = ltb-true _ _ (sym v.value-is ∙ w.if-comes_first.true) in let m = v.if-j-right.false in omega arith)
      ])
      | else-comes_first w ↦ rw (w.out-is, w.i-is, w.j-is) (elim c.if-i-left.branch [
        | then-i-left v ↦ absurd (false≢true (sym w.if-comes_first.false ∙ v.value-is ∙ eq-eqb _ _ v.if-i-left.true))
        | else-i-left+then-j-right v ↦ merge_left k h (let e = v.if-i-left.false in omega arith) (λ l. sym v.comes_first.ensures ∙ sym v.value-is ∙ w.if-comes_first.false)
        | else-i-left+else-j-right v ↦ merge_left k h (let e = v.if-i-left.false in omega arith) (λ l. absurd (let e = v.if-j-right.false in omega arith))
      ])
    ]
