use Rattle.answer_words.proofs.BufferLaws.{item-none, item_put}
use Rattle.answer_words.proofs.buffers.put_item.Goals as goal

pub returns-then-n-i : goal.returns-then-n-i
returns-then-n-i c = item-none c.args.tx.now c.args.list c.args.i c.args.out.now c.item_count.ensures c.in_ok-n.was c.if-n-i.true

pub returns : goal.returns
returns c = item_put c.args.tx.now c.args.list c.args.i c.args.out.now c.item_count.ensures c.in_ok-n.was c.if-n-i.false c.item.ensures.result_value c.put_first.ensures
