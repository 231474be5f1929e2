use Rattle.held_cells.proofs.CallLaws.{named_short, named-done}
use Rattle.held_cells.proofs.unavailable.Goals as goal

pub returns-then-not-put_unavailable : goal.returns-then-not-put_unavailable
returns-then-not-put_unavailable c = named_short c.args.held c.args.picked.now c.args.spent.now c.args.time c.args.out.now c.is_out_points.ensures c.if-not-is_out_points.false c.is_out_points-2.ensures c.if-not-is_out_points-2.false c.keep-left.result c.keep-left.ensures.result_value c.put_unavailable.ensures.value c.put_unavailable.ensures.out_after c.if-not-put_unavailable.true

pub returns : goal.returns
returns c = named-done c.args.held c.args.picked.now c.args.spent.now c.args.time c.args.out.now c.is_out_points.ensures c.if-not-is_out_points.false c.is_out_points-2.ensures c.if-not-is_out_points-2.false c.keep-left.result c.keep-left.ensures.result_value c.put_unavailable.ensures.value c.put_unavailable.ensures.out_after _ c.if-not-put_unavailable.false
