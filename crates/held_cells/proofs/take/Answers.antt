use Rattle.held_cells.proofs.CallLaws.{take-live}
use Rattle.held_cells.proofs.take.Goals as goal

pub returns-clause-after : goal.returns-clause-after
returns-clause-after c = take-live c.args.held c.args.picked.now c.args.spent.now c.args.taker c.args.time c.args.taken.now c.args.refused.now c.is_out_points.ensures c.if-not-is_out_points.false c.is_out_points-2.ensures c.keep-live.result _ c.if-not-is_out_points-2.false c.keep-live.ensures.result_value c.owner_for-owner.ensures c.take_from.ensures.after
