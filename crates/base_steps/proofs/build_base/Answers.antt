use Rattle.base_steps.proofs.StepLaws.{base_step}
use Rattle.base_steps.proofs.build_base.Goals as goal

pub returns-clause-by_index : goal.returns-clause-by_index
returns-clause-by_index c = base_step _ _ _ _ c.are_bytes.ensures c.are_bytes-2.ensures c.build_base-answer.ensures
