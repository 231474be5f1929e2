use Rattle.exclusion_marks.proofs.Ways.{ways}
use Rattle.exclusion_marks.proofs.mark.Goals as goal

pub commit_one-at-requires : goal.commit_one-at-requires
commit_one-at-requires c = search ways

pub returns-clause-s_after : goal.returns-clause-s_after
returns-clause-s_after c = search ways

pub returns-clause-s_after_2 : goal.returns-clause-s_after_2
returns-clause-s_after_2 c = search ways
