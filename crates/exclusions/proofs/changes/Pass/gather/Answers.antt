use Rattle.exclusions.proofs.ChangesWays.{ways}
use Rattle.exclusions.proofs.changes.Pass.gather.Goals as goal

pub sift_one-c-requires-clause-s_in_bounds : goal.sift_one-c-requires-clause-s_in_bounds
sift_one-c-requires-clause-s_in_bounds c = search ways

pub returns : goal.returns
returns c = search ways
