-- What closes the goals of this crate's functions, and what they unfold.
use Rattle.std.proofs.Common.{rules}
use Rattle.lists.proofs.EqualLaws.{empty-is}
use Rattle.error.proofs.Outcomes.{outcomes, answering}
use Rattle.udt_cells.specs.Pick.{pick_typed}
use Rattle.udt_cells.specs.Change.{lent, udt_made, udt_inputs_outputs}
use Rattle.udt_cells.proofs.PickLaws.{pick-none, pick-enough, pick_short, pick-stop, pick_more}
use Rattle.udt_cells.proofs.ChangeLaws.{capacity-is, capacity-below, lent_script, lent-option}

pub ruleset ways = (rules, outcomes, empty-is, pick-none, pick-enough, pick_short, pick-stop, pick_more, capacity-is, capacity-below, lent_script, lent-option)

unfoldable pub picking : Unit {0}
unfolding answering pick_typed lent udt_made udt_inputs_outputs
picking = tt
