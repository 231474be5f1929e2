-- What closes the needs of this crate's functions, `search ways`, and what they unfold.
use borrow.Author.Rules.{rules}
use Rattle.lists.proofs.EqualLaws.{empty-is}
use Rattle.error.proofs.Outcomes.{outcomes, answering}
use Rattle.transaction.proofs.ListLaws.{option-none, option-some}
use Rattle.transaction_writer.specs.Written.{in_room}
use Rattle.funding_builder.specs.Base.{lists, with_pick, with_cell, with_request, build_base}
use Rattle.funding_builder.proofs.CheckLaws.{optional_dep, supplied-none, supplied-some, picked_none, picked-some}
use Rattle.funding_builder.proofs.AssembleLaws.{over-deps, assembled, room-few, room_most}
use Rattle.funding_builder.proofs.BuildLaws.{some-outputs, base_readable}

pub ruleset ways = (rules, outcomes, empty-is, option-none, option-some, optional_dep, supplied-none, supplied-some, picked_none, picked-some, over-deps, assembled, room-few, room_most, some-outputs, base_readable)

unfoldable pub building : Unit {0}
unfolding answering lists with_pick with_cell with_request build_base in_room
building = tt
