use Rattle.std.proofs.Common.{arith}
use Rattle.std.proofs.lemmas.Grind.{common_steps}
use Rattle.error.specs.Refusal.{number, values}
use Rattle.molecule.proofs.Offsets.{span-length}
use Rattle.molecule.proofs.WriteLaws.{splice_zero}
use Rattle.error.specs.Outcome.{answer_by, check, check_with, ◌>>=◌, ◌>>◌}
use Rattle.transaction_lists.specs.Found.{count_found}
use Rattle.item_places.specs.Places.{places_found}
use Rattle.item_places.proofs.items.Goals as goal

pub returns-in_err-count : goal.returns-in_err-count
unfolding places_found answer_by ◌>>=◌
returns-in_err-count c = grind (arith, common_steps)

pub returns-in_err-kind : goal.returns-in_err-kind
unfolding count_found check check_with ◌>>◌
returns-in_err-kind c = grind (arith, common_steps)

pub returns-then-places-count : goal.returns-then-places-count
unfolding places_found answer_by check check_with ◌>>=◌ ◌>>◌ number values
returns-then-places-count c = grind (arith, common_steps)

pub invariant_of-put_places : goal.invariant_of-put_places
unfolding count_found check check_with ◌>>◌
invariant_of-put_places c = record { counted = grind (arith, common_steps) }

pub returns : goal.returns
unfolding places_found answer_by check check_with ◌>>=◌ ◌>>◌
returns c = grind (arith, common_steps, span-length, splice_zero)
