-- What a call that writes answers and leaves: what closes its ways out, and what they unfold.
use Rattle.std.proofs.lemmas.Bool.Decides.{nat_tests}
use Rattle.error.proofs.Outcomes.{outcomes, answering}
use Rattle.molecule.proofs.WriteLaws.{splice_zero}
use Rattle.transaction_writer.specs.Written.{fits, bytes_if, in_room}
use Rattle.transaction_writer.proofs.PutLaws.{tx_length}

pub ruleset writes = (outcomes, nat_tests, tx_length, splice_zero)

unfoldable pub writing : Unit {0}
unfolding answering fits bytes_if in_room
writing = tt
