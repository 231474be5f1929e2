-- Updates as a caller lends them to `replay`: the worked list, and its first alone.
use Rattle.std.specs.Prelude.{ℕ, List, [], ◌∷◌, map}
use Rattle.arithmetic.specs.LittleEndian.{to_le}
use Rattle.molecule.specs.Molecule.{Value, encode}
use Rattle.rules.specs.Judge.{Call}
use Rattle.negotiation.specs.Updates.{UpdateTable, Updates}
use Rattle.known_outcomes.specs.Runs.{worked, opening}

abbrev update_of : Call → Value UpdateTable
update_of c = (c.peer, (c.records, (c.source, (to_le 8 c.rate, tt))))

abbrev pub lent : List ℕ
lent = encode Updates (map update_of worked)

abbrev pub lent_one : List ℕ
lent_one = encode Updates (update_of opening ∷ [])
