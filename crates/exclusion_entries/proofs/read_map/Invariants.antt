use Rattle.exclusion_entries.proofs.SurveyLaws.{Sweeping}
use Rattle.exclusion_entries.proofs.read_map.Given as goal

abbrev pub invariant-loop : goal.invariant-loop
invariant-loop l = Sweeping l.rule l.s l.n l.v l.at l.left l.counter
