-- What closes the goals of `read_map`.
use Rattle.std.proofs.Common.{rules}
use Rattle.exclusion_entries.proofs.SurveyLaws.{sweep_other, sweep_many, sweep-none, sweep-full, sweep_bad, sweep_small, sweep_touched, sweep_passed, sweep-end}

pub ruleset ways = (rules, sweep_other, sweep_many, sweep-none, sweep-full, sweep_bad, sweep_small, sweep_touched, sweep_passed, sweep-end)
