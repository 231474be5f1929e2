-- What closes the goals of this crate's functions.
use Rattle.std.proofs.Common.{rules}
use Rattle.accounts.proofs.CapacityLaws.{record_capacity, output-capacity, sums-from, sums-more, sums-end}
use Rattle.accounts.proofs.TokenLaws.{tally-from, tally-more, tally_stops, tally-end}

pub ruleset ways = (rules, record_capacity, output-capacity, sums-from, sums-more, sums-end, tally-from, tally-more, tally_stops, tally-end)
