-- What closes the goals of this crate's functions.
use Rattle.std.proofs.Common.{rules}
use Rattle.molecule.proofs.Offsets.{span-length}
use Rattle.transaction.proofs.ReadLaws.{ours_yes, ours_no}
use Rattle.lists.proofs.EqualLaws.{empty-is}
use Rattle.error.proofs.Outcomes.{outcomes}
use Rattle.funding_cell.proofs.FundingCellLaws.{by_counted}

pub ruleset ways = (rules, outcomes, ours_yes, ours_no, span-length, empty-is, by_counted)
