-- What closes the goals of this crate's functions.
use Rattle.std.proofs.Common.{rules}
use Rattle.funding_tx.proofs.VerdictLaws.{next-is, next-reference, against_whole}

pub ruleset ways = (rules, next-is, next-reference, against_whole)
