-- What closes the goals of this crate's functions.
use Rattle.std.proofs.Common.{rules}
use Rattle.arithmetic.proofs.AmountLaws.{sum-of, difference-of}

pub ruleset ways = (rules, sum-of, difference-of)
