-- What closes the goals of this crate's functions.
use Rattle.std.proofs.Common.{rules}
use lib.ListN.{get_or-eq_default}

pub ruleset ways = (rules, get_or-eq_default)
