-- What closes the goals of this crate's functions.
use Rattle.std.proofs.Common.{rules}
use Rattle.arithmetic.proofs.LittleEndianLaws.{byte_past, num_none, u32_past, u32_is, u64_is, bytes-of}
use Rattle.arithmetic.proofs.AmountLaws.{amount_short, amount_is}

pub ruleset ways = (rules, byte_past, num_none, u32_past, u32_is, u64_is, bytes-of, amount_short, amount_is)
