-- What closes the needs of this crate's functions: `search ways`.
use Rattle.std.proofs.Common.{rules}
use Rattle.verdict_line.proofs.DigitLaws.{digit_low, digit-high, fill_none, hex-more, hex_put, hex-end, digits-none, still_long, digits_more, last_put, last_end, digits_put, digits-end, long_as}
use Rattle.verdict_line.proofs.LineLaws.{amount_put, amount-room, surplus_put, value_put, space_none, space_room, space_more, space_end, values-room, refusal_put, accepted-line, accepted-length, refused-line, refused-length}

pub ruleset ways = (rules, digit_low, digit-high, fill_none, hex-more, hex_put, hex-end, digits-none, still_long, digits_more, last_put, last_end, digits_put, digits-end, long_as, amount_put, amount-room, surplus_put, value_put, space_none, space_room, space_more, space_end, values-room, refusal_put, accepted-line, accepted-length, refused-line, refused-length)
