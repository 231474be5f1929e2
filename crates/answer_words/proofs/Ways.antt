-- What closes the goals of this crate's functions.
use Rattle.std.proofs.Common.{rules}
use Rattle.answer_words.proofs.BufferLaws.{first-long, first_short, first_put, item_uncounted, item-none, item_put}

pub ruleset ways = (rules, first-long, first_short, first_put, item_uncounted, item-none, item_put)
