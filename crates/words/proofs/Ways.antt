-- What closes the goals of this crate's functions, and what they unfold.
use Rattle.std.proofs.Common.{rules}
use Rattle.error.specs.Outcome.{number_of, values_of}
use Rattle.error.proofs.RefusalLaws.{few-values, four_read}
use Rattle.words.specs.Words.{set_words, in_words, surplus_words}

pub ruleset ways = (rules, few-values, four_read)

unfoldable pub telling : Unit {0}
unfolding set_words in_words number_of values_of surplus_words
telling = tt
