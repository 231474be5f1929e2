-- What closes the needs of this crate's functions: `search ways`.
use borrow.Author.Rules.{rules}
use Rattle.item_index.proofs.OrderLaws.{alike_start, order-library}
use Rattle.item_index.proofs.WordLaws.{word_is, next_other, next-same, last_word}
use Rattle.item_index.proofs.MergeLaws.{merge_start, merge_all, merge_rises}
use Rattle.item_index.proofs.SortLaws.{key_is, copy_start, copy_end, copy_on, number-start, number-end, number-on}

pub ruleset ways = (rules, alike_start, order-library, word_is, next_other, next-same, last_word, merge_start, merge_all, merge_rises, key_is, copy_start, copy_end, copy_on, number-start, number-end, number-on)
