-- Every number and place is what the definitions compute.
use mathlib.Core.Path.{refl}
use mathlib.Core.List.{flatten}
use Rattle.molecule.specs.Layout.{part_start, field_start, fix_start, item_start, content_start, entry_start}
use Rattle.transaction.specs.Tx.{raw_start}
use Rattle.error.specs.Outcome.{number_of, values_of}
use Rattle.words.specs.Words.{set_words, in_words, writing}
use Rattle.answer_words.specs.Answers.{count_words}
use Rattle.transaction_lists.specs.Lists.{list_of, list_in, start_in, place_in_bytes}
use Rattle.transaction_lists.specs.Found.{version_found, count_found}
use Rattle.item_places.specs.Places.{places_found}
use Rattle.case_parts.specs.Rows.{AllRight}
use Rattle.case_parts.proofs.Rows.{◌and◌, done}
use Rattle.known_outcomes.proofs.Computing.{computing}
use Rattle.known_lines.specs.Found.{numbers, places}

pub known_numbers : AllRight numbers
unfolding computing set_words number_of values_of in_words count_words list_of list_in version_found count_found
known_numbers = refl and refl and refl and refl and refl and done

pub known_places : AllRight places
unfolding computing flatten part_start field_start fix_start item_start content_start entry_start raw_start set_words number_of values_of in_words writing count_words list_of list_in start_in place_in_bytes count_found places_found
known_places = refl and refl and refl and refl and refl and refl and done
