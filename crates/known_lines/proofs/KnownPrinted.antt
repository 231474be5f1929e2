-- Every line is what the definitions compute.
use mathlib.Core.Path.{refl}
use Rattle.transaction_writer.specs.Written.{in_room}
use Rattle.error.specs.Outcome.{number_of, values_of}
use Rattle.words.specs.Words.{set_words, in_words, writing}
use Rattle.answer_words.specs.Answers.{count_words}
use Rattle.case_parts.specs.Rows.{AllRight}
use Rattle.case_parts.proofs.Rows.{◌and◌, done}
use Rattle.known_outcomes.proofs.Computing.{computing}
use Rattle.known_lines.specs.Printed.{printed, in_buffer}

pub known_printed : AllRight printed
unfolding computing
known_printed = refl and refl and refl and refl and refl and refl and refl and refl and refl and refl and refl and refl and done

pub known_in_buffer : AllRight in_buffer
unfolding computing in_room set_words number_of values_of in_words writing count_words
known_in_buffer = refl and refl and refl and done
