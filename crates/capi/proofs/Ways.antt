-- What closes the needs of this crate's functions: `search ways`.
use borrow.Author.Rules.{rules}
use Rattle.words.proofs.WordLaws.{as_told, wrote}
use Rattle.answer_words.proofs.BufferLaws.{line-told}
use Rattle.case_file.proofs.LineLaws.{line-within}
use Rattle.capi.proofs.CallLaws.{cell-told, pick-written, base_written}
use Rattle.capi.proofs.ReplayLaws.{lawful_done}

pub ruleset ways = (rules, as_told, wrote, cell-told, pick-written, base_written, line-told, line-within, lawful_done)
