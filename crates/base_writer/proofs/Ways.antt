-- What closes the needs of this crate's functions: `search ways`.
use borrow.Author.Rules.{rules}
use Rattle.base_writer.proofs.ListLaws.{data_made, sized}
use Rattle.base_writer.proofs.PutLaws.{put_front, put_back, back_fits, put_both}
use Rattle.base_writer.proofs.AnswerLaws.{base_refused, base_written, base_fits}

pub ruleset ways = (rules, data_made, sized, put_front, put_back, back_fits, put_both, base_refused, base_written, base_fits)
