-- What closes the needs of this crate's functions: `search ways`.
use borrow.Author.Rules.{rules}
use Rattle.negotiation.proofs.TableLaws.{update_head, update_0, update_1, update_2, update_all}
use Rattle.negotiation.proofs.UpdateLaws.{bytes_are, bytes-place, rate-is, at-start, at_update, start-place, update_place}
use Rattle.negotiation.proofs.WordLaws.{words_put}
use Rattle.funding_tx.proofs.VerdictLaws.{judge-ours}
use Rattle.negotiation.proofs.RunLaws.{judge-is, run_none, run_more, run_end}
use Rattle.negotiation.proofs.ReplayLaws.{replay_unreadable, replay_short, replay_run}

pub ruleset ways = (rules, update_head, update_0, update_1, update_2, update_all, bytes_are, bytes-place, rate-is, at-start, at_update, start-place, update_place, words_put, judge-ours, judge-is, run_none, run_more, run_end, replay_unreadable, replay_short, replay_run)
