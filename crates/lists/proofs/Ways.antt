-- What closes the needs of this crate's functions: `search ways`.
use borrow.Author.Rules.{rules}
use Rattle.lists.proofs.EqualLaws.{eq_whole}
use Rattle.lists.proofs.BlockLaws.{agreed_none, agreed_stop, agreed_more, agreed_end}
use Rattle.lists.proofs.RunLaws.{run_short, run_whole}
use Rattle.lists.proofs.LoopLaws.{left_from, left_end, left_short, left-more, left-stop}

pub ruleset ways = (rules, eq_whole, agreed_none, agreed_stop, agreed_more, agreed_end, run_short, run_whole, left_from, left_end, left_short, left-more, left-stop)
