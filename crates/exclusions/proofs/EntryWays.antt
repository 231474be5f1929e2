-- What closes the goals of the functions of module `entry`.
use Rattle.std.proofs.Common.{rules}
use Rattle.exclusions.proofs.EnterLaws.{inputs_sized}
use Rattle.exclusions.proofs.PutLaws.{head_put, head_end_lem, spend_none, spend_room, spend_here, spend_more, spend_end, entry-room, entry_put}

pub ruleset ways = (rules, inputs_sized, head_put, head_end_lem, spend_none, spend_room, spend_here, spend_more, spend_end, entry-room, entry_put)
