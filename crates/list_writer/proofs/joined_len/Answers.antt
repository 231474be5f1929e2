use Rattle.std.proofs.Common.{rules}
use Rattle.std.proofs.iter.runs.Made.{chains}
use Rattle.list_writer.proofs.JoinLaws.{joined-cap}
use Rattle.list_writer.proofs.joined_len.Goals as goal

pub returns : goal.returns
returns c = search (rules, chains, joined-cap)
