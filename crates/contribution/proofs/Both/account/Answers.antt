use Rattle.std.proofs.Common.{arith}
use Rattle.std.proofs.lemmas.Grind.{common_steps}
use Rattle.error.specs.Outcome.{◌>>=◌}
use Rattle.contribution.proofs.AccountLaws.{added-from, account_steps}
use Rattle.contribution.proofs.Both.account.Goals as goal

pub returns-in_err-capacity : goal.returns-in_err-capacity
unfolding ◌>>=◌
returns-in_err-capacity c =
    let k = added-from _ _ c.args.self.ours.outputs_are c.args.self.peer.outputs_are c.args.self.peer.entries_are c.added_peer_outputs.ensures in
    grind (arith, common_steps, k, account_steps)

pub returns-in_err-token : goal.returns-in_err-token
unfolding ◌>>=◌
returns-in_err-token c =
    let k = added-from _ _ c.args.self.ours.outputs_are c.args.self.peer.outputs_are c.args.self.peer.entries_are c.added_peer_outputs.ensures in
    grind (arith, common_steps, k, account_steps)

pub returns : goal.returns
unfolding ◌>>=◌
returns c =
    let k = added-from _ _ c.args.self.ours.outputs_are c.args.self.peer.outputs_are c.args.self.peer.entries_are c.added_peer_outputs.ensures in
    grind (arith, common_steps, k, account_steps)
