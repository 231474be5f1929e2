use Rattle.std.proofs.Common.{arith}
use Rattle.std.proofs.lemmas.Grind.{common_steps}
use Rattle.units.specs.Units.{token_count}
use Rattle.error.specs.Outcome.{told_by, ◌>>=◌}
use Rattle.lists.specs.Lists.{is_empty}
use Rattle.accounts.specs.Added.{added_cells}
use Rattle.accounts.proofs.TokenLaws.{known_account}
use Rattle.accounts.proofs.token.surplus.Goals as goal

pub returns-then-is_empty : goal.returns-then-is_empty
unfolding is_empty ◌>>=◌
returns-then-is_empty c =
    let k = known_account c.args.udt.now (token_count c.args.grown) (told_by token_count c.args.paid) (added_cells c.args.added) in
    grind (arith, common_steps, k)

pub returns-in_err-gained : goal.returns-in_err-gained
unfolding is_empty ◌>>=◌
returns-in_err-gained c =
    let k = known_account c.args.udt.now (token_count c.args.grown) (told_by token_count c.args.paid) (added_cells c.args.added) in
    grind (arith, common_steps, k)

pub returns-in_err-put : goal.returns-in_err-put
unfolding is_empty ◌>>=◌
returns-in_err-put c =
    let k = known_account c.args.udt.now (token_count c.args.grown) (told_by token_count c.args.paid) (added_cells c.args.added) in
    grind (arith, common_steps, k)

pub returns : goal.returns
unfolding is_empty ◌>>=◌
returns c =
    let k = known_account c.args.udt.now (token_count c.args.grown) (told_by token_count c.args.paid) (added_cells c.args.added) in
    grind (arith, common_steps, k)
