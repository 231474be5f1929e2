use Rattle.std.proofs.lemmas.Bool.{not_from_true}
use Rattle.funding_builder.proofs.BuildLaws.{base_readable}
use Rattle.funding_builder.proofs.build_base.Goals as goal

pub with_request-requires : goal.with_request-requires
with_request-requires c = base_readable _ _ _ _ _ _ _ _ c.is_optional_transaction.ensures (not_from_true _ c.if-not-is_optional_transaction.false) _ c.are_scripts.ensures (not_from_true _ c.if-not-are_scripts.false) _ c.are_lists.ensures (not_from_true _ c.if-not-are_lists.false)
