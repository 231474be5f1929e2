use Rattle.funding_tx.proofs.VerdictLaws.{judge-ours, judge_read}
use Rattle.funding_tx.proofs.update_for_peer.Goals as goal

pub returns-then-not-is_optional_transaction : goal.returns-then-not-is_optional_transaction
returns-then-not-is_optional_transaction c = judge-ours _ _ _ _ c.is_optional_transaction.ensures c.if-not-is_optional_transaction.true

pub returns : goal.returns
returns c = judge_read _ _ _ _ c.is_optional_transaction.ensures _ c.if-not-is_optional_transaction.false c.judge_against.ensures
