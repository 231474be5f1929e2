use Rattle.std.proofs.Common.{sym, ◌∙◌}
use Rattle.exclusions.proofs.CallLaws.{tx_read, add_done}
use Rattle.exclusions.proofs.Ways.{ways}
use Rattle.exclusions.proofs.add.Goals as goal

pub returns-in_err-h : goal.returns-in_err-h
returns-in_err-h c = tx_read c.args.map.now c.args.tx.now _ c.is_optional_transaction.ensures c.if-not-is_optional_transaction.false (search ways)

pub returns-in_err-found : goal.returns-in_err-found
returns-in_err-found c = tx_read c.args.map.now c.args.tx.now _ c.is_optional_transaction.ensures c.if-not-is_optional_transaction.false (search ways)

pub returns-then-is_empty : goal.returns-then-is_empty
returns-then-is_empty c = tx_read c.args.map.now c.args.tx.now _ c.is_optional_transaction.ensures c.if-not-is_optional_transaction.false (search ways)

pub returns : goal.returns
returns c =
    tx_read c.args.map.now c.args.tx.now _ c.is_optional_transaction.ensures c.if-not-is_optional_transaction.false
    (add_done c.args.map.now c.args.hash.now c.args.tx.now (sym c.in_ok-h.was ∙ c.hash_of.ensures) (sym c.in_ok-found.was ∙ c.read_map.ensures) c.of.ensures.hash c.of.ensures.inputs (search ways) c.enter.ensures)
