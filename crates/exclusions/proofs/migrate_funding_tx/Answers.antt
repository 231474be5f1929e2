use Rattle.std.proofs.Common.{sym, ◌∙◌}
use Rattle.exclusions.proofs.CallLaws.{tx_read, none_done, migrate-done}
use Rattle.exclusions.proofs.Ways.{ways}
use Rattle.exclusions.proofs.migrate_funding_tx.Goals as goal

pub returns-in_err-h : goal.returns-in_err-h
returns-in_err-h c = tx_read c.args.map.now c.args.tx.now _ c.is_optional_transaction.ensures c.if-not-is_optional_transaction.false (search ways)

pub returns-then-is_empty : goal.returns-then-is_empty
returns-then-is_empty c =
    tx_read c.args.map.now c.args.tx.now _ c.is_optional_transaction.ensures c.if-not-is_optional_transaction.false
    (none_done c.args.map.now c.args.old.now c.args.new.now c.args.tx.now (sym c.in_ok-h.was ∙ c.hash_of.ensures) (search ways) c.remove.ensures)

pub returns-in_err-o : goal.returns-in_err-o
returns-in_err-o c = tx_read c.args.map.now c.args.tx.now _ c.is_optional_transaction.ensures c.if-not-is_optional_transaction.false (search ways)

pub returns-in_err-found : goal.returns-in_err-found
returns-in_err-found c = tx_read c.args.map.now c.args.tx.now _ c.is_optional_transaction.ensures c.if-not-is_optional_transaction.false (search ways)

pub returns-then-not-found : goal.returns-then-not-found
returns-then-not-found c = tx_read c.args.map.now c.args.tx.now _ c.is_optional_transaction.ensures c.if-not-is_optional_transaction.false (search ways)

pub returns : goal.returns
returns c =
    tx_read c.args.map.now c.args.tx.now _ c.is_optional_transaction.ensures c.if-not-is_optional_transaction.false
    (migrate-done c.args.map.now c.args.old.now c.args.new.now c.args.tx.now (sym c.in_ok-o.was ∙ c.hash_of-2.ensures) (sym c.in_ok-h.was ∙ c.hash_of.ensures) (sym c.in_ok-found.was ∙ c.read_map.ensures) (search ways) c.of.ensures.hash c.of.ensures.inputs (search ways) c.enter.ensures)
