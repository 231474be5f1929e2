-- What closes the needs of the functions of `tables`: `search ways`.
use borrow.Author.Rules.{rules}
use Rattle.capi.proofs.TableLaws.{by_tower, by_funding, number_table, number_list}

pub ruleset ways = (rules, by_tower, by_funding, number_table, number_list)
