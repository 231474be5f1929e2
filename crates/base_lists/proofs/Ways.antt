-- What closes the needs of this crate's functions: `search ways`.
use borrow.Author.Rules.{rules}
use Rattle.base_lists.proofs.OutputLaws.{change-none, change-some, outputs_cap, cells_put, cells-end, change_put, change-end}
use Rattle.base_lists.proofs.DataLaws.{amount-bytes, len_none, len_some, behind_put, behind-end, more_put, more-end, data_cap, untyped_put, untyped-end, typed_put, typed-end}
use Rattle.base_lists.proofs.WitnessLaws.{mark_bytes, one_cap, two_cap, one_put, one_end, two_put, two-end}

pub ruleset ways = (rules, change-none, change-some, outputs_cap, cells_put, cells-end, change_put, change-end, amount-bytes, len_none, len_some, behind_put, behind-end, more_put, more-end, data_cap, untyped_put, untyped-end, typed_put, typed-end, mark_bytes, one_cap, two_cap, one_put, one_end, two_put, two-end)
