-- What closes the needs of this crate's functions: `search ways`.
use Rattle.std.proofs.Common.{rules}
use Rattle.molecule.proofs.LayoutLaws.{mul_fits, past_fits, mul_below, past_below, end_below}
use Rattle.rows.proofs.RowLaws.{ends-within, later-there, end_fits, key_is, seek_start, seek_end, seek_found, seek_more, push_other, push_full, push_is, replace_other, replace_past, replace_is, remove_past, remove_short, remove_done}

pub ruleset ways = (rules, mul_fits, past_fits, mul_below, past_below, end_below, ends-within, later-there, end_fits, key_is, seek_start, seek_end, seek_found, seek_more, push_other, push_full, push_is, replace_other, replace_past, replace_is, remove_past, remove_short, remove_done)
