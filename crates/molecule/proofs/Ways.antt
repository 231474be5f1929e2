-- What closes the needs of this crate's functions: tried at each goal that has no answer, and `search ways` where that finds none.
use borrow.Author.Rules.{rules}
use Rattle.molecule.proofs.LayoutLaws.{part-is, part-place, fix_out, fix_out-place, entry_place}
use Rattle.molecule.proofs.TestLaws.{items-header, ordered_none, ordered_more, ordered_stop, ordered_end, fix_says, bytes_are, walked_no, walked_none, walked_falls, walked_past, walked_more, walked_stop, walked_empty, walked_empty-stop, walked_end}
use Rattle.molecule.proofs.WriteLaws.{copy_none, copy_more, copy_end, put_far, end_far, put_short, end_short, put_is, end_is}

pub ruleset ways = (rules, part-is, part-place, fix_out, fix_out-place, entry_place, items-header, ordered_none, ordered_more, ordered_stop, ordered_end, fix_says, bytes_are, walked_no, walked_none, walked_falls, walked_past, walked_more, walked_stop, walked_empty, walked_empty-stop, walked_end, copy_none, copy_more, copy_end, put_far, end_far, put_short, end_short, put_is, end_is)
