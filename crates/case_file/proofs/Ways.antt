-- What closes the goals of this crate's functions.
use Rattle.std.proofs.Common.{rules}
use Rattle.molecule.proofs.LayoutLaws.{part-empty, part_short}
use Rattle.case_file.proofs.ItemLaws.{kind_is, length-is, body_past, no_word, no_kind, no_room, no_zeros, item_found_lem}
use Rattle.case_file.proofs.RecordLaws.{entry-none, cell-length, dead_is, no_cell, cell-is, scan_none, scan_stop, scan_more, scan_end, scan_fits, scan_less}
use Rattle.case_file.proofs.ListLaws.{header_put, cell_put, entry-cell, entry_none-put, entry-room, entry_put, offset_none, offset_more, offset_end, enter_none, enter_room, enter_more, enter_end, list_offsets-room, list_small, list_entries-room, list_put}
use Rattle.case_file.proofs.CaseLaws.{too_long_lem, list_size_lem, list_header, no_shape, no_records, judged, judged-at, case-line, case-length}

pub ruleset ways = (rules, kind_is, length-is, part-empty, body_past, part_short, no_word, no_kind, no_room, no_zeros, item_found_lem, entry-none, cell-length, dead_is, no_cell, cell-is, scan_none, scan_stop, scan_more, scan_end, scan_fits, scan_less, header_put, cell_put, entry-cell, entry_none-put, entry-room, entry_put, offset_none, offset_more, offset_end, enter_none, enter_room, enter_more, enter_end, list_offsets-room, list_small, list_entries-room, list_put, too_long_lem, list_size_lem, list_header, no_shape, no_records, judged, judged-at, case-line, case-length)
