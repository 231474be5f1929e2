-- What closes the needs of this crate's functions: `search ways`.
use borrow.Author.Rules.{rules}
use Rattle.out_points.proofs.ListLaws.{fits_not, fits_both, fits-room}
use Rattle.hold_records.proofs.ListLaws.{length_mapped}
use Rattle.hold_records.proofs.LoopLaws.{none_stand, empty-is, keep-none, keep_yes, keep_no, keep-end, keep_most}
use Rattle.hold_records.proofs.WriteLaws.{cells-start, cells-more, cells-end, cells-fitting, cells-long, cells_short, cells-kept, cells_fit, cells-room, cells-written, fits-point, cells_listed, all_listed}

pub ruleset ways = (rules, fits_not, fits_both, fits-room, length_mapped, none_stand, empty-is, keep-none, keep_yes, keep_no, keep-end, keep_most, cells-start, cells-more, cells-end, cells-fitting, cells-long, cells_short, cells-kept, cells_fit, cells-room, cells-written, fits-point, cells_listed, all_listed)
