use Rattle.std.proofs.Common.{◌+◌, ◌-◌, ◌≤◌, length, arith}
use Rattle.exclusions.proofs.ChangesWays.{ways}
use Rattle.exclusions.proofs.changes.sift_one.Goals as goal

pub copy_within-requires-clause-in_bounds : goal.copy_within-requires-clause-in_bounds
copy_within-requires-clause-in_bounds c = search ways

pub copy_within-requires-clause-dest_in_bounds : goal.copy_within-requires-clause-dest_in_bounds
copy_within-requires-clause-dest_in_bounds c =
    let at = c.args.c.at in
    let size = c.entry_size-size.result in
    let room : at + size ≤ length c.args.s.now = search ways in
    let fits : c.args.c.to + (at + size - at) ≤ length c.args.s.now = omega arith in
    fits

pub returns-clause-s_after : goal.returns-clause-s_after
returns-clause-s_after c =
    let room : c.args.c.at + c.entry_size-size.result ≤ length c.args.s.now = search ways in
    search ways
