-- What closes the needs of this crate's functions: `search ways`.
use Rattle.std.proofs.Common.{rules}
use Rattle.molecule.proofs.WriteLaws.{put_far, end_far}
use Rattle.out_points.proofs.EqualLaws.{whole-point, seek_start, seek_end}
use Rattle.out_points.proofs.PointLaws.{byte32_none, point-none, item-is, hash_short, hash_short_end, point_short, point_short_end, two-words, two-end, hash_put, hash-end, point_put, point-end}

pub ruleset ways = (rules, put_far, end_far, whole-point, seek_start, seek_end, byte32_none, point-none, item-is, hash_short, hash_short_end, point_short, point_short_end, two-words, two-end, hash_put, hash-end, point_put, point-end)
