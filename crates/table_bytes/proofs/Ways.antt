-- What closes the needs of this crate's functions: `search ways`.
use borrow.Author.Rules.{rules}
use Rattle.molecule.proofs.WriteLaws.{put_far, end_far}
use Rattle.table_bytes.proofs.PlaceLaws.{place_is, place_short, place_short_end, place_put, place_end}

pub ruleset ways = (rules, put_far, end_far, place_is, place_short, place_short_end, place_put, place_end)
