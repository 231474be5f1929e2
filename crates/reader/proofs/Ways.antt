-- What closes the needs of this crate's functions: tried at each goal that the check leaves.
use Rattle.molecule.proofs.LayoutLaws.{inside-twice}
use Rattle.reader.proofs.PlaceLaws.{stretch_is, stretch_place}

pub ruleset ways = (inside-twice, stretch_is, stretch_place)
