-- Every known outcome is what the definitions compute.
use mathlib.Core.Path.{refl}
use Rattle.known_outcomes.specs.Outcomes.{outcomes}
use Rattle.known_outcomes.proofs.Computing.{computing}
use Rattle.known_cases.proofs.Largest.{bytes_pass, bytes-over}
use Rattle.known_exclusions.proofs.KnownExclusions.{kept-at_99, kept-at_112, dropped_at_113}
use Rattle.case_parts.specs.Rows.{AllRight}
use Rattle.case_parts.proofs.Rows.{◌and◌, done}

pub known_outcomes : AllRight outcomes
unfolding computing
known_outcomes =
    refl and refl and refl and refl and refl and refl and refl and refl and refl and refl and refl and refl and refl
    and refl and refl and refl and refl and refl and refl and refl and refl and refl and refl and bytes_pass and bytes-over and refl
    and refl and refl and refl and refl and refl and refl and refl and refl and refl and refl and refl and refl and refl and refl and refl and refl and refl and kept-at_99 and kept-at_112 and dropped_at_113 and done
