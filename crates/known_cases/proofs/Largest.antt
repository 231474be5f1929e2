-- The largest transactions, read and judged by computation, each by itself: together they would take more steps than one proof may.
use mathlib.Core.Path.{◌≡◌, refl}
use mathlib.Core.List.{[], ◌∷◌}
use Rattle.known_cases.specs.Cases.{untyped, crowd, answer}
use Rattle.known_cases.proofs.Computing.{computing_updates}

pub bytes_pass : answer (untyped [] (crowd 1 1 0 0 132907)) ≡ 0 ∷ 199900 ∷ 0 ∷ []
unfolding computing_updates
bytes_pass = refl

pub bytes-over : answer (untyped [] (crowd 1 1 0 0 132908)) ≡ 4 ∷ []
unfolding computing_updates
bytes-over = refl
