-- In each line's case that line alone fails, and the answer is its refusal; and no line is without a case.
use mathlib.Core.Path.{◌≡◌, refl}
use Prim.Native.Nat.{ℕ}
use Prim.Native.String.{String}
use mathlib.Core.List.{List, [], ◌∷◌, map, flatten}
use lib.ListN.{take}
use Rattle.molecule.specs.Partial.{All}
use Rattle.known_cases.specs.Cases.{untyped, crowd, answer}
use Rattle.known_cases.proofs.Largest.{bytes-over}
use Rattle.case_parts.proofs.Rows.{◌and◌, done}
use Rattle.rules.specs.Lines.{Line}
use Rattle.known_lines.specs.Lines.{lines}
use Rattle.known_lines.specs.Alone.{Row, groups, failing_in, whole}
use Rattle.known_lines.proofs.Computing.{computing_lines}

-- the lines that fail, and the answer
abbrev found : Row → List String × List ℕ
found r = (failing_in r.case, answer r.case)

abbrev stated : Row → List String × List ℕ
stated r = (r.fails, r.answer)

-- the largest transaction by itself
bytes_fail : failing_in (untyped [] (crowd 1 1 0 0 132908)) ≡ "size over 133,120" ∷ []
unfolding computing_lines
bytes_fail = refl

pub known_lines : All (All (λ r. found r ≡ stated r)) groups
unfolding computing_lines
known_lines =
    (refl and refl and refl and refl and refl and done)
    and ((λ i. (bytes_fail i, bytes-over i)) and refl and refl and refl and refl and done)
    and (refl and refl and refl and refl and refl and refl and refl and refl and refl and refl and refl and refl and refl and refl and done)
    and (refl and refl and refl and refl and done)
    and (refl and refl and refl and refl and refl and refl and refl and refl and done)
    and (refl and refl and refl and refl and refl and refl and done)
    and done

-- each line stands first in one row, in the order of the table
pub every_line : map (λ (r : Row). take 1 r.fails) (flatten groups) ≡ map (λ (l : Line). l.name ∷ []) (lines whole.lock whole.type whole.ours whole.call)
unfolding computing_lines
every_line = refl
