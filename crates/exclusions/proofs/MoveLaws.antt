-- Bytes that move within a slice.
use Rattle.std.proofs.Common.{◌≡◌, ℕ, ◌+◌, ◌-◌, ◌≤◌, List, ◌++◌, length, take, drop, sym, ap, ◌∙◌, arith, length-drop}
use Rattle.std.specs.List.{copy_within}
use lib.Seq.{length-take-le}
use Rattle.molecule.specs.Write.{splice}

pub within-splice : (s : List ℕ) (from to n : ℕ) {o : List ℕ} → from + n ≤ length s → o ≡ copy_within s from (from + n) to → o ≡ splice s to (take n (drop from s))
unfolding splice
within-splice s from to n h e =
    let z : from + n - from ≡ n = omega arith in
    let l : length (take n (drop from s)) ≡ n = length-take-le n (drop from s) (rw (length-drop from s) (omega arith)) in
    e ∙ ap (λ (k : ℕ). take to s ++ take k (drop from s) ++ drop (to + k) s) z ∙ ap (λ (k : ℕ). take to s ++ take n (drop from s) ++ drop (to + k) s) (sym l)
