-- Lists that were compared: one is a beginning of the other.
use mathlib.Core.Path.{subst}
use Prim.Native.Nat.{ℕ, ◌≤◌}
use native.Mathlib.Omega.{arith}
use mathlib.Core.List.{List, [], ◌∷◌}
use native.Mathlib.Nat.{le_of_suc-le-suc, not-suc-le-zero}
use lib.ListN.{length, drop, length-drop}
use lib.Dec.{T}
use Rattle.error.proofs.Passed.{both, is_true}
use Rattle.lists.specs.Lists.{eq_bytes, agree}
use Rattle.lists.proofs.EqualLaws.{eq_true}
use Rattle.lists.specs.Prefix.{Prefix, start, more}

-- a list that is no longer, and has the same at each shared place, is a beginning
pub agree_prefix : (xs ys : List (List ℕ)) → length xs ≤ length ys → T (agree xs ys) → Prefix xs ys
unfolding agree
agree_prefix [] ys h t = start
agree_prefix (x ∷ xs) [] h t = absurd (not-suc-le-zero h)
agree_prefix (x ∷ xs) (y ∷ ys) h t =
    let (p, q) = both (eq_bytes x y) (agree xs ys) t in
    subst (λ (z : List ℕ). Prefix (x ∷ xs) (z ∷ ys)) (eq_true x y (is_true (eq_bytes x y) p)) (more (agree_prefix xs ys (le_of_suc-le-suc h) q))

pub drop_more : (xs ys : List (List ℕ)) → length xs ≤ length ys → length (drop 1 xs) ≤ length (drop 1 ys)
drop_more xs ys h = omega (arith, h, length-drop 1 xs, length-drop 1 ys)
