-- "Fewer, or a shared place differs" is one question or two.
use mathlib.Core.Path.{◌≡◌, refl, sym, ap, ◌∙◌}
use Prim.Native.Nat.{ℕ, suc, ◌≤◌, ◌<◌, zero-le, suc-le-suc}
use mathlib.Core.List.{List, [], ◌∷◌}
use mathlib.Core.Bool.{Bool, true, false, ◌&&◌}
use native.Mathlib.Omega.{arith}
use borrow.Author.Tests.{le-leb, lt-leb, leb-true, leb-false}
use lib.ListN.{length, drop, length-drop}
use lib.Dec.{leb}
use Rattle.lists.specs.Lists.{eq_bytes, extends, agree}

leb_suc : (m n : ℕ) → leb (suc m) (suc n) ≡ leb m n
leb_suc m n = by (leb m n) refl
  where
    by : (b : Bool) → leb m n ≡ b → leb (suc m) (suc n) ≡ b
    by true e = le-leb (suc m) (suc n) (let h : m ≤ n = leb-true m n e in omega arith)
    by false e = lt-leb (suc m) (suc n) (let h : n < m = leb-false m n e in omega arith)

and_swap : (a b c : Bool) → (a && (b && c)) ≡ (b && (a && c))
and_swap true b c = refl
and_swap false true c = refl
and_swap false false c = refl

pub extends-is : (xs ys : List (List ℕ)) → extends xs ys ≡ (leb (length xs) (length ys) && agree xs ys)
unfolding extends agree
extends-is [] ys = rw (le-leb 0 (length ys) zero-le)
extends-is (x ∷ xs) [] = rw (lt-leb (suc (length xs)) 0 (suc-le-suc zero-le))
extends-is (x ∷ xs) (y ∷ ys) =
    ap (λ (b : Bool). eq_bytes x y && b) (extends-is xs ys) ∙ and_swap (eq_bytes x y) (leb (length xs) (length ys)) (agree xs ys)
    ∙ ap (λ (b : Bool). b && (eq_bytes x y && agree xs ys)) (sym (leb_suc (length xs) (length ys)))

-- after the first, of a list that is not shorter
pub extends-rest : (xs ys : List (List ℕ)) → leb (length xs) (length ys) ≡ true → extends (drop 1 xs) (drop 1 ys) ≡ agree (drop 1 xs) (drop 1 ys)
extends-rest xs ys h =
    let k : length (drop 1 xs) ≤ length (drop 1 ys) = omega (arith, leb-true (length xs) (length ys) h, length-drop 1 xs, length-drop 1 ys) in
    extends-is (drop 1 xs) (drop 1 ys) ∙ ap (λ (b : Bool). b && agree (drop 1 xs) (drop 1 ys)) (le-leb _ _ k)
