-- Laws of `eq_bytes`: it is equality, and one law for each way out of the function that computes it.
use mathlib.Core.Path.{◌≡◌, refl, sym, ap, ap₂, ◌∙◌}
use Prim.Native.Nat.{ℕ, zero, suc, ◌+◌, ◌-◌}
use mathlib.Core.List.{List, [], ◌∷◌}
use mathlib.Core.Bool.{Bool, true, false, ◌&&◌, false≢true, and_assoc, and-eq-true_iff}
use native.Mathlib.Nat.{zero-add}
use native.Mathlib.Omega.{arith}
use borrow.Author.Tests.{eq-eqb, ne_eqb, eqb-true}
use lib.Dec.{eqb}
use lib.ListN.{length, take, drop}
use lib.Seq.{take_all}
use Rattle.std.specs.Cmp.Lexicographic.{pointwise}
use Rattle.std.specs.Prelude.{nat_eq}
use Rattle.lists.specs.Lists.{eq_bytes, is_empty}

pub not_so : (b : Bool) → (b ≡ true → ⊥) → b ≡ false
not_so true h = absurd (h refl)
not_so false h = refl

pub empty-is : {A : Type 0} (l : List A) → is_empty l ≡ eqb (length l) 0
unfolding is_empty
empty-is [] = refl
empty-is (x ∷ xs) = sym (ne_eqb (length (x ∷ xs)) 0 (λ e. omega arith))

-- ---- the same bytes

pub eq_refl : (a : List ℕ) → eq_bytes a a ≡ true
unfolding eq_bytes
eq_refl [] = refl
eq_refl (x ∷ xs) = rw (eq-eqb x x refl) (eq_refl xs)

pub eq_true : (a b : List ℕ) → eq_bytes a b ≡ true → a ≡ b
unfolding eq_bytes
eq_true [] [] h = refl
eq_true [] (y ∷ ys) h = absurd (false≢true h)
eq_true (x ∷ xs) [] h = absurd (false≢true h)
eq_true (x ∷ xs) (y ∷ ys) h =
    ap₂ {C = List ℕ} (λ (a : ℕ) (l : List ℕ). a ∷ l) (eqb-true x y ((and-eq-true_iff (eqb x y) (eq_bytes xs ys)).0 h).0) (eq_true xs ys ((and-eq-true_iff (eqb x y) (eq_bytes xs ys)).0 h).1)

-- the first k bytes, then j more
pub eq_split : (k j : ℕ) (a b : List ℕ) → eq_bytes (take (k + j) a) (take (k + j) b) ≡ eq_bytes (take k a) (take k b) && eq_bytes (take j (drop k a)) (take j (drop k b))
unfolding eq_bytes
eq_split zero j a b = rw (zero-add j)
eq_split (suc k) j [] [] = eq_refl (take (suc k + j) []) ∙ sym (eq_refl (take j []))
eq_split (suc k) j [] (y ∷ ys) = let e : suc k + j ≡ suc (k + j) = omega arith in rw e
eq_split (suc k) j (x ∷ xs) [] = let e : suc k + j ≡ suc (k + j) = omega arith in rw e
eq_split (suc k) j (x ∷ xs) (y ∷ ys) =
    let e : suc k + j ≡ suc (k + j) = omega arith in
    rw e (ap (λ (r : Bool). eqb x y && r) (eq_split k j xs ys) ∙ sym (and_assoc (eqb x y) (eq_bytes (take k xs) (take k ys)) (eq_bytes (take j (drop k xs)) (take j (drop k ys)))))

-- what `==` says
pub eq-pointwise : (a b : List ℕ) → pointwise nat_eq a b ≡ eq_bytes a b
unfolding eq_bytes
eq-pointwise [] [] = refl
eq-pointwise [] (y ∷ ys) = refl
eq-pointwise (x ∷ xs) [] = refl
eq-pointwise (x ∷ xs) (y ∷ ys) = ap (λ (r : Bool). eqb x y && r) (eq-pointwise xs ys)

-- two items, each what a call gave
pub eq_items : (a b : List ℕ) {x y : List ℕ} {r : Bool} → x ≡ a → y ≡ b → r ≡ eq_bytes x y → r ≡ eq_bytes a b
eq_items a b e f h = rw (e, f) at h

-- of slices that were taken anew
pub whole : (s : List ℕ) → take (length s - 0) (drop 0 s) ≡ s
whole s = take_all (length s - 0) s (omega arith)

pub eq_whole : (a b : List ℕ) {r : Bool} → r ≡ eq_bytes (take (length a - 0) (drop 0 a)) (take (length b - 0) (drop 0 b)) → r ≡ eq_bytes a b
eq_whole a b h = rw (whole a, whole b) at h
