-- Writes at a place: one behind or before another, what they leave, and what they do not change.
use mathlib.Core.Path.{◌≡◌, refl, sym, ap, ap₂, ◌∙◌}
use Prim.Native.Nat.{ℕ, ◌+◌, ◌-◌, ◌≤◌}
use mathlib.Core.List.{List, [], ◌++◌, append_assoc, append-nil}
use native.Mathlib.Nat.{add-zero}
use native.Mathlib.Omega.{arith}
use lib.ListN.{length, take, drop, length-append, take-append-drop}
use lib.Seq.{take-add, take-take, take_at, take-append-le, drop_at, drop-drop, length-take-le}
use Rattle.molecule.specs.Write.{splice, Put}
use Rattle.molecule.proofs.WriteLaws.{then, splice-length}

module _ (s : List ℕ) (at : ℕ) where
  pub splice-none : splice s at [] ≡ s
  unfolding splice
  splice-none = ap₂ (λ (x : List ℕ) (n : ℕ). x ++ drop n s) (append-nil (take at s)) (add-zero at) ∙ take-append-drop at s

  module _ (xs : List ℕ) where
    -- what is behind a write stays
    pub drop-splice : (k : ℕ) → at + length xs ≤ length s → at + length xs ≤ k → drop k (splice s at xs) ≡ drop k s
    unfolding splice
    drop-splice k h m =
        let z : at + length xs + (k - (at + length xs)) ≡ k = omega arith in
        let l : length (take at s ++ xs) ≡ at + length xs = rw (length-append, length-take-le at s (omega arith)) in
        let o = splice s at xs in
        ap (λ (n : ℕ). drop n o) (sym z)
        ∙ sym (drop-drop (k - (at + length xs)) (at + length xs) o)
        ∙ ap (drop (k - (at + length xs))) (drop_at (take at s ++ xs) (drop (at + length xs) s) (at + length xs) l)
        ∙ drop-drop (k - (at + length xs)) (at + length xs) s
        ∙ ap (λ (n : ℕ). drop n s) z

    -- what stands there already
    pub splice-same : take (length xs) (drop at s) ≡ xs → splice s at xs ≡ s
    unfolding splice
    splice-same e =
        ap (λ (x : List ℕ). x ++ drop (at + length xs) s) (ap (λ (x : List ℕ). take at s ++ x) (sym e) ∙ sym (take-add at (length xs) s)) ∙ take-append-drop (at + length xs) s

    module _ (ys : List ℕ) (h : at + length xs + length ys ≤ length s) where
      pub splice-then : splice (splice s at xs) (at + length xs) ys ≡ splice s at (xs ++ ys)
      splice-then =
          let l : length (splice s at xs) ≡ length s = splice-length s at xs (omega arith) in
          let p : Put s at xs (splice s at xs) (at + length xs) = record { bytes = refl; end = refl; room = omega arith } in
          let q : Put (splice s at xs) (at + length xs) ys (splice (splice s at xs) (at + length xs) ys) (at + length xs + length ys) = record { bytes = refl; end = refl; room = omega arith } in
          (then p q).bytes

      pub splice-under : splice (splice s (at + length xs) ys) at xs ≡ splice s at (xs ++ ys)
      unfolding splice
      splice-under =
          let m = at + length xs in
          let W = drop (m + length ys) s in
          let T = take m s in
          let l : length T ≡ m = length-take-le m s (omega arith) in
          let o : T ++ ys ++ W ≡ T ++ (ys ++ W) = append_assoc T ys W in
          let front : take at (T ++ ys ++ W) ≡ take at s = ap (take at) o ∙ take-append-le at T (ys ++ W) (omega arith) ∙ take-take at m s (omega arith) in
          let back : drop m (T ++ ys ++ W) ≡ ys ++ W = ap (drop m) o ∙ drop_at T (ys ++ W) m l in
          let z : m + length ys ≡ at + length (xs ++ ys) = omega (arith, length-append xs ys) in
          ap₂ (λ (a b : List ℕ). a ++ xs ++ b) front back ∙ sym (append_assoc (take at s ++ xs) ys W) ∙ ap₂ (λ (a : List ℕ) (n : ℕ). a ++ drop n s) (append_assoc (take at s) xs ys) z

      -- the second part of what was written
      pub part-splice : take (length ys) (drop (at + length xs) (splice s at (xs ++ ys))) ≡ ys
      unfolding splice
      part-splice =
          let D = drop (at + length (xs ++ ys)) s in
          let P = take at s ++ xs in
          let l : length P ≡ at + length xs = rw (length-append, length-take-le at s (omega arith)) in
          let o : take at s ++ (xs ++ ys) ++ D ≡ P ++ (ys ++ D) = simp append_assoc in
          ap (λ (x : List ℕ). take (length ys) (drop (at + length xs) x)) o ∙ ap (take (length ys)) (drop_at P (ys ++ D) (at + length xs) l) ∙ take_at ys D (length ys) refl

-- a write over a shorter one
pub splice-over : (s : List ℕ) (at : ℕ) (xs ys : List ℕ) → at + length xs ≤ length s → length ys ≤ length xs → splice (splice s at ys) at xs ≡ splice s at xs
unfolding splice
splice-over s at xs ys h k =
    let D = drop (at + length ys) s in
    let l : length (take at s) ≡ at = length-take-le at s (omega arith) in
    let front : take at (take at s ++ ys ++ D) ≡ take at s = ap (take at) (append_assoc (take at s) ys D) ∙ take_at (take at s) (ys ++ D) at l in
    ap₂ (λ (a b : List ℕ). a ++ xs ++ b) front (drop-splice s at ys (at + length xs) (omega arith) (omega arith))
