-- Whether bytes fit, and what a writer that found out answers.
use mathlib.Core.Path.{◌≡◌, refl, sym, ◌∙◌}
use Prim.Native.Nat.{ℕ, ◌+◌, ◌*◌, ◌≤◌, min}
use mathlib.Core.Bool.{Bool, true, false, not, ◌&&◌, cond, and-eq-true_iff}
use mathlib.Core.List.{List, ◌++◌, flatten}
use native.Mathlib.Omega.{arith}
use borrow.Author.Tests.{le-leb, leb-true, not-true, not-false}
use lib.ListN.{length}
use lib.Dec.{leb}
use Rattle.molecule.specs.Write.{put_at, put_end, Put}
use Rattle.molecule.proofs.WriteLaws.{put_yes, end_yes, did, then, length-kept}
use Rattle.list_writer.specs.ListWriter.{items_after_first, put_list, put_list_end}
use Rattle.list_writer.specs.Around.{head_size, list_size, fits_at}

pub fit-room : (at len : ℕ) {m n : ℕ} {r : Bool} → n ≡ min m 133117 → r ≡ fits_at n at len → not r ≡ false → (at + m ≤ len) × (m ≤ 133116)
unfolding fits_at
fit-room at len {m} {n} {r} size e h =
    let q = (and-eq-true_iff (leb n 133116) _).0 (sym e ∙ not-false r h) in
    let low : n ≤ 133116 = leb-true _ _ q.0 in
    let room : at + n ≤ len = leb-true _ _ q.1 in
    (omega arith, omega arith)

-- ---- what a writer answers: n is the length of xs, capped

module _ (out : List ℕ) (at : ℕ) (xs : List ℕ) {n : ℕ} {r : Bool} (size : n ≡ min (length xs) 133117) (e : r ≡ fits_at n at (length out)) where
  no_fit : not r ≡ true → leb (length xs) 133116 ≡ true → leb (at + length xs) (length out) ≡ false
  unfolding fits_at
  no_fit h l =
      let low : length xs ≤ 133116 = leb-true _ _ l in
      let z : n ≡ length xs = omega arith in
      let q : leb (length xs) 133116 && leb (at + length xs) (length out) ≡ false = rw z at (sym e ∙ not-true r h) in
      rw l at q

  pub list_out : not r ≡ true → out ≡ put_list out at xs
  unfolding put_list
  list_out h = by (leb (length xs) 133116) refl
    where
      by : (b : Bool) → leb (length xs) 133116 ≡ b → out ≡ cond b (put_at out at xs) out
      by false l = refl
      by true l = unfold put_at in rw (no_fit h l)

  pub list_out-end : not r ≡ true → at ≡ put_list_end out at xs
  unfolding put_list_end
  list_out-end h = by (leb (length xs) 133116) refl
    where
      by : (b : Bool) → leb (length xs) 133116 ≡ b → at ≡ cond b (put_end out at xs) at
      by false l = refl
      by true l = unfold put_end in rw (no_fit h l)

  module _ (h : not r ≡ false) {after : List ℕ} {next : ℕ} (p : Put out at xs after next) where
    pub list_in_lem : after ≡ put_list out at xs
    unfolding put_list
    list_in_lem = rw (le-leb (length xs) 133116 (fit-room at (length out) size e h).1) (p.bytes ∙ sym (put_yes out at xs p.room))

    pub list_in_end : next ≡ put_list_end out at xs
    unfolding put_list_end
    list_in_end = rw (le-leb (length xs) 133116 (fit-room at (length out) size e h).1) (p.end ∙ sym (end_yes out at xs p.room))

-- what a call of a writer did, where there was room; and one after others
pub did_list : (xs : List ℕ) {out : List ℕ} {at : ℕ} {after : List ℕ} {next : ℕ} → after ≡ put_list out at xs → next ≡ put_list_end out at xs
    → length xs ≤ 133116 → at + length xs ≤ length out → Put out at xs after next
unfolding put_list put_list_end
did_list xs e f low room = let l = le-leb (length xs) 133116 low in did xs (rw l at e) (rw l at f) room

pub and_list : (ys : List ℕ) {out o₁ o₂ : List ℕ} {at n₁ n₂ : ℕ} {xs : List ℕ} → Put out at xs o₁ n₁ → o₂ ≡ put_list o₁ n₁ ys → n₂ ≡ put_list_end o₁ n₁ ys
    → length ys ≤ 133116 → at + length xs + length ys ≤ length out → Put out at (xs ++ ys) o₂ n₂
and_list ys p e f low room = let l = length-kept p in then p (did_list ys e f low (omega (arith, p.end)))

-- ---- sizes that stop at a cap, of parts and of the whole

cap_parts : (h m z n a b r : ℕ) → a ≡ min m 133117 → b ≡ min n 133117 → r ≡ min (h + a + z + b) 133117 → r ≡ min (h + m + z + n) 133117
cap_parts h m z n a b r e f g = omega arith

pub capped_list : (first : ℕ) (s : List ℕ) (k last : ℕ) (r : ℕ) {f l : ℕ} → f ≡ min first 133117 → l ≡ min last 133117 → r ≡ min (list_size f s k l) 133117
    → r ≡ min (list_size first s k last) 133117
capped_list first s k last r {f} {l} ef el er =
    let w : min (4 * l) 4 ≡ min (4 * last) 4 = omega arith in
    cap_parts (head_size k last) first (length (flatten (items_after_first s k))) last f l r ef el (rw w at er)
