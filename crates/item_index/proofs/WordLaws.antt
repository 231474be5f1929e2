-- Numbers of several bytes, the first byte highest, are in the order of their bytes.
use mathlib.Core.Path.{◌≡◌, ◌∙◌}
use Prim.Native.Nat.{ℕ, zero, suc, ◌+◌, ◌-◌, ◌*◌, ◌≤◌, ◌<◌}
use mathlib.Core.Bool.{true}
use mathlib.Core.List.{List, [], ◌∷◌}
use native.Mathlib.Nat.{add-zero}
use native.Mathlib.Omega.{arith}
use borrow.Author.Tests.{lt-ltb, le-ltb, eq-eqb, ne_eqb}
use Rattle.std.specs.Int.{w64, from_be_bytes}
use Rattle.std.specs.Ordering.{nat_cmp}
use lib.ListN.{length, get_or}
use Rattle.arithmetic.specs.LittleEndian.{AllBytes}
use Rattle.std.specs.declared.cmp.Ordering.{Ordering}
use Rattle.item_index.specs.Order.{sorts_before, order_of, horner}
use Rattle.item_index.proofs.OrderLaws.{three, Alike, alike_back, alike_next, alike_less, all_alike, less, before-is, after_is, same-is}

-- ---- the number

pub word_is : (s : List ℕ) (at : ℕ) {n : ℕ} → n ≡ from_be_bytes w64 (get_or s at 0 ∷ get_or s (at + 1) 0 ∷ get_or s (at + 2) 0 ∷ get_or s (at + 3) 0
    ∷ get_or s (at + 4) 0 ∷ get_or s (at + 5) 0 ∷ get_or s (at + 6) 0 ∷ get_or s (at + 7) 0 ∷ []) → n ≡ horner 0 8 s at
unfolding horner
word_is s at e =
    let e2 : at + 1 + 1 ≡ at + 2 = omega arith in
    let e3 : at + 2 + 1 ≡ at + 3 = omega arith in
    let e4 : at + 3 + 1 ≡ at + 4 = omega arith in
    let e5 : at + 4 + 1 ≡ at + 5 = omega arith in
    let e6 : at + 5 + 1 ≡ at + 6 = omega arith in
    let e7 : at + 6 + 1 ≡ at + 7 = omega arith in
    e ∙ rw (e2, e3, e4, e5, e6, e7) (omega arith)

-- ---- the order

module _ (s t : List ℕ) (bs : AllBytes s) (bt : AllBytes t) where
  -- a smaller number stays the smaller one, whatever bytes follow
  stays_less : (k p q i : ℕ) → p < q → horner p k s i < horner q k t i
  unfolding horner
  stays_less zero p q i h = h
  stays_less (suc k) p q i h = let m = bs i in stays_less k (256 * p + get_or s i 0) (256 * q + get_or t i 0) (i + 1) (omega arith)

module _ (a b : List ℕ) (ba : AllBytes a) (bb : AllBytes b) where
  pub word_less : (k p i : ℕ) → Alike a b i → i + k ≤ length a → i + k ≤ length b → horner p k a i < horner p k b i → sorts_before a b ≡ true
  unfolding horner
  word_less zero p i w h l m = absurd (omega arith)
  word_less (suc k) p i w h l m = three (get_or a i 0) (get_or b i 0)
      (λ d. less w (omega arith) (omega arith) d)
      (λ d. word_less k (256 * p + get_or a i 0) (i + 1) (alike_next w (omega arith) (omega arith) d) (omega arith) (omega arith) (rw (← d) at m))
      (λ d. absurd (let z = stays_less b a bb ba k (256 * p + get_or b i 0) (256 * p + get_or a i 0) (i + 1) (omega arith) in omega arith))

  pub word_same : (k p i : ℕ) → Alike a b i → i + k ≤ length a → i + k ≤ length b → horner p k a i ≡ horner p k b i → Alike a b (i + k)
  unfolding horner
  word_same zero p i w h l m = rw (add-zero i) w
  word_same (suc k) p i w h l m = three (get_or a i 0) (get_or b i 0)
      (λ d. absurd (let z = stays_less a b ba bb k (256 * p + get_or a i 0) (256 * p + get_or b i 0) (i + 1) (omega arith) in omega arith))
      (λ d. let e : i + suc k ≡ i + 1 + k = omega arith in
      rw e (word_same k (256 * p + get_or a i 0) (i + 1) (alike_next w (omega arith) (omega arith) d) (omega arith) (omega arith) (rw (← d) at m)))
      (λ d. absurd (let z = stays_less b a bb ba k (256 * p + get_or b i 0) (256 * p + get_or a i 0) (i + 1) (omega arith) in omega arith))

-- ---- the ways out: two words that begin at j, within what is alike

module _ {a b : List ℕ} {i : ℕ} (w : Alike a b i) (e : length a ≡ length b) (j : ℕ) (h : j ≤ i) (l : j + 8 ≤ length a) {u v : ℕ}
    (eu : u ≡ horner 0 8 a j) (ba : AllBytes a) (ev : v ≡ horner 0 8 b j) (bb : AllBytes b) where
  at_same : u ≡ v → Alike a b (j + 8)
  at_same m = word_same a b ba bb 8 0 j (alike_less j h w) l (omega arith) (omega arith)

  -- what the words say, unless they are the same
  at_first : {A : Type 0} → (u ≡ v → A) → (nat_cmp u v ≡ order_of a b → A) → A
  at_first same other = three u v
      (λ m. other (rw (lt-ltb u v m) (before-is a b (word_less a b ba bb 8 0 j (alike_less j h w) l (omega arith) (omega arith)))))
      same
      (λ m. let n : v ≤ u = omega arith in
      other (rw (le-ltb u v n, ne_eqb u v (λ k. omega arith)) (after_is a b (word_less b a bb ba 8 0 j (alike_back (alike_less j h w)) (omega arith) l (omega arith)))))

same_numbers : (u v : ℕ) → u ≡ v → nat_cmp u v ≡ Ordering.Equal
same_numbers u v e = let l : v ≤ u = omega arith in rw (le-ltb u v l, eq-eqb u v e)

module _ {a b : List ℕ} {i : ℕ} (w : Alike a b i) (e : length a ≡ length b) {u v : ℕ} where
  -- the next word
  module _ (h : i < length a - 8) (eu : (u ≡ horner 0 8 a i) × AllBytes a) (ev : (v ≡ horner 0 8 b i) × AllBytes b) where
    pub next_other : {o : Ordering} → (u ≡ v → ⊥) → o ≡ nat_cmp u v → o ≡ order_of a b
    next_other n eo = at_first w e i (omega arith) (omega arith) eu.0 eu.1 ev.0 ev.1 (λ m. absurd (n m)) (λ m. eo ∙ m)

    pub next-same : {j : ℕ} → j ≡ i + 8 → u ≡ v → Alike a b j
    next-same z m = rw z (at_same w e i (omega arith) (omega arith) eu.0 eu.1 ev.0 ev.1 m)

  -- the last
  pub last_word : {o : Ordering} → o ≡ nat_cmp u v → length a - 8 ≤ i → 8 ≤ length a → (u ≡ horner 0 8 a (length a - 8)) × AllBytes a → (v ≡ horner 0 8 b (length a - 8)) × AllBytes b → o ≡ order_of a b
  last_word eo h l eu ev = at_first w e (length a - 8) h (omega arith) eu.0 eu.1 ev.0 ev.1
      (λ m. eo ∙ same_numbers u v m ∙ same-is a b (all_alike a b (length a - 8 + 8) (at_same w e (length a - 8) h (omega arith) eu.0 eu.1 ev.0 ev.1 m) (omega arith) (omega arith)))
      (λ m. eo ∙ m)
