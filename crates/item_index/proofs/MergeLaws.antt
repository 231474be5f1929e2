-- Two parts in order merged into one: what the loop knows, and one law for each way out of a turn.
use mathlib.Core.Path.{◌≡◌, refl, sym, ap, ap₂, ◌∙◌}
use Prim.Native.Nat.{ℕ, ◌+◌, ◌≤◌, ◌<◌}
use mathlib.Core.Bool.{true, false}
use mathlib.Core.List.{List, [], ◌∷◌, ◌++◌}
use native.Mathlib.Omega.{arith}
use lib.ListN.{length, take, get_or, set, length-set}
use lib.Seq.{get_or-set_same, get_or-set_other, take_all}
use Rattle.std.proofs.Common.{append_assoc}
use Rattle.std.proofs.lemmas.List.{take_more, take_more_set}
use Rattle.std.proofs.lemmas.List.Sorted.{IsPermutation-refl, IsPermutation-trans, IsPermutation-sym, IsPermutation-to_front, IsPermutation-middle, IsPermutation-append_left}
use Rattle.std.specs.List.Sorted.{IsPermutation}
use Rattle.item_index.specs.Index.{comes, Rises}
use Rattle.item_index.proofs.OrderLaws.{three}
use Rattle.item_index.proofs.ComesLaws.{comes_not, comes_less, comes_trans}

-- where two lists agree
pub rises_same : {f : ℕ → List ℕ} (s u : List ℕ) (lo hi : ℕ) → ((i : ℕ) → lo ≤ i → i < hi → get_or u i 0 ≡ get_or s i 0) → Rises f s lo hi → Rises f u lo hi
rises_same {f} s u lo hi e k = record { rising = λ i j p q r. ap₂ (comes f) (e j (omega arith) r) (e i p (omega arith)) ∙ k.rising i j p q r }

-- from an item on, each that follows
pub rises_on : {f : ℕ → List ℕ} {s : List ℕ} {lo hi : ℕ} → Rises f s lo hi → (i j : ℕ) → lo ≤ i → i ≤ j → j < hi
    → comes f (get_or s j 0) (get_or s i 0) ≡ false
rises_on {f} {s} k i j p q r = three i j
    (λ w. k.rising i j p w r)
    (λ w. ap (λ (n : ℕ). comes f (get_or s n 0) (get_or s i 0)) (sym w) ∙ comes_not f (get_or s i 0))
    (λ w. absurd (omega arith))

-- ---- one more is taken from either part, and put behind what is written

module _ (a b c : List ℕ) (x : ℕ) (h : IsPermutation (a ++ b) c) where
  pub same_right : IsPermutation (a ++ (b ++ x ∷ [])) (c ++ x ∷ [])
  same_right = rw (← append_assoc a b (x ∷ [])) (IsPermutation-append_left (x ∷ []) (a ++ b) c h)

  pub same_left : IsPermutation ((a ++ x ∷ []) ++ b) (c ++ x ∷ [])
  same_left =
      let m : IsPermutation (a ++ x ∷ b) (x ∷ (a ++ b)) = IsPermutation-middle a x b in
      let t : IsPermutation (x ∷ (a ++ b)) ((a ++ b) ++ x ∷ []) = IsPermutation-sym ((a ++ b) ++ x ∷ []) (x ∷ (a ++ b)) (IsPermutation-to_front (a ++ b) x) in
      let e : IsPermutation (a ++ x ∷ b) (c ++ x ∷ []) =
      IsPermutation-trans (a ++ x ∷ b) ((a ++ b) ++ x ∷ []) (c ++ x ∷ [])
      (IsPermutation-trans (a ++ x ∷ b) (x ∷ (a ++ b)) ((a ++ b) ++ x ∷ []) m t)
      (IsPermutation-append_left (x ∷ []) (a ++ b) c h) in
      rw (append_assoc a (x ∷ []) b) e

-- ---- the loop: what is written is what was taken, in order, and none of what is left comes before it

pub record Merging (f : ℕ → List ℕ) (l r u : List ℕ) (i j o : ℕ) : Type 0 where
  pub long : length u ≡ length l + length r
  pub first : i ≤ length l
  pub second : j ≤ length r
  pub next : o ≡ i + j
  pub left : Rises f l 0 (length l)
  pub right : Rises f r 0 (length r)
  pub order : Rises f u 0 o
  pub under_left : (a c : ℕ) → a < o → i ≤ c → c < length l → comes f (get_or l c 0) (get_or u a 0) ≡ false
  pub under_right : (a c : ℕ) → a < o → j ≤ c → c < length r → comes f (get_or r c 0) (get_or u a 0) ≡ false
  pub same : IsPermutation (take i l ++ take j r) (take o u)

pub merge_start : (f : ℕ → List ℕ) (l r u : List ℕ) → length u ≡ length l + length r → Rises f l 0 (length l) → Rises f r 0 (length r) → Merging f l r u 0 0 0
merge_start f l r u e p q = record {
  long = e;
  first = omega arith;
  second = omega arith;
  next = refl;
  left = p;
  right = q;
  order = record { rising = λ i j a b c. absurd (omega arith) };
  under_left = λ a c x y z. absurd (omega arith);
  under_right = λ a c x y z. absurd (omega arith);
  same = IsPermutation-refl [];
}

module _ {f : ℕ → List ℕ} {l r u : List ℕ} {i j o : ℕ} (k : Merging f l r u i j o) where
  pub merge_all : length u ≤ o → IsPermutation (l ++ r) u
  merge_all h =
      let k1 = k.long in
      let k2 = k.first in
      let k3 = k.second in
      let k4 = k.next in
      let s = k.same in
      rw (take_all i l (omega arith), take_all j r (omega arith), take_all o u h) at s

  pub merge_rises : length u ≤ o → Rises f u 0 (length u)
  merge_rises h =
      let k1 = k.long in
      let k2 = k.first in
      let k3 = k.second in
      let k4 = k.next in
      let e : o ≡ length u = omega arith in
      rw e at k.order

  module _ (h : o < length u) where
    put_here : (x : ℕ) → get_or (set u o x) o 0 ≡ x
    put_here x = get_or-set_same u o x 0 h

    put_other : (x a : ℕ) → a < o → get_or (set u o x) a 0 ≡ get_or u a 0
    put_other x a p = get_or-set_other u o a x 0 (λ w. omega arith)

    -- one more written, by either
    put_next : (x m n : ℕ) → m ≤ length l → n ≤ length r → o + 1 ≡ m + n
        → ((a : ℕ) → a < o → comes f x (get_or u a 0) ≡ false)
        → ((a c : ℕ) → a < o → m ≤ c → c < length l → comes f (get_or l c 0) (get_or u a 0) ≡ false)
        → ((a c : ℕ) → a < o → n ≤ c → c < length r → comes f (get_or r c 0) (get_or u a 0) ≡ false)
        → ((c : ℕ) → m ≤ c → c < length l → comes f (get_or l c 0) x ≡ false)
        → ((c : ℕ) → n ≤ c → c < length r → comes f (get_or r c 0) x ≡ false)
        → IsPermutation (take m l ++ take n r) (take o u ++ x ∷ [])
        → Merging f l r (set u o x) m n (o + 1)
    put_next x m n b1 b2 b3 above ul ur bl br same = record {
      long = length-set u o x ∙ k.long;
      first = b1;
      second = b2;
      next = b3;
      left = k.left;
      right = k.right;
      order = record {
        rising = λ a c p q t. three c o
            (λ w. ap₂ (comes f) (put_other x c w) (put_other x a (omega arith)) ∙ k.order.rising a c p q w)
            (λ w. ap₂ (comes f) (ap (λ (n : ℕ). get_or (set u o x) n 0) w ∙ put_here x) (put_other x a (omega arith)) ∙ above a (omega arith))
            (λ w. absurd (omega arith));
      };
      under_left = λ a c p q t. three a o
          (λ w. ap (comes f (get_or l c 0)) (put_other x a w) ∙ ul a c w q t)
          (λ w. ap (comes f (get_or l c 0)) (ap (λ (n : ℕ). get_or (set u o x) n 0) w ∙ put_here x) ∙ bl c q t)
          (λ w. absurd (omega arith));
      under_right = λ a c p q t. three a o
          (λ w. ap (comes f (get_or r c 0)) (put_other x a w) ∙ ur a c w q t)
          (λ w. ap (comes f (get_or r c 0)) (ap (λ (n : ℕ). get_or (set u o x) n 0) w ∙ put_here x) ∙ br c q t)
          (λ w. absurd (omega arith));
      same = rw (take_more_set u o x h) same;
    }

    pub merge_right : j < length r → (i < length l → comes f (get_or r j 0) (get_or l i 0) ≡ true) → Merging f l r (set u o (get_or r j 0)) i (j + 1) (o + 1)
    merge_right b t =
        let k1 = k.first in
        let k3 = k.next in
        put_next (get_or r j 0) i (j + 1) k1 (omega arith) (omega arith)
        (λ a p. k.under_right a j p (omega arith) b)
        (λ a c p x y. k.under_left a c p x y)
        (λ a c p x y. k.under_right a c p (omega arith) y)
        (λ c p q. comes_trans f (get_or r j 0) (get_or l i 0) (get_or l c 0) (comes_less f _ _ (t (omega arith))) (rises_on k.left i c (omega arith) p q))
        (λ c p q. k.right.rising j c (omega arith) (omega arith) q)
        (rw (take_more r j 0 b) (same_right (take i l) (take j r) (take o u) (get_or r j 0) k.same))

    pub merge_left : i < length l → (j < length r → comes f (get_or r j 0) (get_or l i 0) ≡ false) → Merging f l r (set u o (get_or l i 0)) (i + 1) j (o + 1)
    merge_left b t =
        let k2 = k.second in
        let k3 = k.next in
        put_next (get_or l i 0) (i + 1) j (omega arith) k2 (omega arith)
        (λ a p. k.under_left a i p (omega arith) b)
        (λ a c p x y. k.under_left a c p (omega arith) y)
        (λ a c p x y. k.under_right a c p x y)
        (λ c p q. k.left.rising i c (omega arith) (omega arith) q)
        (λ c p q. comes_trans f (get_or l i 0) (get_or r j 0) (get_or r c 0) (t (omega arith)) (rises_on k.right j c (omega arith) p q))
        (rw (take_more l i 0 b) (same_left (take i l) (take j r) (take o u) (get_or l i 0) k.same))
