-- The sort: an item's key, the halves, the loop that numbers, and the index that comes of it.
use mathlib.Core.Path.{◌≡◌, refl, sym, ap, ap₂, ◌∙◌}
use Prim.Native.Nat.{ℕ, ◌+◌, ◌-◌, ◌≤◌, ◌<◌}
use mathlib.Core.Bool.{false}
use mathlib.Core.List.{List, ◌++◌}
use native.Mathlib.Omega.{arith}
use borrow.Rule.Slice.PartMut.{put_mid}
use lib.ListN.{length, take, drop, get_or, set, length-set, length-drop, drop_of_length-le}
use Rattle.std.proofs.Common.{append-nil, length-append, length-take-le, take_at, drop_at, take-append-drop}
use Rattle.std.proofs.Math.Seq.{take-length}
use Rattle.std.proofs.lemmas.List.{ext_get_or, get_or_append_left, get_or-append_right}
use lib.Seq.{get_or-set_same, get_or-set_other, take_all}
use Rattle.std.specs.List.{All, Contains}
use Rattle.std.specs.List.Sorted.{IsPermutation}
use Rattle.std.proofs.lemmas.Grind.{get_or_default_zero}
use Rattle.std.proofs.lemmas.List.Elements.{All-from_get_or, All-get_or}
use Rattle.std.proofs.lemmas.List.Sorted.{IsPermutation-trans, IsPermutation-append, length_permutation, All-permutation, Contains-permutation}
use Rattle.molecule.specs.Layout.{part, fix_item}
use Rattle.item_index.specs.Index.{key_of, comes, Stands, Rises, Index, Counts}
use Rattle.item_index.proofs.OrderLaws.{three}
use Rattle.item_index.proofs.MergeLaws.{rises_same, rises_on}
use Rattle.item_index.proofs.ComesLaws.{comes_trans}

-- ---- an item's bytes from a place on

pub key_is : (b : List ℕ) (k skip i : ℕ) {x r : List ℕ} → x ≡ fix_item b k i → r ≡ part x skip (length x) → r ≡ key_of b k skip i
unfolding key_of part
key_is b k skip i {x} {r} e q =
    let l = length-drop skip x in
    q ∙ take_all (length x - skip) (drop skip x) (omega arith) ∙ ap (drop skip) e

-- ---- the halves: a and b are what they hold when each is sorted

module _ (s a b : List ℕ) (m : ℕ) (h : m ≤ length s) (p : IsPermutation (take m s) a)
    (q : IsPermutation (take (length (a ++ drop m s) - m) (drop m (a ++ drop m s))) b) where
  long : length a ≡ m
  long = length_permutation (take m s) a p ∙ length-take-le m s h

  behind : drop m (a ++ drop m s) ≡ drop m s
  behind = drop_at a (drop m s) m long

  rest : length (a ++ drop m s) - m ≡ length (drop m s)
  rest = omega (arith, length-append a (drop m s), long)

  second : IsPermutation (drop m s) b
  second = rw (behind, rest, take-length (drop m s)) at q

  joined : put_mid m (length (a ++ drop m s) - m) (a ++ drop m s) b ≡ a ++ b
  joined = ap₂ ◌++◌ (take_at a (drop m s) m long) (ap (λ (x : List ℕ). b ++ x) (ap₂ drop rest behind ∙ drop_of_length-le (drop m s) (omega arith)) ∙ append-nil b)

  both : IsPermutation s (a ++ b)
  both =
      let e : IsPermutation (take m s ++ drop m s) (a ++ b) = IsPermutation-append (take m s) a (drop m s) b p second in
      rw take-append-drop at e

  pub sorted_same : IsPermutation s (put_mid m (length (a ++ drop m s) - m) (a ++ drop m s) b)
  sorted_same = rw joined both

  -- the second goes on from the first
  module _ (f : ℕ → List ℕ) (g : 0 < m) (k : m < length s) (left : Rises f a 0 (length a)) (right : Rises f b 0 (length b))
      (meet : comes f (get_or (put_mid m (length (a ++ drop m s) - m) (a ++ drop m s) b) m 0) (get_or (put_mid m (length (a ++ drop m s) - m) (a ++ drop m s) b) (m - 1) 0) ≡ false) where
    first : (i : ℕ) → i < m → get_or (a ++ b) i 0 ≡ get_or a i 0
    first i w = get_or_append_left a b 0 i (omega (arith, long))

    later : (i : ℕ) → m ≤ i → get_or (a ++ b) i 0 ≡ get_or b (i - m) 0
    later i w = get_or-append_right a b m i 0 long w

    met : comes f (get_or b 0 0) (get_or a (m - 1) 0) ≡ false
    met =
        let z : m - m ≡ 0 = omega arith in
        let e : comes f (get_or (a ++ b) m 0) (get_or (a ++ b) (m - 1) 0) ≡ false = rw joined at meet in
        ap₂ (comes f) (sym (later m (omega arith) ∙ ap (λ (n : ℕ). get_or b n 0) z)) (sym (first (m - 1) (omega arith))) ∙ e

    low : (i j : ℕ) → i < j → j < m → comes f (get_or (a ++ b) j 0) (get_or (a ++ b) i 0) ≡ false
    low i j y w = ap₂ (comes f) (first j w) (first i (omega arith)) ∙ left.rising i j (omega arith) y (omega (arith, long))

    across : (i j : ℕ) → i < j → j < length (a ++ b) → m ≤ j → comes f (get_or (a ++ b) j 0) (get_or (a ++ b) i 0) ≡ false
    across i j y t w =
        let n : j - m < length b = omega (arith, length-append a b, long) in
        three i m
        (λ v. ap₂ (comes f) (later j w) (first i v)
        ∙ comes_trans f (get_or a i 0) (get_or a (m - 1) 0) (get_or b (j - m) 0) (rises_on left i (m - 1) (omega arith) (omega arith) (omega (arith, long)))
        (comes_trans f (get_or a (m - 1) 0) (get_or b 0 0) (get_or b (j - m) 0) met (rises_on right 0 (j - m) (omega arith) (omega arith) n)))
        (λ v. ap₂ (comes f) (later j w) (later i (omega arith)) ∙ right.rising (i - m) (j - m) (omega arith) (omega arith) n)
        (λ v. ap₂ (comes f) (later j w) (later i (omega arith)) ∙ right.rising (i - m) (j - m) (omega arith) (omega arith) n)

    pub sorted_rises : Rises f (put_mid m (length (a ++ drop m s) - m) (a ++ drop m s) b) 0 (length (put_mid m (length (a ++ drop m s) - m) (a ++ drop m s) b))
    sorted_rises = rw joined (record { rising = λ i j x y t. three j m (λ w. low i j y w) (λ w. across i j y t (omega arith)) (λ w. across i j y t (omega arith)) })

  -- they are merged
  pub merged_same : {l r out after : List ℕ} → l ≡ take m (put_mid m (length (a ++ drop m s) - m) (a ++ drop m s) b) → r ≡ drop m (put_mid m (length (a ++ drop m s) - m) (a ++ drop m s) b)
      → IsPermutation (l ++ r) out → after ≡ out → IsPermutation s after
  merged_same {l} {r} {out} {after} el er o e =
      let t : l ++ r ≡ a ++ b = ap₂ ◌++◌ el er ∙ take-append-drop m _ ∙ joined in
      rw e (IsPermutation-trans s (a ++ b) out both (rw t at o))

-- ---- the loop that copies back: the first i of u are those of t

pub record Copying (t u : List ℕ) (i : ℕ) : Type 0 where
  pub long : length u ≡ length t
  pub done : (a : ℕ) → a < i → get_or u a 0 ≡ get_or t a 0

pub copy_start : (t s : List ℕ) → length s ≡ length t → Copying t s 0
copy_start t s h = record { long = h; done = λ a p. absurd (omega arith) }

module _ {t u : List ℕ} {i : ℕ} (k : Copying t u i) where
  pub copy_end : length u ≤ i → u ≡ t
  copy_end h = ext_get_or 0 u t k.long (λ a p. k.done a (omega arith))

  pub copy_on : i < length u → Copying t (set u i (get_or t i 0)) (i + 1)
  copy_on h = record {
    long = length-set u i (get_or t i 0) ∙ k.long;
    done = λ a p. three a i
        (λ w. get_or-set_other u i a (get_or t i 0) 0 (λ z. omega arith) ∙ k.done a w)
        (λ w. ap (λ (v : ℕ). get_or (set u i (get_or t i 0)) v 0) w ∙ get_or-set_same u i (get_or t i 0) 0 h ∙ ap (λ (v : ℕ). get_or t v 0) (sym w))
        (λ w. absurd (omega arith));
  }

-- ---- the index

pub record Numbering (m : ℕ) (u : List ℕ) (i : ℕ) : Type 0 where
  pub long : length u ≡ m
  pub each : (a : ℕ) → a < i → get_or u a 0 ≡ a

pub number-start : (u : List ℕ) → Numbering (length u) u 0
number-start u = record { long = refl; each = λ a p. absurd (omega arith) }

module _ {m : ℕ} {u : List ℕ} {i : ℕ} (k : Numbering m u i) where
  pub number-end : length u ≤ i → Counts (length u) u
  number-end h = record { room = omega arith; each = λ a p. k.each a (omega arith) }

  pub number-on : i < length u → Numbering m (set u i i) (i + 1)
  number-on h = record {
    long = length-set u i i ∙ k.long;
    each = λ a p. three a i
        (λ w. get_or-set_other u i a i 0 (λ z. omega arith) ∙ k.each a w)
        (λ w. ap (λ (v : ℕ). get_or (set u i i) v 0) w ∙ get_or-set_same u i i 0 h ∙ sym w)
        (λ w. absurd (omega arith));
  }

-- an index of all of a list is one of a list that goes on from it
pub index_made : {f : ℕ → List ℕ} {s after : List ℕ} → Counts (length s) s → IsPermutation s after → Rises f after 0 (length after) → Index f (length s) after
index_made {f} {s} {after} c p o =
    let l : length after ≡ length s = length_permutation s after p in
    record {
      room = omega arith;
      inside = λ j h. All-get_or (λ (v : ℕ). v < length s) after j 0 (omega arith) (All-permutation (λ (v : ℕ). v < length s) s after p below);
      onto = λ i h. found i (Contains-permutation s after i p (i, h, get_or_default_zero s i i h ∙ c.each i h));
      order = rw l at o;
    }
  where
    below : All (λ (v : ℕ). v < length s) s
    below = All-from_get_or (λ (v : ℕ). v < length s) s 0 (λ i h. let e = c.each i h in omega arith)

    found : (i : ℕ) → Contains after i → Stands i after 0 (length s)
    found i w = record { at = w.0; from = omega arith; below = let b = w.1 in let l = length_permutation s after p in omega arith; is = sym (get_or_default_zero after w.0 i w.1) ∙ w.2 }

-- what stands behind an index
index_longer : {f : ℕ → List ℕ} {n : ℕ} (s after : List ℕ) → Index f n s → length s ≡ n → Index f n (s ++ after)
index_longer {f} {n} s after o l = record {
  room = omega (arith, length-append s after, l);
  inside = λ j h. rw (at j h) (o.inside j h);
  onto = λ i h. let w = o.onto i h in record { at = w.at; from = w.from; below = w.below; is = at w.at w.below ∙ w.is };
  order = rises_same s (s ++ after) 0 n (λ i a b. at i b) o.order;
}
  where
    at : (i : ℕ) → i < n → get_or (s ++ after) i 0 ≡ get_or s i 0
    at i h = get_or_append_left s after 0 i (rw l h)

-- without room for n places nothing is promised
pub index_short : (f : ℕ → List ℕ) (n : ℕ) (s t after : List ℕ) → length s < n → n ≤ length s → n ≤ length t → Index f n after
index_short f n s t after h l m = absurd (omega arith)

pub index_short_too : (f : ℕ → List ℕ) (n : ℕ) (s t after : List ℕ) → length t < n → n ≤ length s → n ≤ length t → Index f n after
index_short_too f n s t after h l m = absurd (omega arith)

-- made at the start of more room
pub index_built : (f : ℕ → List ℕ) (n : ℕ) (s c k : List ℕ) → n ≤ length s → length c ≡ n → Counts (length c) c → IsPermutation (take n (c ++ drop n s)) k → Rises f k 0 (length k) → Index f n (k ++ drop n (c ++ drop n s))
index_built f n s c k h l p q o =
    let e : take n (c ++ drop n s) ≡ c = take_at c (drop n s) n l in
    let t : IsPermutation c k = rw e at q in
    let x : Index f n k = rw l at (index_made p t o) in
    index_longer k (drop n (c ++ drop n s)) x (length_permutation c k t ∙ l)
