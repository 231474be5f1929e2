-- Laws of `keep` and of the front of a list.
use mathlib.Core.Path.{◌≡◌, refl, sym, ap, ◌∙◌}
use Prim.Native.Nat.{ℕ, zero, suc, ◌+◌, ◌<◌, min}
use native.Mathlib.Numerals.{add-one}
use native.Mathlib.Nat.{zero-min, suc-min-suc}
use mathlib.Core.Bool.{Bool, true, false, cond}
use mathlib.Core.List.{List, [], ◌∷◌, ◌++◌, map, append-nil}
use lib.ListN.{length, get_or, take, set, length-map}
use lib.Seq.{take-suc, take-suc-set, take-nil}
use Rattle.std.specs.List.{filter}

-- the length of a field that is an array of structs, from what owning a parameter tells
pub length_mapped : (X Y : Type 0) (f : X → Y) (l : List X) (n : ℕ) → length (map f l) ≡ n → length l ≡ n
length_mapped X Y f l n e = sym (length-map l f) ∙ e

module _ {A : Type 0} where
  pub take_next : (l : List A) (i : ℕ) (d : A) → i < length l → take (i + 1) l ≡ take i l ++ (get_or l i d ∷ [])
  take_next l i d h = rw add-one (take-suc l i d h)

  pub take_put : (l : List A) (i : ℕ) (x : A) → i < length l → take (i + 1) (set l i x) ≡ take i l ++ (x ∷ [])
  take_put l i x h = rw add-one (take-suc-set l i x h)

  -- what is past the end does not count
  take_min : (n : ℕ) (l : List A) → take (min n (length l)) l ≡ take n l
  take_min zero l = ap (λ (k : ℕ). take k l) (zero-min (length l))
  take_min (suc n) [] = take-nil (min (suc n) 0)
  take_min (suc n) (x ∷ l) = ap (λ (k : ℕ). take k (x ∷ l)) (suc-min-suc n (length l)) ∙ ap (λ (t : List A). x ∷ t) (take_min n l)

  -- a table's records, where i is how many stand
  pub take_used : (l : List A) (i n m : ℕ) → length l ≡ m → i ≡ min n m → take i l ≡ take n l
  take_used l i n m e h = rw (h, ← e) (take_min n l)

  pub keep_snoc : (f : A → Bool) (l : List A) (x : A) → filter f (l ++ (x ∷ [])) ≡ filter f l ++ filter f (x ∷ [])
  keep_snoc f [] x = refl
  keep_snoc f (y ∷ l) x = go (f y) (keep_snoc f l x)
    where
      go : (b : Bool) → filter f (l ++ (x ∷ [])) ≡ filter f l ++ filter f (x ∷ []) → cond b (y ∷ filter f (l ++ (x ∷ []))) (filter f (l ++ (x ∷ []))) ≡ cond b (y ∷ filter f l) (filter f l) ++ filter f (x ∷ [])
      go true e = ap (λ (t : List A). y ∷ t) e
      go false e = e

-- one more element of l, which is kept or not
module _ {A : Type 0} (f : A → Bool) (l : List A) where
  pub keeps : (g : List A) (k i : ℕ) (d : A) → k < length g → i < length l → take k g ≡ filter f (take i l) → f (get_or l i d) ≡ true → take (k + 1) (set g k (get_or l i d)) ≡ filter f (take (i + 1) l)
  keeps g k i d hk hi a e = rw (take_put g k (get_or l i d) hk, take_next l i d hi, keep_snoc f (take i l) (get_or l i d), a, e)

  pub drops : (g : List A) (k i : ℕ) (d : A) → i < length l → take k g ≡ filter f (take i l) → f (get_or l i d) ≡ false → take k g ≡ filter f (take (i + 1) l)
  drops g k i d hi a e = rw (take_next l i d hi, keep_snoc f (take i l) (get_or l i d), e) (a ∙ sym (append-nil (filter f (take i l))))
