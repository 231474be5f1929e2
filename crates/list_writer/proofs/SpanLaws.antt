-- The bytes of k values of f from b on, one after the other, and where each begins.
use mathlib.Core.Path.{◌≡◌, refl, sym, ap, ◌∙◌}
use Prim.Native.Nat.{ℕ, zero, suc, ◌+◌, ◌-◌, ◌≤◌, ◌<◌}
use mathlib.Core.List.{List, [], ◌∷◌, ◌++◌, flatten, append_assoc, append-nil}
use native.Mathlib.Numerals.{add-one}
use native.Mathlib.Omega.{arith}
use lib.ListN.{length, length-append}
use Rattle.arithmetic.specs.LittleEndian.{to_le}
use Rattle.molecule.specs.Items.{unwords, offsets}
use Rattle.molecule.specs.Layout.{span}
use Rattle.list_writer.specs.Around.{offset_words}

span_snoc : {A : Type 0} (f : ℕ → A) (b n : ℕ) → span f b (suc n) ≡ span f b n ++ (f (n + b) ∷ [])
unfolding span
span_snoc f b zero = let e : b ≡ 0 + b = omega arith in ap (λ i. f i ∷ []) e
span_snoc f b (suc n) =
    let e : n + suc b ≡ suc n + b = omega arith in
    ap (λ l. f b ∷ l) (span_snoc f (suc b) n ∙ ap (λ i. span f (suc b) n ++ (f i ∷ [])) e)

pub flatten_append : (xs ys : List (List ℕ)) → flatten (xs ++ ys) ≡ flatten xs ++ flatten ys
unfolding flatten
flatten_append [] ys = refl
flatten_append (x ∷ xs) ys = ap (λ (l : List ℕ). x ++ l) (flatten_append xs ys) ∙ sym (append_assoc x (flatten xs) (flatten ys))

pub offsets-append : (o : ℕ) (xs ys : List (List ℕ)) → offsets o (xs ++ ys) ≡ offsets o xs ++ offsets (o + length (flatten xs)) ys
unfolding offsets flatten
offsets-append o [] ys = let e : o ≡ o + 0 = omega arith in ap (λ (n : ℕ). offsets n ys) e
offsets-append o (x ∷ xs) ys =
    let e : o + length x + length (flatten xs) ≡ o + length (x ++ flatten xs) = omega (arith, length-append x (flatten xs)) in
    ap (λ (l : List ℕ). o ∷ l) (offsets-append (o + length x) xs ys ∙ ap (λ (n : ℕ). offsets (o + length x) xs ++ offsets n ys) e)

pub unwords-append : (ms ns : List ℕ) → unwords (ms ++ ns) ≡ unwords ms ++ unwords ns
unfolding unwords
unwords-append [] ns = refl
unwords-append (m ∷ ms) ns = ap (λ (l : List ℕ). to_le 4 m ++ l) (unwords-append ms ns) ∙ sym (append_assoc (to_le 4 m) (unwords ms) (unwords ns))

-- ---- the bytes of the first n of them

unfoldable pub body : (ℕ → List ℕ) → ℕ → ℕ → List ℕ
body f b n = flatten (span f b n)

module _ (f : ℕ → List ℕ) (b : ℕ) where
  pub body_is : (n : ℕ) → flatten (span f b n) ≡ body f b n
  unfolding body
  body_is n = refl

  pub body_none : body f b 0 ≡ []
  unfolding body span flatten
  body_none = refl

  pub body_more : (i : ℕ) → body f b (i + 1) ≡ body f b i ++ f (i + b)
  unfolding body flatten
  body_more i =
      ap (λ (n : ℕ). flatten (span f b n)) (add-one i) ∙ ap flatten (span_snoc f b i) ∙ flatten_append (span f b i) (f (i + b) ∷ [])
      ∙ ap (λ (l : List ℕ). flatten (span f b i) ++ l) (append-nil (f (i + b)))

  pub body_next : (i : ℕ) → length (body f b (i + 1)) ≡ length (body f b i) + length (f (i + b))
  body_next i = ap length (body_more i) ∙ length-append (body f b i) (f (i + b))

  body_le : (i k : ℕ) → length (body f b i) ≤ length (body f b (i + k))
  body_le i zero = let e : i + 0 ≡ i = omega arith in rw e (omega arith)
  body_le i (suc k) = let e : i + suc k ≡ i + k + 1 = omega arith in rw e (omega (arith, body_le i k, body_next (i + k)))

  -- an item and all before it are no more than all
  pub body_in : (i m : ℕ) → i < m → length (body f b i) + length (f (i + b)) ≤ length (body f b m)
  body_in i m h =
      let e : i + 1 + (m - (i + 1)) ≡ m = omega arith in
      rw (body_next i, e) at (body_le (i + 1) (m - (i + 1)))

-- ---- where each of them begins

pub places-none : (o : ℕ) (f : ℕ → List ℕ) (b : ℕ) → offset_words o (span f b 0) ≡ []
unfolding offset_words span offsets unwords
places-none o f b = refl

pub places-more : (o : ℕ) (f : ℕ → List ℕ) (b i : ℕ) → offset_words o (span f b (i + 1)) ≡ offset_words o (span f b i) ++ to_le 4 (o + length (body f b i))
unfolding offset_words body
places-more o f b i =
    ap (λ (l : List (List ℕ)). unwords (offsets o l)) (ap (λ (n : ℕ). span f b n) (add-one i) ∙ span_snoc f b i)
    ∙ ap unwords (offsets-append o (span f b i) (f (i + b) ∷ []))
    ∙ unwords-append (offsets o (span f b i)) (offsets (o + length (flatten (span f b i))) (f (i + b) ∷ []))
    ∙ ap (λ (l : List ℕ). unwords (offsets o (span f b i)) ++ l) (one (o + length (flatten (span f b i))) (f (i + b)))
  where
    one : (n : ℕ) (x : List ℕ) → unwords (offsets n (x ∷ [])) ≡ to_le 4 n
    one n x = unfold unwords in unfold offsets in append-nil (to_le 4 n)
