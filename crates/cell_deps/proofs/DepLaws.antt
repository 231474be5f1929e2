-- A dep by its place in the four lists, and the four lists as one.
use mathlib.Core.Path.{◌≡◌, refl, sym, ap, ap₂, ◌∙◌}
use Prim.Native.Nat.{ℕ, zero, suc, ◌+◌, ◌-◌, ◌≤◌, ◌<◌}
use mathlib.Core.List.{List, [], ◌∷◌, ◌++◌, map, append_assoc}
use native.Mathlib.Nat.{le_of_suc-le-suc}
use native.Mathlib.Omega.{arith}
use borrow.Author.Tests.{lt-ltb, le-ltb}
use lib.ListN.{length, get_or, take}
use Rattle.molecule.specs.Layout.{span, fix_count, fix_item, fix_items}
use Rattle.lists.proofs.SpanLaws.{span-split}
use Rattle.list_writer.specs.ListWriter.{if_any}
use Rattle.cell_deps.specs.CellDeps.{before, any_count, last_dep_at, own_dep_at, dep_at, dep_count, all_deps}

-- ---- one dep

pub any_none : (s : List ℕ) → length s ≡ 0 → 0 ≡ any_count s
unfolding any_count
any_none [] h = refl
any_none (b ∷ s) h = let z : suc (length s) ≡ 0 = h in absurd (omega arith)

pub any_one : (s : List ℕ) → (length s ≡ 0 → ⊥) → 1 ≡ any_count s
unfolding any_count
any_one [] h = absurd (h refl)
any_one (b ∷ s) h = refl

module _ (m : ℕ) (f g : ℕ → List ℕ) (i : ℕ) where
  pub before_in : i < m → before m f g i ≡ f i
  unfolding before
  before_in h = rw (lt-ltb i m h)

  pub before_past : m ≤ i → before m f g i ≡ g (i - m)
  unfolding before
  before_past h = rw (le-ltb i m h)

pub count_all : (a b c d : List ℕ) {m n k l : ℕ} → m ≡ fix_count a → n ≡ fix_count b → l ≡ fix_count d → k ≡ any_count c → m + n + k + l ≡ dep_count a b c d
count_all a b c d em en el ek = rw (← em, ← en, ← el, ← ek) (omega arith)

-- ---- all of them

pub span_agree : {A : Type 0} (f g : ℕ → A) (i k : ℕ) → ((j : ℕ) → i ≤ j → j < i + k → f j ≡ g j) → span f i k ≡ span g i k
unfolding span
span_agree f g i zero h = refl
span_agree f g i (suc k) h =
    ap₂ (λ x l. x ∷ l) (h i (omega arith) (omega arith)) (span_agree f g (suc i) k (λ j p q. h j (omega arith) (omega arith)))

span_shift : {A : Type 0} (g : ℕ → A) (m i k : ℕ) → m ≤ i → span (λ j. g (j - m)) i k ≡ span g (i - m) k
unfolding span
span_shift g m i zero h = refl
span_shift g m i (suc k) h =
    let e : suc i - m ≡ suc (i - m) = omega arith in
    ap (λ l. g (i - m) ∷ l) (span_shift g m (suc i) k (omega arith) ∙ ap (λ n. span g n k) e)

pub span-before : (m : ℕ) (f g : ℕ → List ℕ) (k : ℕ) → span (before m f g) 0 (m + k) ≡ span f 0 m ++ span g 0 k
span-before m f g k =
    let e : m - m ≡ 0 = omega arith in
    let z : 0 + m ≡ m = omega arith in
    span-split (before m f g) 0 m k
    ∙ ap (λ n. span (before m f g) 0 m ++ span (before m f g) n k) z
    ∙ ap₂ ◌++◌ (span_agree (before m f g) f 0 m (λ j p q. before_in m f g j (omega arith)))
    (span_agree (before m f g) (λ j. g (j - m)) m k (λ j p q. before_past m f g j p) ∙ span_shift g m m k (omega arith) ∙ ap (λ n. span g n k) e)

any_span : (c : List ℕ) → span (λ _. c) 0 (any_count c) ≡ if_any c
unfolding any_count if_any span
any_span [] = refl
any_span (b ∷ s) = refl

regroup : (a b c d : List (List ℕ)) → a ++ (b ++ (c ++ d)) ≡ a ++ b ++ c ++ d
regroup a b c d = simp append_assoc

pub all_spans : (a b c d : List ℕ) → span (dep_at a b c d) 0 (dep_count a b c d) ≡ all_deps a b c d
unfolding dep_at own_dep_at last_dep_at
all_spans a b c d =
    span-before (fix_count a) (fix_item a 37) (own_dep_at b c d) (fix_count b + (any_count c + fix_count d))
    ∙ ap (λ l. fix_items 37 a ++ l) (span-before (fix_count b) (fix_item b 37) (last_dep_at c d) (any_count c + fix_count d)
    ∙ ap (λ l. fix_items 37 b ++ l) (span-before (any_count c) (λ _. c) (fix_item d 37) (fix_count d)
    ∙ ap (λ l. l ++ fix_items 37 d) (any_span c)))
    ∙ regroup (fix_items 37 a) (fix_items 37 b) (if_any c) (fix_items 37 d)

-- the chosen ones, by their number
pub map-span : (f : ℕ → List ℕ) (l : List ℕ) (n : ℕ) → n ≤ length l → map f (take n l) ≡ span (λ j. f (get_or l j 0)) 0 n
unfolding span
map-span f l zero h = refl
map-span f [] (suc n) h = absurd (omega arith)
map-span f (x ∷ l) (suc n) h =
    let k : n ≤ length l = le_of_suc-le-suc h in
    ap (λ ys. f x ∷ ys) (map-span f l n k ∙ sym (span_shift (λ j. f (get_or l j 0)) 1 1 n (omega arith)) ∙ sym (span_agree _ _ 1 n after))
  where
    after : (j : ℕ) → 1 ≤ j → j < 1 + n → f (get_or (x ∷ l) j 0) ≡ f (get_or l (j - 1) 0)
    after zero p q = absurd (omega arith)
    after (suc j) p q = let e : suc j - 1 ≡ j = omega arith in ap (λ i. f (get_or l i 0)) (sym e)
