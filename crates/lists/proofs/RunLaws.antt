-- Items of one size that lie next to each other, compared as one run of bytes.
use mathlib.Core.Path.{◌≡◌, refl, sym, ap, ap₂, ◌∙◌}
use Prim.Native.Nat.{ℕ, zero, suc, ◌+◌, ◌-◌, ◌*◌, ◌≤◌, ◌<◌}
use mathlib.Core.List.{List}
use mathlib.Core.Bool.{Bool, false, ◌&&◌, and-false}
use native.Mathlib.Nat.{mul-suc, mul-zero}
use native.Mathlib.Omega.{arith}
use borrow.Author.Tests.{lt-ltb}
use lib.ListN.{take, drop}
use lib.Seq.{drop-drop}
use Rattle.molecule.specs.Layout.{part, span, word, fix_count, fix_item, fix_items}
use Rattle.molecule.proofs.LayoutLaws.{fix_count_said}
use Rattle.lists.specs.Lists.{eq_bytes, extends}
use Rattle.lists.proofs.EqualLaws.{eq_split}

-- a list that has more items than the other
pub short : (f g : ℕ → List ℕ) (i r s : ℕ) → s < r → extends (span f i r) (span g i s) ≡ false
unfolding extends span
short f g i zero s h = absurd (omega arith)
short f g i (suc r) zero h = refl
short f g i (suc r) (suc s) h = ap (λ (x : Bool). eq_bytes (f i) (g i) && x) (short f g (suc i) r s (omega arith)) ∙ and-false (eq_bytes (f i) (g i))

-- an item is the first k bytes from its start on
pub item_run : (s : List ℕ) (k i : ℕ) → i < word s 0 → fix_item s k i ≡ take k (drop (4 + k * i) s)
unfolding fix_item part
item_run s k i h =
    let e : 4 + k * i + k - (4 + k * i) ≡ k = omega arith in
    rw (lt-ltb i (word s 0) h) (rw e)

pub next_run : (s : List ℕ) (k i : ℕ) → drop k (drop (4 + k * i) s) ≡ drop (4 + k * suc i) s
next_run s k i =
    let e : 4 + k * i + k ≡ 4 + k * suc i = rw (mul-suc k i) (omega arith) in
    drop-drop k (4 + k * i) s ∙ ap (λ (n : ℕ). drop n s) e

-- the items from i on are one run
pub run : (a b : List ℕ) (k i r s : ℕ) → r ≤ s → i + r ≤ word a 0 → i + s ≤ word b 0
    → extends (span (fix_item a k) i r) (span (fix_item b k) i s) ≡ eq_bytes (take (k * r) (drop (4 + k * i) a)) (take (k * r) (drop (4 + k * i) b))
unfolding extends span eq_bytes
run a b k i zero s h p q = rw (mul-zero k)
run a b k i (suc r) zero h p q = absurd (omega arith)
run a b k i (suc r) (suc s) h p q =
    let ea : fix_item a k i ≡ take k (drop (4 + k * i) a) = item_run a k i (omega arith) in
    let eb : fix_item b k i ≡ take k (drop (4 + k * i) b) = item_run b k i (omega arith) in
    let m : k * suc r ≡ k + k * r = rw (mul-suc k r) (omega arith) in
    ap₂ (λ (x y : Bool). x && y) (ap₂ eq_bytes ea eb) (run a b k (suc i) r s (omega arith) (omega arith) (omega arith))
    ∙ sym
    (ap (λ (n : ℕ). eq_bytes (take n (drop (4 + k * i) a)) (take n (drop (4 + k * i) b))) m
    ∙ eq_split k (k * r) (drop (4 + k * i) a) (drop (4 + k * i) b)
    ∙ ap (λ (x : Bool). eq_bytes (take k (drop (4 + k * i) a)) (take k (drop (4 + k * i) b)) && x)
    (ap₂ (λ (u v : List ℕ). eq_bytes (take (k * r) u) (take (k * r) v)) (next_run a k i) (next_run b k i)))

-- what fix_extends has at hand
pub run_short : (a b : List ℕ) (k : ℕ) {m n : ℕ} → m ≡ fix_count a → n ≡ fix_count b → n < m → false ≡ extends (fix_items k a) (fix_items k b)
run_short a b k {m} {n} ea eb h = rw (← ea, ← eb) (sym (short (fix_item a k) (fix_item b k) 0 m n h))

pub run_whole : (a b : List ℕ) (k : ℕ) {x y : List ℕ} {m n : ℕ} {r : Bool} → m ≡ fix_count a → n ≡ fix_count b → m ≤ n → x ≡ part a 4 (4 + k * m) → y ≡ part b 4 (4 + k * m)
    → r ≡ eq_bytes x y → r ≡ extends (fix_items k a) (fix_items k b)
unfolding part
run_whole a b k {x} {y} {m} {n} ea eb h ex ey e =
    let z : 4 + k * m - 4 ≡ k * m = omega arith in
    let o : 4 + k * 0 ≡ 4 = rw (mul-zero k) in
    e ∙ ap₂ eq_bytes ex ey
    ∙ ap (λ (j : ℕ). eq_bytes (take j (drop 4 a)) (take j (drop 4 b))) z
    ∙ sym (rw (← ea, ← eb) (run a b k 0 m n h (omega (arith, fix_count_said a)) (omega (arith, fix_count_said b)) ∙ ap (λ (j : ℕ). eq_bytes (take (k * m) (drop j a)) (take (k * m) (drop j b))) o))
