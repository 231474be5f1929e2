-- Laws of the capacity account: the capacity of a cell, and sums of capacities.
use Rattle.std.proofs.Common.{◌≡◌, ℕ, zero, suc, ◌+◌, ◌-◌, ◌*◌, ◌^◌, ◌<◌, ◌≤◌, List, ap, ◌∙◌, refl, arith, zero-add, ltb-true, Fits, w32}
use Rattle.units.specs.declared.{Shannons.Shannons}
use Rattle.units.specs.Units.{in_shannons, shannon_count, capped_sum}
use Rattle.units.proofs.CountLaws.{capped_near}
use Rattle.molecule.specs.Layout.{span, item_count, item_of}
use Rattle.lists.proofs.SpanLaws.{span-on, span-end}
use Rattle.transaction.specs.Tx.{first_of}
use Rattle.transaction.specs.Tx as tx
use Rattle.transaction.specs.Cells.{Cell}
use Rattle.rules.specs.Records.{record_cell}
use Rattle.rules.specs.Surplus.{total, cell_capacity}
use Rattle.accounts.specs.Added.{cell_in, cells_from}

-- ---- the capacity of one cell

pub record_capacity : (x : List ℕ) {o : List ℕ} {r : Shannons} → o ≡ first_of x → r ≡ in_shannons (tx.capacity_of o)
    → shannon_count r ≡ cell_capacity (record_cell x)
unfolding cell_capacity
record_capacity x {o} eo er = ap shannon_count er ∙ ap tx.capacity_of eo

pub output-capacity : (f g : List ℕ) (i : ℕ) {o : List ℕ} {r : Shannons} → o ≡ item_of f i → r ≡ in_shannons (tx.capacity_of o)
    → shannon_count r ≡ cell_capacity (cell_in f g i)
unfolding cell_in cell_capacity
output-capacity f g i {o} eo er = ap shannon_count er ∙ ap tx.capacity_of eo

-- ---- sums over cells

-- R is the whole sum: what is summed, and the cells from i on; k cells are summed, each below 2^64
pub record Sums (f : ℕ → Cell) (n i : ℕ) (sum : Shannons) (R : ℕ) : Type 0 where
  pub rest : shannon_count sum + total cell_capacity (span f i (n - i)) ≡ R
  pub far : shannon_count sum ≤ 2 ^ 64 * i

pub sums-from : (f g : List ℕ) (k : ℕ) {n : ℕ} → n ≡ item_count f → Sums (cell_in f g) n k (in_shannons 0) (total cell_capacity (cells_from f g k))
sums-from f g k {n} e = record { rest = zero-add _ ∙ ap (λ (m : ℕ). total cell_capacity (span (cell_in f g) k (m - k))) e; far = omega arith }

-- far from 2^128, since fewer than 2^32 cells are summed
turns : (q i n : ℕ) → i < n → q * i + q ≤ q * n
turns q i zero h = absurd (omega arith)
turns q zero (suc n) h = omega arith
turns q (suc i) (suc n) h = omega (arith, turns q i n (omega arith))

room : (c q a x i n : ℕ) → q * n < c → a ≤ q * i → x < q → i < n → a + x < c
room c q a x i n h k l m = omega (arith, turns q i n m)

below : (n : ℕ) → Fits w32 n → 2 ^ 64 * n < 2 ^ 128
below n h = trans (2 ^ 64 * n) (2 ^ 96) (2 ^ 128) (by n h.fits) (ltb-true (2 ^ 96) (2 ^ 128) refl)
  where
    by : (n : ℕ) → n < 2 ^ 32 → 2 ^ 64 * n < 2 ^ 96
    by n h = omega arith

    trans : (a b c : ℕ) → a < b → b < c → a < c
    trans a b c h k = omega arith

module _ {f : ℕ → Cell} {n i : ℕ} {sum : Shannons} {R : ℕ} (h : Sums f n i sum R) where
  pub sums-more : (x : Shannons) {t : Shannons} → i < n → Fits w32 n → shannon_count x ≡ cell_capacity (f i) → shannon_count x < 2 ^ 64 → t ≡ capped_sum sum x
      → Sums f n (i + 1) t R
  unfolding total
  sums-more x {t} l w e s g =
      let c : shannon_count t ≡ shannon_count sum + shannon_count x =
      capped_near sum x g (room (2 ^ 128) (2 ^ 64) (shannon_count sum) (shannon_count x) i n (below n w) h.far s l) in
      let z : total cell_capacity (span f i (n - i)) ≡ cell_capacity (f i) + total cell_capacity (span f (i + 1) (n - (i + 1))) = ap (total cell_capacity) (span-on f i n l) in
      record { rest = by (shannon_count t) (shannon_count sum) (shannon_count x) _ _ _ c e z ∙ h.rest; far = up (2 ^ 64) (shannon_count t) (shannon_count sum) (shannon_count x) i c h.far s }
    where
      by : (t s x y a b : ℕ) → t ≡ s + x → x ≡ y → a ≡ y + b → t + b ≡ s + a
      by t s x y a b p q r = omega arith

      up : (q t s x i : ℕ) → t ≡ s + x → s ≤ q * i → x < q → t ≤ q * (i + 1)
      up q t s x i p h k = omega arith

  pub sums-end : n ≤ i → shannon_count sum ≡ R
  unfolding total
  sums-end l =
      let z : total cell_capacity (span f i (n - i)) ≡ 0 = ap (total cell_capacity) (span-end f i n l) in
      by (shannon_count sum) _ z ∙ h.rest
    where
      by : (s a : ℕ) → a ≡ 0 → s ≡ s + a
      by s a z = omega arith
