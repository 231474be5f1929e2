-- The cells of a transaction and of records, by the bytes: what code reads by index is what the rules speak of.
use mathlib.Core.Path.{◌≡◌, refl, sym, ap, ap₂, ◌∙◌}
use Prim.Native.Nat.{ℕ, zero, suc, ◌+◌, ◌-◌, ◌≤◌, ◌<◌, max}
use mathlib.Core.List.{List, [], ◌∷◌}
use native.Mathlib.Omega.{arith}
use lib.ListN.{length, drop}
use Rattle.molecule.specs.Layout.{span, item_count, item_of, entry_of}
use Rattle.molecule.proofs.LayoutLaws.{entry_past}
use Rattle.lists.proofs.SpanLaws.{span-on, span-whole, span-drop}
use Rattle.transaction.specs.Tx.{tx_at, raw_field}
use Rattle.transaction.specs.Cells.{Cell, pair, cells}
use Rattle.rules.specs.Surplus.{added}

-- output i of a transaction with its data
unfoldable pub cell_at : List ℕ → ℕ → Cell
cell_at s i = record { output = item_of (raw_field s 4) i; cell_data = entry_of (raw_field s 5) i }

pair-span : (f g : ℕ → List ℕ) (i k l : ℕ) → ((j : ℕ) → i + l ≤ j → g j ≡ [])
    → pair (span f i k) (span g i l) ≡ span (λ j. record { output = f j; cell_data = g j }) i k
unfolding span
pair-span f g i zero l h = refl
pair-span f g i (suc k) zero h =
    let e : g i ≡ [] = h i (omega arith) in
    rw e (ap (λ (cs : List Cell). record { output = f i; cell_data = [] } ∷ cs) (pair-span f g (suc i) k zero (λ j m. h j (omega arith))))
pair-span f g i (suc k) (suc l) h =
    ap (λ (cs : List Cell). record { output = f i; cell_data = g i } ∷ cs) (pair-span f g (suc i) k l (λ j m. h j (omega arith)))

pub cells_are : (s : List ℕ) → cells (tx_at s) ≡ span (cell_at s) 0 (item_count (raw_field s 4))
unfolding cell_at
cells_are s = pair-span (item_of (raw_field s 4)) (entry_of (raw_field s 5)) 0 (item_count (raw_field s 4)) (item_count (raw_field s 5)) (λ j m. entry_past (raw_field s 5) j (omega arith))

-- by their count: none, or the first and the rest
module _ (s : List ℕ) {n : ℕ} (e : n ≡ item_count (raw_field s 4)) where
  pub cells-none : n ≡ 0 → cells (tx_at s) ≡ []
  unfolding span
  cells-none h = cells_are s ∙ ap (span (cell_at s) 0) (sym e ∙ h)

  pub cells-some : (n ≡ 0 → ⊥) → cells (tx_at s) ≡ cell_at s 0 ∷ span (cell_at s) 1 (item_count (raw_field s 4) - 1)
  cells-some h =
      let l : 0 < item_count (raw_field s 4) = omega arith in
      cells_are s ∙ span-whole (cell_at s) (item_count (raw_field s 4)) ∙ span-on (cell_at s) 0 (item_count (raw_field s 4)) l

-- the added outputs are the cells from a place on
pub added_is : (o p : List ℕ) {k : ℕ} → k ≡ max 1 (length (tx_at o).outputs) → added (tx_at o) (tx_at p) ≡ span (cell_at p) k (item_count (raw_field p 4) - k)
added_is o p {k} e =
    ap₂ (λ (n : ℕ) (cs : List Cell). drop n cs) (sym e) (cells_are p)
    ∙ span-drop (cell_at p) k 0 (item_count (raw_field p 4))
    ∙ (let z : 0 + k ≡ k = omega arith in ap (λ (j : ℕ). span (cell_at p) j (item_count (raw_field p 4) - k)) z)
