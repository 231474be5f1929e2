-- What holds of every pick: the cells that it takes hold what is wanted and the change, and later cells are unread.
use mathlib.Core.Path.{◌≡◌, refl, sym, ap, ◌∙◌, subst}
use Prim.Native.Nat.{ℕ, suc, ◌+◌, ◌-◌, ◌≤◌}
use mathlib.Core.Bool.{Bool, true, false}
use mathlib.Core.List.{List, [], ◌∷◌, ◌++◌}
use native.Mathlib.Omega.{arith}
use borrow.Author.Tests.{leb-true}
use lib.ListN.{take}
use lib.Dec.{leb}
use Rattle.arithmetic.specs.LittleEndian.{le}
use Rattle.transaction.specs.Tx.{data_of}
use Rattle.error.specs.Outcome.{Outcome, fine, ◌>>=◌}
use Rattle.error.proofs.Passed.{never, fine_inj, bound-fine, check-fine}
use Rattle.udt_cells.specs.Pick.{Pick, plus_cell, enough_or, pick_from}
use Rattle.udt_cells.proofs.PickLaws.{enough}

-- the amounts of cells, summed
abbrev pub held : List (List ℕ) → ℕ
held [] = 0
held (cell ∷ cells) = le (take 16 (data_of cell)) + held cells

plus_fine : (total : ℕ) (cell : List ℕ) (sum : ℕ) → plus_cell total cell ≡ fine sum → sum ≡ total + le (take 16 (data_of cell))
unfolding plus_cell
plus_fine total cell sum e =
    let (a, e₁) = check-fine 12 _ _ sum e in
    let (b, e₂) = check-fine 10 _ _ sum e₁ in
    sym (fine_inj e₂)

one_more : (wanted taken total : ℕ) (cell : List ℕ) (cells : List (List ℕ)) {sum : ℕ} → leb wanted total ≡ false → plus_cell total cell ≡ fine sum
    → pick_from wanted taken total (cell ∷ cells) ≡ pick_from wanted (taken + 1) sum cells
unfolding pick_from enough_or ◌>>=◌
one_more wanted taken total cell cells f s = rw (f, s)

-- A pick that has `taken` cells of `total` so far takes `more` further ones. With these the total is what is wanted and the change, and behind them any
-- cells may stand.
record Took (wanted taken total : ℕ) (cells : List (List ℕ)) (p : Pick) : Type 0 where
  pub more : ℕ
  pub count : p.taken ≡ taken + more
  pub sums : total + held (take more cells) ≡ wanted + p.change
  pub unread : (rest : List (List ℕ)) → pick_from wanted taken total (take more cells ++ rest) ≡ fine p

stop : (wanted taken total : ℕ) (cells : List (List ℕ)) (p : Pick) → wanted ≤ total → ◌≡◌ {A = Outcome Pick} (fine (record { taken = taken; change = total - wanted })) (fine p)
    → Took wanted taken total cells p
stop wanted taken total cells p h e =
    let q : record { taken = taken; change = total - wanted } ≡ p = fine_inj e in
    let t : taken ≡ p.taken = ap (λ (x : Pick). x.taken) q in
    let c : total - wanted ≡ p.change = ap (λ (x : Pick). x.change) q in
    record {
      more = 0;
      count = omega arith;
      sums = omega arith;
      unread = λ rest. enough wanted taken total rest h ∙ e;
    }

took : (wanted taken total : ℕ) (cells : List (List ℕ)) (p : Pick) → pick_from wanted taken total cells ≡ fine p → Took wanted taken total cells p
unfolding pick_from enough_or
took wanted taken total [] p e = by (leb wanted total) refl
  where
    by : (b : Bool) → leb wanted total ≡ b → Took wanted taken total [] p
    by true f = stop wanted taken total [] p (leb-true wanted total f) (rw f at e)
    by false f = absurd (never 9 [] p (rw f at e))
took wanted taken total (cell ∷ cells) p e = by (leb wanted total) refl (λ sum g. took wanted (taken + 1) sum cells p g)
  where
    by : (b : Bool) → leb wanted total ≡ b → ((sum : ℕ) → pick_from wanted (taken + 1) sum cells ≡ fine p → Took wanted (taken + 1) sum cells p)
        → Took wanted taken total (cell ∷ cells) p
    by true f later = stop wanted taken total (cell ∷ cells) p (leb-true wanted total f) (rw f at e)
    by false f later =
        let (sum, s, g) = bound-fine (plus_cell total cell) (λ sum. pick_from wanted (taken + 1) sum cells) p (rw f at e) in
        let t = later sum g in
        let n : sum ≡ total + le (take 16 (data_of cell)) = plus_fine total cell sum s in
        record {
          more = suc t.more;
          count = omega (arith, t.count);
          sums = omega (arith, t.sums);
          unread = λ rest. one_more wanted taken total cell (take t.more cells ++ rest) f s ∙ t.unread rest;
        }

-- The taken cells hold what is wanted and the change; and with any other cells behind them the pick is the same.
pub picked : (wanted : ℕ) (cells : List (List ℕ)) (p : Pick) → pick_from wanted 0 0 cells ≡ fine p
    → (held (take p.taken cells) ≡ wanted + p.change) × ((rest : List (List ℕ)) → pick_from wanted 0 0 (take p.taken cells ++ rest) ≡ fine p)
picked wanted cells p e =
    let t = took wanted 0 0 cells p e in
    let n : t.more ≡ p.taken = omega (arith, t.count) in (
      subst (λ (k : ℕ). held (take k cells) ≡ wanted + p.change) n (omega (arith, t.sums)),
      λ rest. subst (λ (k : ℕ). pick_from wanted 0 0 (take k cells ++ rest) ≡ fine p) n (t.unread rest),
    )
