-- The capacities that cross as one word have 64 bits: the word is the whole capacity. No code needs it.
use mathlib.Core.Path.{◌≡◌, refl, sym, subst}
use Prim.Native.Nat.{ℕ, ◌^◌, ◌<◌}
use mathlib.Core.Bool.{Bool, true, false, cond}
use mathlib.Core.List.{List, []}
use native.Mathlib.Omega.{arith}
use lib.ListN.{length}
use lib.Dec.{eqb}
use Rattle.arithmetic.specs.LittleEndian.{AllBytes}
use Rattle.molecule.specs.Molecule.{readable, option}
use Rattle.molecule.specs.Layout.{items_of}
use Rattle.transaction.specs.Ckb.{Script}
use Rattle.error.specs.Outcome.{Outcome, fine, refused, answer_by, check, check_with, given}
use Rattle.transaction.specs.Tx.{read_ours}
use Rattle.units.specs.Units.{Figures}
use Rattle.error.proofs.Passed.{never, fine_inj, bound-fine, check-fine, then-fine}
use Rattle.words.specs.Words.{low}
use Rattle.funding_cell.specs.declared.{FundingRequest.FundingRequest}
use Rattle.funding_cell.specs.FundingCell.{build_funding_cell}
use Rattle.funding_cell.proofs.FundingCellLaws.{capacity-low}
use Rattle.cell_output.specs.CellOutput.{cell_output}
use Rattle.transaction_writer.specs.Written.{fits}
use Rattle.udt_cells.specs.Pick.{Pick, pick_typed}
use Rattle.udt_cells.specs.Change.{Built, Made, made, capacity_for, lent, with_output, with_change, udt_made, udt_inputs_outputs}
use Rattle.udt_cells.proofs.ChangeLaws as laws

whole : (n : ℕ) → n < 2 ^ 64 → low n ≡ n
whole n h = omega arith

-- ---- the funding cell

pub cell-capacity : (ours udt : List ℕ) (r : FundingRequest) (f : Figures) → build_funding_cell ours udt r ≡ fine f → low f.capacity ≡ f.capacity
unfolding build_funding_cell
cell-capacity ours udt r f e =
    let (tx, o, e₁) = bound-fine (given 1 (read_ours ours)) _ f e in
    let (t, e₂) = check-fine 3 (readable (option Script) udt) _ f e₁ in
    whole f.capacity (capacity-low _ _ r f e₂)

-- ---- the change

-- the capacity of what a call makes, if it is no refusal
abbrev Low : Outcome Made → Type 0
Low o = (m : Made) → o ≡ fine m → m.figures.capacity < 2 ^ 64

made-low : (taken change capacity : ℕ) (output : List ℕ) → capacity < 2 ^ 64 → Low (made taken change capacity output)
made-low taken change capacity output h m e = subst (λ (x : Made). x.figures.capacity < 2 ^ 64) (fine_inj e) h

output-low : (taken change capacity : ℕ) (output : List ℕ) (room : ℕ) → capacity < 2 ^ 64 → Low (with_output taken change capacity output room)
unfolding with_output
output-low taken change capacity output room h m e = made-low taken change capacity output h m (check-fine 13 (fits (length output) room) _ m e).1

either : (t : Bool) (x y : Outcome Made) → Low x → Low y → Low (cond t x y)
either true x y p q = p
either false x y p q = q

-- what is answered is of what is made
made-fine : (o : Outcome Made) (b : Built) → answer_by (λ m. m.figures) o ≡ fine b → (m : Made) × (o ≡ fine m) × (m.figures ≡ b)
unfolding answer_by
made-fine (fine m) b e = (m, refl, fine_inj e)
made-fine (refused n l) b e = absurd (never n l b e)

module _ (cells udt source : List ℕ) (bu : AllBytes udt) (bs : AllBytes source) (room : ℕ) where
  change-low : lent cells udt source ≡ fine tt → (p : Pick) → Low (with_change source udt p room)
  unfolding with_change
  change-low e p =
      let r : check 3 true ≡ lent cells udt source = unfold check in unfold check_with in sym e in
      let h = laws.capacity-below source udt bs bu (laws.lent_script cells udt source true r refl) (laws.lent-option cells udt source true r refl) in
      let capacity = capacity_for source udt in
      let output = cell_output capacity source udt in
      either (eqb p.change 0) (made p.taken 0 0 []) (with_output p.taken p.change capacity output room)
      (made-low p.taken 0 0 [] (omega arith)) (output-low p.taken p.change capacity output room h)

  made_low : (wanted : ℕ) → Low (udt_made cells udt source wanted room)
  unfolding udt_made
  made_low wanted m e =
      let (l, e₁) = then-fine (lent cells udt source) _ m e in
      let (p, _, e₂) = bound-fine (pick_typed udt wanted (items_of cells)) _ m e₁ in
      change-low l p m e₂

pub pick-capacity : (cells udt source : List ℕ) → AllBytes udt → AllBytes source → (out : List ℕ) (wanted : ℕ) (b : Built)
    → (udt_inputs_outputs cells udt source wanted out).0 ≡ fine b → low b.capacity ≡ b.capacity
unfolding udt_inputs_outputs
pick-capacity cells udt source bu bs out wanted b e =
    let (m, f, g) = made-fine (udt_made cells udt source wanted (length out)) b e in
    whole b.capacity (subst (λ (x : Built). x.capacity < 2 ^ 64) g (made_low cells udt source bu bs (length out) wanted m f))
