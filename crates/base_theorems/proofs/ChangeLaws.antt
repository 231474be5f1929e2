-- Laws of the picked cells and of their change: its output, its data, and the cell that they are.
use mathlib.Core.Path.{◌≡◌, refl, ap, ap₂, sym, ◌∙◌}
use Prim.Native.Nat.{ℕ, zero, suc, ◌+◌, ◌^◌, ◌≤◌, ◌<◌}
use mathlib.Core.Bool.{false}
use mathlib.Core.List.{List, [], ◌∷◌, ◌++◌, map}
use native.Mathlib.Omega.{arith}
use lib.ListN.{length, take, drop, length-append}
use lib.Seq.{drop-nil, drop_at}
use Rattle.arithmetic.specs.LittleEndian.{to_le}
use Rattle.arithmetic.proofs.LittleEndianLaws.{length-to_le}
use Rattle.molecule.specs.Partial.{All}
use Rattle.molecule.specs.Layout.{span, item_of, content}
use Rattle.transaction.specs.Cells.{pair}
use Rattle.error.specs.Outcome.{fine}
use Rattle.lists.specs.Lists.{is_empty}
use Rattle.cell_output.specs.CellOutput.{cell_output}
use Rattle.cell_output.proofs.CellOutputLaws.{output-length}
use Rattle.udt_cells.specs.Pick.{Pick, pick_typed}
use Rattle.udt_cells.specs.Change.{capacity_for}
use Rattle.udt_cells.proofs.ChangeLaws.{args_within}
use Rattle.udt_cells.proofs.OutputReads.{output-lock, output-type, output-capacity}
use Rattle.udt_cells.proofs.PickTheorems as theorems
use Rattle.udt_cells.proofs.PickTheorems.{held}
use Rattle.list_writer.specs.ListWriter.{bytes_item, if_any, if_positive}
use Rattle.base_inputs.specs.BaseInputs.{picked_input, picked}
use Rattle.base_lists.specs.BaseLists.{amount_item}
use Rattle.funding_builder.specs.Base.{Lent, change_output_capacity}
use Rattle.base_theorems.proofs.Claims.{Changes}
use Rattle.base_theorems.proofs.BeginLaws.{map-append}
use Rattle.base_theorems.proofs.PackedLaws.{item-content}

-- ---- the cells that are taken

pub spends : (cells : List ℕ) (i k m : ℕ) → k ≤ m → span (picked cells) i k ≡ map picked_input (take k (span (item_of cells) i m))
unfolding span picked
spends cells i zero m h = refl
spends cells i (suc k) zero h = absurd (omega arith)
spends cells i (suc k) (suc m) h = ap (λ (l : List (List ℕ)). picked_input (item_of cells i) ∷ l) (spends cells (suc i) k m (omega arith))

pub typed-amounts : (udt : List ℕ) (wanted : ℕ) (cells : List (List ℕ)) (p : Pick) → pick_typed udt wanted cells ≡ fine p → is_empty udt ≡ false
    → held (take p.taken cells) ≡ wanted + p.change
unfolding pick_typed
typed-amounts udt wanted cells p e f = (theorems.picked wanted cells p (rw f at e)).0

-- ---- what there is of change

one-item : (n : ℕ) (x : List ℕ) → 0 < n → 0 < length x → if_any (if_positive n x) ≡ x ∷ []
unfolding if_any if_positive
one-item zero x h k = absurd (omega arith)
one-item (suc n) [] h k = absurd (omega arith)
one-item (suc n) (b ∷ x) h k = refl

module _ (source udt : List ℕ) where
  abbrev output : ℕ → List ℕ
  output c = cell_output c source udt

  one-output : if_any (if_positive (capacity_for source udt) (output (capacity_for source udt))) ≡ output (capacity_for source udt) ∷ []
  one-output = one-item (capacity_for source udt) (output (capacity_for source udt)) (omega arith) (omega (arith, output-length (capacity_for source udt) source udt))

one-amount : (n : ℕ) → if_any (if_positive (suc n) (amount_item (suc n))) ≡ amount_item (suc n) ∷ []
unfolding bytes_item
one-amount n = one-item (suc n) (amount_item (suc n)) (omega arith) (omega (arith, length-append (to_le 4 (length (to_le 16 (suc n)))) (to_le 16 (suc n)), length-to_le 16 (suc n)))

-- there is a change output exactly if there is change
pub change-count : (source udt : List ℕ) (c : ℕ)
    → length (if_any (if_positive (change_output_capacity c source udt) (cell_output (change_output_capacity c source udt) source udt))) ≡ length (if_any (if_positive c (amount_item c)))
unfolding change_output_capacity
change-count source udt zero = unfold if_positive in unfold if_any in refl
change-count source udt (suc n) = ap length (one-output source udt) ∙ sym (ap length (one-amount n))

pub change-cells : (l : Lent) (n : ℕ)
    → All (λ (x : List ℕ). length x < 2 ^ 32) (if_any (if_positive (change_output_capacity n l.source l.udt) (cell_output (change_output_capacity n l.source l.udt) l.source l.udt)))
    → Changes l n
    (pair (if_any (if_positive (change_output_capacity n l.source l.udt) (cell_output (change_output_capacity n l.source l.udt) l.source l.udt)))
    (map content (if_any (if_positive n (amount_item n)))))
unfolding change_output_capacity
change-cells l zero a = unfold if_positive in unfold if_any in refl
change-cells l (suc n) a =
    let c = capacity_for l.source l.udt in
    let few : length (cell_output c l.source l.udt) < 2 ^ 32 = (rw (one-output l.source l.udt) at a).0 in
    rw (one-output l.source l.udt, one-amount n) (
      record {
        lock = output-lock c l.source l.udt few;
        type_script = output-type c l.source l.udt few;
        capacity = output-capacity c l.source l.udt few (omega (arith, output-length c l.source l.udt, args_within l.source, args_within l.udt));
        content = item-content (to_le 16 (suc n));
      },
      refl,
    )

-- ---- cells behind others

pair-drop : (n : ℕ) (os ds : List (List ℕ)) → drop n (pair os ds) ≡ pair (drop n os) (drop n ds)
pair-drop zero os ds = refl
pair-drop (suc n) [] ds = refl
pair-drop (suc n) (o ∷ os) [] = pair-drop n os [] ∙ ap (pair (drop n os)) (drop-nil n)
pair-drop (suc n) (o ∷ os) (d ∷ ds) = pair-drop n os ds

pub map-length : (xs : List (List ℕ)) → length (map content xs) ≡ length xs
map-length [] = refl
map-length (x ∷ xs) = ap suc (map-length xs)

pub behind : (n : ℕ) (os ds us es : List (List ℕ)) → length os ≡ n → length ds ≡ n → drop n (pair (os ++ us) (map content (ds ++ es))) ≡ pair us (map content es)
behind n os ds us es h k =
    pair-drop n (os ++ us) (map content (ds ++ es))
    ∙ ap₂ pair (drop_at os us n h) (ap (drop n) (map-append ds es) ∙ drop_at (map content ds) (map content es) n (map-length ds ∙ k))
