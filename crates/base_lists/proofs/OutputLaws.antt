-- The outputs of a base transaction, sized and written.
use Rattle.std.proofs.Common.{nat_eq}
use mathlib.Core.Path.{◌≡◌, refl, sym, ap, ap₂, ◌∙◌}
use Prim.Native.Nat.{ℕ, ◌+◌, min}
use mathlib.Core.Bool.{Bool, true, false}
use mathlib.Core.List.{List, [], ◌++◌}
use borrow.Author.Tests.{eqb-true, eqb-false}
use lib.ListN.{length}
use Rattle.units.specs.{declared.Shannons.Shannons, Units.shannon_count}
use Rattle.molecule.specs.Items.{join}
use Rattle.list_writer.specs.ListWriter.{if_positive, put_list, put_list_end}
use Rattle.list_writer.specs.Around.{around, list_size}
use Rattle.list_writer.proofs.HeadLaws.{positive, around-length}
use Rattle.list_writer.proofs.AnswerLaws.{capped_list}
use Rattle.cell_output.specs.CellOutput.{cell_output, output_head}
use Rattle.cell_output.proofs.CellOutputLaws.{output-length, output_is}
use Rattle.base_lists.specs.BaseLists.{output_list}

-- ---- how long

-- whether there is a change
module _ (c : Shannons) {z : Bool} (ez : z ≡ nat_eq c.0 0) where
  is_none : z ≡ true → shannon_count c ≡ 0
  is_none h = eqb-true _ _ (sym ez ∙ h)

  is_some : z ≡ false → shannon_count c ≡ 0 → ⊥
  is_some h = eqb-false _ _ (sym ez ∙ h)

module _ (change : Shannons) (source udt : List ℕ) {z : Bool} (ez : z ≡ nat_eq change.0 0) where
  abbrev output : List ℕ
  output = cell_output (shannon_count change) source udt

  pub change-none : z ≡ true → 0 ≡ min (length (if_positive (shannon_count change) output)) 133117
  unfolding if_positive
  change-none h = rw (is_none change ez h) refl

  pub change-some : {r : ℕ} → z ≡ false → r ≡ min (24 + length source + length udt) 133117 → r ≡ min (length (if_positive (shannon_count change) output)) 133117
  change-some h e =
      e ∙ sym (ap (λ (l : List ℕ). min (length l) 133117) (positive (shannon_count change) output (is_some change ez h))
      ∙ ap (λ (n : ℕ). min n 133117) (output-length (shannon_count change) source udt))

module _ (capacity : ℕ) (lock udt present : List ℕ) (k change : ℕ) (source : List ℕ) where
  abbrev last : List ℕ
  last = if_positive change (cell_output change source udt)

  outputs-around : join (output_list capacity lock udt present k change source) ≡ around (cell_output capacity lock udt) present k last
  unfolding output_list around
  outputs-around = refl

  outputs-length : length (join (output_list capacity lock udt present k change source)) ≡ list_size (24 + length lock + length udt) present k (length last)
  outputs-length =
      ap length outputs-around ∙ around-length (cell_output capacity lock udt) present k last
      ∙ ap (λ (n : ℕ). list_size n present k (length last)) (output-length capacity lock udt)

  pub outputs_cap : {f l r : ℕ} → f ≡ min (24 + length lock + length udt) 133117 → l ≡ min (length last) 133117 → r ≡ min (list_size f present k l) 133117
      → r ≡ min (length (join (output_list capacity lock udt present k change source))) 133117
  outputs_cap ef el er = capped_list _ _ _ _ _ ef el er ∙ ap (λ (n : ℕ). min n 133117) (sym outputs-length)

-- ---- written

module _ (capacity : ℕ) (lock udt present : List ℕ) (k : ℕ) (change : Shannons) (source out : List ℕ) (at : ℕ) {z : Bool} (ez : z ≡ nat_eq change.0 0) {head : List ℕ}
    (eh : head ≡ output_head capacity (length lock) (length udt)) where
  abbrev back : ℕ
  back = shannon_count change

  abbrev all : List ℕ
  all = join (output_list capacity lock udt present k back source)

  module _ (none : z ≡ true) where
    alone : around (head ++ (lock ++ (udt ++ []))) present k [] ≡ all
    unfolding if_positive
    alone =
        let y : [] ≡ if_positive back (cell_output back source udt) = rw (is_none change ez none) refl in
        ap₂ (λ (a l : List ℕ). around a present k l) (output_is capacity lock udt eh) y ∙ sym (outputs-around capacity lock udt present k back source)

    pub cells_put : {after : List ℕ} → after ≡ put_list out at (around (head ++ (lock ++ (udt ++ []))) present k []) → after ≡ put_list out at all
    cells_put p = p ∙ ap (put_list out at) alone

    pub cells-end : {next : ℕ} → next ≡ put_list_end out at (around (head ++ (lock ++ (udt ++ []))) present k []) → next ≡ put_list_end out at all
    cells-end p = p ∙ ap (put_list_end out at) alone

  module _ (some : z ≡ false) {tail : List ℕ} (et : tail ≡ output_head back (length source) (length udt)) where
    with_change_lem : around (head ++ (lock ++ (udt ++ []))) present k (tail ++ (source ++ (udt ++ []))) ≡ all
    with_change_lem =
        let y = output_is back source udt et ∙ sym (positive back (cell_output back source udt) (is_some change ez some)) in
        ap₂ (λ (a l : List ℕ). around a present k l) (output_is capacity lock udt eh) y ∙ sym (outputs-around capacity lock udt present k back source)

    pub change_put : {after : List ℕ} → after ≡ put_list out at (around (head ++ (lock ++ (udt ++ []))) present k (tail ++ (source ++ (udt ++ [])))) → after ≡ put_list out at all
    change_put p = p ∙ ap (put_list out at) with_change_lem

    pub change-end : {next : ℕ} → next ≡ put_list_end out at (around (head ++ (lock ++ (udt ++ []))) present k (tail ++ (source ++ (udt ++ [])))) → next ≡ put_list_end out at all
    change-end p = p ∙ ap (put_list_end out at) with_change_lem
