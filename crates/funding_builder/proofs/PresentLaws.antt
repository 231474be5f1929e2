-- What readable lent bytes give: the lists of the present transaction, which may be none.
use mathlib.Core.Path.{◌≡◌, refl, sym, ap, ◌∙◌}
use Prim.Native.Nat.{ℕ}
use mathlib.Core.Bool.{Bool, true, false, cond, and-eq-true_iff}
use mathlib.Core.List.{List, [], ◌∷◌, append-nil, flatten}
use native.Mathlib.Omega.{arith}
use lib.Dec.{T, eqb}
use lib.ListN.{length}
use Rattle.arithmetic.specs.LittleEndian.{num_at, to_le, AllBytes}
use Rattle.molecule.specs.Molecule.{Ty, fixvec, dynvec, option, readable}
use Rattle.molecule.specs.Layout.{word, fix_count, fix_items, span}
use Rattle.molecule.proofs.Valid.{fixed}
use Rattle.molecule.proofs.ReadableLaws.{readable-option, by_length, of-option}
use Rattle.transaction.specs.Ckb.{Byte32, Bytes, CellDep, CellDeps, CellInput, CellOutput, Transaction}
use Rattle.transaction.specs.Tx.{raw_field, witnesses_of}
use Rattle.transaction.proofs.ListLaws.{option-none, hash-size}
use Rattle.transaction.proofs.FieldLaws.{bytes_raw, no_raw}
use Rattle.transaction_writer.specs.Written.{in_form}
use Rattle.transaction_writer.proofs.RewriteLaws.{lists_in_form}
use Rattle.molecule.specs.Items.{fix_list}
use Rattle.list_writer.proofs.AgainLaws.{again}
use Rattle.base_writer.specs.Lists.{or_empty}

-- ---- something or nothing

pub option-of : (t : Ty) (s : List ℕ) → readable t s ≡ true → readable (option t) s ≡ true
option-of t s h = readable-option t s ∙ by s h
  where
    by : (s : List ℕ) → readable t s ≡ true → cond (eqb (length s) 0) true (readable t s) ≡ true
    by s h = by_cond (eqb (length s) 0)
      where
        by_cond : (b : Bool) → cond b true (readable t s) ≡ true
        by_cond true = refl
        by_cond false = h

-- ---- the deps, the header deps and the inputs

-- a list of header deps, or none
or_empty_lem : (x : List ℕ) → (fix_list (fix_items 32 x) ≡ x) → fix_list (fix_items 32 x) ≡ or_empty x
unfolding or_empty
or_empty_lem [] e = none
  where
    none : fix_list (fix_items 32 []) ≡ to_le 4 0
    none = unfold fix_list in unfold span in unfold fix_count in unfold word in unfold num_at in unfold flatten in append-nil (to_le 4 0)
or_empty_lem (b ∷ s) e = e

none_again : fix_list (fix_items 32 []) ≡ or_empty []
unfolding or_empty fix_list span fix_count word num_at flatten
none_again = append-nil (to_le 4 0)

header_fixed : T (fixed Byte32)
unfolding fixed
header_fixed = tt

module _ (s : List ℕ) (h : readable (option Transaction) s ≡ true) where
  both : (length s ≡ 0 → ⊥) → (readable CellDeps (raw_field s 1) ≡ true) × (readable (fixvec Byte32) (raw_field s 2) ≡ true)
  unfolding in_form
  both n =
      let form = lists_in_form s (of-option Transaction s n h) in
      let f = (and-eq-true_iff _ (readable (dynvec Bytes) (witnesses_of s))).0 form in
      let g = (and-eq-true_iff _ (readable (dynvec Bytes) (raw_field s 5))).0 f.0 in
      let k = (and-eq-true_iff _ (readable (dynvec CellOutput) (raw_field s 4))).0 g.0 in
      let i = (and-eq-true_iff _ (readable (fixvec CellInput) (raw_field s 3))).0 k.0 in
      (and-eq-true_iff (readable (fixvec CellDep) (raw_field s 1)) (readable (fixvec Byte32) (raw_field s 2))).0 i.0

  pub deps-readable : readable (option CellDeps) (raw_field s 1) ≡ true
  deps-readable = by_length s none (λ n. option-of CellDeps (raw_field s 1) (both n).0)
    where
      none : s ≡ [] → readable (option CellDeps) (raw_field s 1) ≡ true
      none e = sym (option-none CellDeps (raw_field s 1) (ap length (ap (λ (x : List ℕ). raw_field x 1) e ∙ no_raw 1)))

  pub headers_again : AllBytes s → fix_list (fix_items 32 (raw_field s 2)) ≡ or_empty (raw_field s 2)
  headers_again b = by_length s none (λ n. or_empty_lem (raw_field s 2) (rw hash-size at (again Byte32 header_fixed (omega (arith, hash-size)) (raw_field s 2) (both n).1 (bytes_raw s 2 b))))
    where
      none : s ≡ [] → fix_list (fix_items 32 (raw_field s 2)) ≡ or_empty (raw_field s 2)
      none e = let q : raw_field s 2 ≡ [] = ap (λ (x : List ℕ). raw_field x 2) e ∙ no_raw 2 in rw q none_again
