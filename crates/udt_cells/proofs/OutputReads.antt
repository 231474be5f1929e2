-- The output that is written is an output, and its capacity, lock and type read back as they were given.
use mathlib.Core.Path.{◌≡◌, refl, ap, ◌∙◌}
use Prim.Native.Nat.{ℕ, ◌^◌, ◌<◌}
use mathlib.Core.Bool.{true}
use mathlib.Core.List.{List, [], ◌∷◌}
use mathlib.Core.Option.{some}
use native.Mathlib.Omega.{arith}
use borrow.Author.Tests.{eq-eqb}
use lib.ListN.{length}
use lib.Seq.{take_all}
use Rattle.arithmetic.specs.LittleEndian.{le, to_le, u64_at}
use Rattle.arithmetic.proofs.LittleEndianLaws.{length-to_le, le-to_le, num_some}
use Rattle.molecule.specs.Items.{split}
use Rattle.molecule.specs.Layout.{span, field_of}
use Rattle.molecule.specs.Molecule.{option, size, readable}
use Rattle.molecule.proofs.Valid.{fixed}
use Rattle.molecule.proofs.ItemsLaws.{split-join}
use Rattle.molecule.proofs.ReadableLaws.{holds, all_readable, readable-table, readable_fixed}
use Rattle.molecule.proofs.DecodedLaws.{split_fields}
use Rattle.transaction.specs.Ckb.{Uint64, Script, CellOutput}
use Rattle.transaction.specs.Tx.{capacity_of, lock_of, type_of}
use Rattle.cell_output.specs.CellOutput.{cell_output}

module _ (c : ℕ) (lock type : List ℕ) (short : length (cell_output c lock type) < 2 ^ 32) where
  output-split : split (cell_output c lock type) ≡ some (to_le 8 c ∷ lock ∷ type ∷ [])
  unfolding cell_output
  output-split = split-join _ short

  pub output-readable : readable Script lock ≡ true → readable (option Script) type ≡ true → readable CellOutput (cell_output c lock type) ≡ true
  unfolding holds all_readable size fixed
  output-readable hl ht =
      let k : readable Uint64 (to_le 8 c) ≡ true = readable_fixed Uint64 tt (to_le 8 c) ∙ eq-eqb _ _ (length-to_le 8 c) in
      readable-table _ (cell_output c lock type) ∙ rw (output-split, k, hl, ht)

  output_fields : field_of (cell_output c lock type) 3 0 ∷ field_of (cell_output c lock type) 3 1 ∷ field_of (cell_output c lock type) 3 2 ∷ [] ≡ to_le 8 c ∷ lock ∷ type ∷ []
  unfolding span
  output_fields = split_fields (cell_output c lock type) 3 _ refl output-split

  pub output-lock : lock_of (cell_output c lock type) ≡ lock
  unfolding lock_of
  output-lock = cc output_fields

  pub output-type : type_of (cell_output c lock type) ≡ type
  unfolding type_of
  output-type = cc output_fields

  pub output-capacity : c < 2 ^ 64 → capacity_of (cell_output c lock type) ≡ c
  unfolding capacity_of
  output-capacity h =
      let f : field_of (cell_output c lock type) 3 0 ≡ to_le 8 c = cc output_fields in
      let l = length-to_le 8 c in
      ap (λ (s : List ℕ). u64_at s 0) f ∙ num_some 8 (to_le 8 c) 0 (omega arith) ∙ ap le (take_all 8 (to_le 8 c) (omega arith)) ∙ le-to_le 8 c (omega arith)
