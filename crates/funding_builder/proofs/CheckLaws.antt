-- The tests before the transaction is made, and the figures: one law for each way out.
use mathlib.Core.Path.{◌≡◌, refl, sym, ◌∙◌}
use Prim.Native.Nat.{ℕ, zero, suc}
use mathlib.Core.Bool.{true, not}
use mathlib.Core.List.{List}
use native.Mathlib.Omega.{arith}
use borrow.Author.Tests.{eq-eqb, ne_eqb}
use lib.Dec.{eqb}
use lib.ListN.{length}
use Rattle.molecule.specs.Molecule.{option, size, sizes, readable}
use Rattle.molecule.specs.Layout.{part}
use Rattle.molecule.proofs.Valid.{fixed, all_fixed}
use Rattle.molecule.proofs.LayoutLaws.{part_none}
use Rattle.molecule.proofs.ReadableLaws.{readable_fixed}
use Rattle.transaction.specs.Ckb.{CellDep}
use Rattle.transaction.proofs.ListLaws.{option-some}
use Rattle.lists.proofs.EqualLaws.{empty-is}
use Rattle.list_writer.specs.ListWriter.{if_positive}
use Rattle.udt_cells.specs.Change.{capacity_for}
use Rattle.funding_builder.specs.Base.{change_output_capacity, supplied}

-- ---- a lent dep

dep-is : (s : List ℕ) → eqb (length s) 37 ≡ readable CellDep s
unfolding fixed all_fixed size sizes
dep-is s = sym (readable_fixed CellDep tt s)

pub optional_dep : (s : List ℕ) → (length s ≡ 0 → ⊥) → eqb (length s) 37 ≡ readable (option CellDep) s
optional_dep s h = option-some CellDep s h (dep-is s)

-- ---- where tokens were picked

pub supplied-none : (taken : ℕ) (deps : List ℕ) → taken ≡ 0 → true ≡ supplied taken deps
unfolding supplied
supplied-none taken deps h = rw (eq-eqb taken 0 h)

pub supplied-some : (taken : ℕ) (deps : List ℕ) → (taken ≡ 0 → ⊥) → not (eqb (length deps) 0) ≡ supplied taken deps
unfolding supplied
supplied-some taken deps h = rw (ne_eqb taken 0 h, empty-is deps)

pub picked_none : (taken : ℕ) (deps : List ℕ) {r : List ℕ} → taken ≡ 0 → r ≡ part deps 0 0 → r ≡ if_positive taken deps
unfolding if_positive
picked_none taken deps h e = rw h (e ∙ part_none deps 0 0 (omega arith))

pub picked-some : (taken : ℕ) (deps : List ℕ) → (taken ≡ 0 → ⊥) → deps ≡ if_positive taken deps
unfolding if_positive
picked-some zero deps h = absurd (h refl)
picked-some (suc n) deps h = refl

-- ---- the change's capacity

pub no_change : (n : ℕ) (source udt : List ℕ) → n ≡ 0 → change_output_capacity n source udt ≡ 0
unfolding change_output_capacity
no_change n source udt e = rw e

pub some_change : (n : ℕ) (source udt : List ℕ) → (n ≡ 0 → ⊥) → change_output_capacity n source udt ≡ capacity_for source udt
unfolding change_output_capacity
some_change zero source udt h = absurd (h refl)
some_change (suc n) source udt h = refl
