-- Lists of sized items, and what may be missing: one law for each way out of the functions that test them. The sizes of the items.
use mathlib.Core.Path.{◌≡◌, refl, sym, ◌∙◌}
use Prim.Native.Nat.{ℕ}
use mathlib.Core.List.{List}
use mathlib.Core.Bool.{Bool, true}
use borrow.Author.Tests.{eq-eqb, ne_eqb}
use lib.Dec.{eqb}
use lib.ListN.{length}
use Rattle.molecule.specs.Molecule.{Ty, byte, array, fixvec, option, size, sizes, readable}
use Rattle.molecule.proofs.Valid.{fixed}
use Rattle.molecule.proofs.HeaderLaws.{option_is}
use Rattle.molecule.proofs.ReadableLaws.{sized}
use Rattle.molecule.proofs.TestLaws.{fix_as}
use Rattle.transaction.specs.Ckb.{Byte32, OutPoint, CellInput, CellDep}

pub hash-size : size Byte32 ≡ 32
unfolding size
hash-size = refl

pub point-size : size OutPoint ≡ 36
unfolding size sizes
point-size = refl

pub dep-size : size CellDep ≡ 37
unfolding size sizes
dep-size = refl

pub input-size : size CellInput ≡ 44
unfolding size sizes
input-size = refl

-- an out point is any 36 bytes
pub out_point_is : (s : List ℕ) → readable OutPoint s ≡ eqb (length s) 36
unfolding size sizes fixed
out_point_is s = sized OutPoint tt 36 refl s

module _ (s : List ℕ) {r : Bool} where
  pub out-points : r ≡ readable (fixvec (array byte 36)) s → r ≡ readable (fixvec OutPoint) s
  unfolding fixed size
  out-points h = fix_as OutPoint tt 36 refl s h

  pub cell-deps : r ≡ readable (fixvec (array byte 37)) s → r ≡ readable (fixvec CellDep) s
  unfolding fixed size
  cell-deps h = fix_as CellDep tt 37 refl s h

  pub inputs : r ≡ readable (fixvec (array byte 44)) s → r ≡ readable (fixvec CellInput) s
  unfolding fixed size
  inputs h = fix_as CellInput tt 44 refl s h

pub option-none : (t : Ty) (s : List ℕ) → length s ≡ 0 → true ≡ readable (option t) s
option-none t s h = sym (option_is t s ∙ simp (eq-eqb (length s) 0 h))

pub option-some : (t : Ty) (s : List ℕ) {r : Bool} → (length s ≡ 0 → ⊥) → r ≡ readable t s → r ≡ readable (option t) s
option-some t s h e = e ∙ sym (option_is t s ∙ simp (ne_eqb (length s) 0 h))
