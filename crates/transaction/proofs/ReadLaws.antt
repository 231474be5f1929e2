-- Our bytes, which may be none: what is read of them.
use mathlib.Core.Path.{◌≡◌}
use Prim.Native.Nat.{ℕ}
use mathlib.Core.Bool.{true, false}
use mathlib.Core.List.{List}
use mathlib.Core.Option.{none, some}
use Rattle.molecule.specs.Partial.{only}
use Rattle.molecule.specs.Molecule.{option, readable}
use Rattle.transaction.specs.Ckb.{Transaction}
use Rattle.transaction.specs.Tx.{tx_at, read_ours}

pub ours_yes : (s : List ℕ) → readable (option Transaction) s ≡ true → read_ours s ≡ some (tx_at s)
unfolding read_ours only
ours_yes s h = rw h

pub ours_no : (s : List ℕ) → readable (option Transaction) s ≡ false → read_ours s ≡ none
unfolding read_ours only
ours_no s h = rw h
