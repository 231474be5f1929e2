-- A list of updates is read exactly if RFC 0008 allows it: as `read_exactly` in crates/transaction_theorems says it of the forms of a transaction.
use mathlib.Core.Path.{◌≡◌, sym, ◌∙◌}
use Prim.Native.Nat.{ℕ, ◌^◌, ◌<◌}
use mathlib.Core.List.{List}
use mathlib.Core.Bool.{Bool, true}
use mathlib.Core.Logic.{◌↔◌}
use lib.ListN.{length}
use lib.Dec.{T}
use Rattle.arithmetic.specs.LittleEndian.{AllBytes}
use Rattle.molecule.specs.Molecule.{Value, encode, readable, Good, size}
use Rattle.molecule.proofs.Valid.{fixed, has_bytes, valid}
use Rattle.molecule.proofs.ReadableLaws as molecule
use Rattle.molecule.proofs.ReadableLaws.{dynamic}
use Rattle.negotiation.specs.Updates.{Updates}

valid_updates : T (valid Updates)
unfolding valid fixed has_bytes size
valid_updates = tt

dynamic_updates : T (dynamic Updates)
unfolding dynamic
dynamic_updates = tt

-- r is what `is_updates` answers of s, as its contract says: yes exactly if s has fewer than 2^32 bytes and is the encoding of a value
pub read_exactly : (s : List ℕ) → AllBytes s → (r : Bool) → r ≡ readable Updates s
    → (r ≡ true) ↔ ((length s < 2 ^ 32) × ((v : Value Updates) × Good Updates v × (encode Updates v ≡ s)))
read_exactly s b r e = let x = molecule.read_exactly Updates valid_updates dynamic_updates s b in (λ y. x.0 (sym e ∙ y), λ w. e ∙ x.1 w)
