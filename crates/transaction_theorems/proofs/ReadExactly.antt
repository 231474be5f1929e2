-- "RFC 0008, 0019 and 0025 fix the bytes and amounts: a string is read exactly if they allow it without extra fields, and writing its fields,
-- within the rules' limit, yields it again" (docs/RULES.md, demand 2): `read_exactly` and `written_again`, of every type that the code tests.
use mathlib.Core.Path.{◌≡◌, sym, ◌∙◌}
use Prim.Native.Nat.{ℕ, ◌^◌, ◌<◌}
use native.Mathlib.Omega.{arith}
use mathlib.Core.List.{List, [], ◌∷◌}
use mathlib.Core.Bool.{Bool, true, ◌&&◌}
use mathlib.Core.Option.{some, map-eq-some_iff}
use lib.ListN.{length}
use lib.Dec.{T}
use mir.Facts.{and_yes}
use Rattle.molecule.specs.Partial.{All}
use Rattle.molecule.specs.Molecule.{Ty, byte, option, end, ◌&◌, Value, size, decode, readable}
use Rattle.molecule.proofs.Valid.{fixed, has_bytes, valid}
use Rattle.molecule.proofs.PartialLaws.{there-some}
use Rattle.molecule.proofs.MoleculeLaws.{accepted, encode-decode}
use Rattle.molecule.proofs.ReadableLaws as molecule
use Rattle.molecule.proofs.ReadableLaws.{dynamic}
use Rattle.transaction.specs.Ckb.{OutPoint, CellDep}
use Rattle.transaction_theorems.proofs.Claims.{dynamic_types, tested, ReadExactly, Decoded, Encoding}
use Rattle.transaction_theorems.proofs.DecodedParts.{struct-length}

-- p holds of each type
unfoldable passes : (Ty → Bool) → List Ty → Bool
passes p [] = true
passes p (t ∷ ts) = p t && passes p ts

passed : (p : Ty → Bool) (ts : List Ty) → T (passes p ts) → All (λ (t : Ty). T (p t)) ts
unfolding passes
passed p [] h = tt
passed p (t ∷ ts) h = let a = and_yes (p t) (passes p ts) h in (a.0, passed p ts a.1)

-- each is a type that a schema may use
pub valid_types : All (λ (t : Ty). T (valid t)) tested
unfolding passes valid fixed has_bytes size
valid_types = passed valid tested tt

dynamic_all : All (λ (t : Ty). T (dynamic t)) dynamic_types
unfolding passes dynamic
dynamic_all = passed dynamic dynamic_types tt

all_exactly : (ts : List Ty) → All (λ (t : Ty). T (valid t)) ts → All (λ (t : Ty). T (dynamic t)) ts → All ReadExactly ts
all_exactly [] ok d = tt
all_exactly (t ∷ ts) ok d = (exactly, all_exactly ts ok.1 d.1)
  where
    exactly : ReadExactly t
    exactly s b r e = let x = molecule.read_exactly t ok.0 d.0 s b in (λ y. x.0 (sym e ∙ y), λ w. e ∙ x.1 w)

-- a cell dep or nothing has 37 bytes or none
dep-below : (s : List ℕ) (v : Value (option CellDep)) → decode (option CellDep) s ≡ some v → length s < 2 ^ 32
unfolding decode size
dep-below [] v e = omega arith
dep-below (x ∷ s) v e =
    let m = (map-eq-some_iff _ _).0 e in
    let l : length (x ∷ s) ≡ 37 = struct-length (OutPoint & byte & end) (x ∷ s) m.0 m.1 in
    omega arith

optional_dep : ReadExactly (option CellDep)
unfolding readable
optional_dep s b r e = (
  λ y.
      let p = (there-some (decode (option CellDep) s)).0 (sym e ∙ y) in
      let short : length s < 2 ^ 32 = dep-below s p.0 p.1 in
      let g = (accepted (option CellDep) valid_types.0 s b short p.0).0 p.1 in
      (short, (p.0, g.0, g.1)),
  λ p. e ∙ (there-some (decode (option CellDep) s)).1 (p.1.0, (accepted (option CellDep) valid_types.0 s b p.0 p.1.0).1 (p.1.1, p.1.2)),
)

all_again : (ts : List Ty) → All (λ (t : Ty). T (valid t)) ts → All (λ (t : Ty). Decoded t (Encoding t)) ts
all_again [] ok = tt
all_again (t ∷ ts) ok = (λ s b v e. record { written = sym (encode-decode t ok.0 s v b e); value = e }, all_again ts ok.1)

pub read_exactly : All ReadExactly tested
read_exactly = (optional_dep, all_exactly dynamic_types valid_types.1 dynamic_all)

pub written_again : All (λ (t : Ty). Decoded t (Encoding t)) tested
written_again = all_again tested valid_types
