-- A base transaction from none under a lock of any length, by the lengths of its parts: no proof goes over the lock's bytes.
use mathlib.Core.Path.{◌≡◌, refl, ap, ◌∙◌}
use Prim.Native.Nat.{ℕ, zero, suc, ◌+◌, ◌≤◌, ◌<◌}
use mathlib.Core.Bool.{true}
use mathlib.Core.List.{List, [], ◌∷◌, ◌++◌, flatten}
use native.Mathlib.Omega.{arith}
use borrow.Author.Tests.{le-leb, lt-leb}
use lib.Dec.{T}
use lib.ListN.{length, drop, replicate, length-append, length-replicate}
use Rattle.arithmetic.proofs.LittleEndianLaws.{length-to_le}
use Rattle.molecule.specs.Items.{join, fix_list}
use Rattle.molecule.specs.Molecule.{byte, Good, size, encode, readable}
use Rattle.molecule.specs.Partial.{All, there}
use Rattle.molecule.proofs.DecodedLaws.{encode-array-byte}
use Rattle.molecule.proofs.ItemsLaws.{length-join}
use Rattle.molecule.proofs.MoleculeLaws.{decode-encode}
use Rattle.molecule.proofs.Valid.{fixed, has_bytes, valid}
use Rattle.transaction.specs.Ckb.{Byte32, Bytes, Script}
use Rattle.error.specs.Outcome.{Outcome, fine, refused, answer_by, check, check_with, ◌>>=◌, ◌>>◌}
use Rattle.units.specs.Units.{Figures}
use Rattle.cell_output.specs.CellOutput.{cell_output}
use Rattle.cell_output.proofs.CellOutputLaws.{output-length}
use Rattle.transaction_writer.specs.Written.{fits, in_room, written}
use Rattle.transaction_writer.proofs.PutLaws.{tx_length}
use Rattle.udt_cells.specs.Pick.{Pick}
use Rattle.funding_builder.specs.Base.{Packed, packed, base_tx, build_base}
use Rattle.case_parts.specs.Parts.{our_lock, room}
use Rattle.known_bases.specs.Bases.{request, scripts, wide_lock, numbers, answer, buffer}
use Rattle.known_bases.proofs.Computing.{computing}

-- ---- the lock

zeros_good : (n : ℕ) → All (λ (b : ℕ). b < 256) (replicate n 0)
zeros_good zero = tt
zeros_good (suc n) = (omega arith, zeros_good n)

valid_script : T (valid Script)
unfolding valid fixed has_bytes size
valid_script = tt

args_length : (n : ℕ) → length (encode Bytes (replicate n 0)) ≡ 4 + n
unfolding encode
args_length n = simp (length-append, length-to_le) (ap (λ (k : ℕ). 4 + k) (ap length (encode-array-byte n (replicate n 0)) ∙ length-replicate n 0))

three-length : (a b c : List ℕ) → length (join (a ∷ b ∷ c ∷ [])) ≡ 16 + length a + length b + length c
unfolding flatten
three-length a b c = length-join _ ∙ simp length-append (omega arith)

lock-is : (n : ℕ) → wide_lock n ≡ join (encode Byte32 (replicate 32 0) ∷ encode byte 0 ∷ encode Bytes (replicate n 0) ∷ [])
unfolding encode
lock-is n = refl

hash-length : length (encode Byte32 (replicate 32 0)) ≡ 32
unfolding encode flatten
hash-length = refl

byte-length : length (encode byte 0) ≡ 1
unfolding encode
byte-length = refl

lock-length : (n : ℕ) → length (wide_lock n) ≡ 53 + n
lock-length n = ap length (lock-is n) ∙ three-length (encode Byte32 (replicate 32 0)) (encode byte 0) (encode Bytes (replicate n 0)) ∙ omega (arith, hash-length, byte-length, args_length n)

lock-readable : (n : ℕ) → n < 1000000 → readable Script (wide_lock n) ≡ true
unfolding readable there
lock-readable n h =
    let g : Good Script (replicate 32 0, (0, (replicate n 0, tt))) = ((refl, zeros_good 32), (omega arith, (zeros_good n, tt))) in
    ap there (decode-encode Script valid_script (replicate 32 0, (0, (replicate n 0, tt))) g (omega (arith, lock-length n)))

-- ---- the base

abbrev cell : Figures
cell = record { capacity = 12; token = 0 }

abbrev nothing : Pick
nothing = record { taken = 0; change = 0 }

module _ (lock : List ℕ) where
  abbrev under : Packed
  under = base_tx (scripts lock [] our_lock) cell nothing

  outputs_are : under.outputs ≡ cell_output 12 lock [] ∷ []
  unfolding computing
  outputs_are = refl

  outputs-length : length (join under.outputs) ≡ 32 + length lock
  unfolding flatten
  outputs-length = ap (λ (l : List (List ℕ)). length (join l)) outputs_are ∙ length-join _ ∙ simp length-append (omega (arith, output-length 12 lock []))

  deps-length : length (fix_list under.cell_deps) ≡ 4
  unfolding computing
  deps-length = refl

  headers-length : length (fix_list under.header_deps) ≡ 4
  unfolding computing
  headers-length = refl

  inputs-length : length (fix_list under.inputs) ≡ 4
  unfolding computing
  inputs-length = refl

  data_length : length (join under.outputs_data) ≡ 12
  unfolding computing
  data_length = refl

  witnesses-length : length (join under.witnesses) ≡ 97
  unfolding computing
  witnesses-length = refl

  base_length : length (packed under) ≡ 197 + length lock
  unfolding packed
  base_length = tx_length _ _ _ _ _ _ _ ∙ omega (arith, outputs-length, deps-length, headers-length, inputs-length, data_length, witnesses-length)

  -- the call, where the lock is a script
  module _ (e : readable Script lock ≡ true) where
    base_is : build_base (scripts lock [] our_lock) (request 5) ≡ fine (packed under)
    unfolding computing
    base_is = rw e

    module _ (out : List ℕ) where
      too_wide : 133116 < 197 + length lock → written (build_base (scripts lock [] our_lock) (request 5)) out ≡ (refused 13 [], out)
      unfolding in_room answer_by fits check check_with ◌>>=◌ ◌>>◌
      too_wide h = rw (base_is, base_length, lt-leb (197 + length lock) 133116 h)

      wide_enough : 197 + length lock ≤ 133116 → 197 + length lock ≤ length out → written (build_base (scripts lock [] our_lock) (request 5)) out ≡ (fine (197 + length lock), packed under ++ drop (197 + length lock) out)
      unfolding in_room answer_by fits check check_with ◌>>=◌ ◌>>◌
      wide_enough h k = rw (base_is, base_length, le-leb (197 + length lock) 133116 h, le-leb (197 + length lock) (length out) k, base_length)

-- ---- the widest that is written, and a byte more

pub width_passes : answer (scripts (wide_lock 132866) [] our_lock) 5 133116 ≡ 0 ∷ 133116 ∷ []
width_passes =
    let n : 197 + length (wide_lock 132866) ≡ 133116 = omega (arith, lock-length 132866) in
    ap (λ (r : Outcome ℕ × List ℕ). numbers r.0) (wide_enough (wide_lock 132866) (lock-readable 132866 (omega arith)) (room 133116) (omega arith) (omega (arith, length-replicate {A = ℕ} 133116 7)))
    ∙ ap (λ (k : ℕ). 0 ∷ k ∷ []) n

over : written (build_base (scripts (wide_lock 132867) [] our_lock) (request 5)) (room 133117) ≡ (refused 13 [], room 133117)
over = too_wide (wide_lock 132867) (lock-readable 132867 (omega arith)) (room 133117) (omega (arith, lock-length 132867))

pub width_over : answer (scripts (wide_lock 132867) [] our_lock) 5 133117 ≡ 13 ∷ []
width_over = ap (λ (r : Outcome ℕ × List ℕ). numbers r.0) over

pub width_leaves : buffer (scripts (wide_lock 132867) [] our_lock) 5 133117 ≡ room 133117
width_leaves = ap (λ (r : Outcome ℕ × List ℕ). r.1) over
