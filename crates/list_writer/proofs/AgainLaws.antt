-- A readable list of sized items, read and written again; each of its items has its size. What is written only with a positive number.
use mathlib.Core.Path.{◌≡◌, sym, ◌∙◌}
use Prim.Native.Nat.{ℕ, zero, suc, ◌+◌, ◌*◌, ◌≤◌, ◌^◌}
use mathlib.Core.Bool.{true, and-eq-true_iff}
use mathlib.Core.List.{List, []}
use native.Mathlib.Omega.{arith}
use borrow.Author.Tests.{leb-true, eqb-true}
use lib.Dec.{T, leb, eqb, ltb}
use lib.ListN.{length, take, drop, length-drop, take-append-drop}
use Rattle.arithmetic.specs.LittleEndian.{le, AllBytes}
use Rattle.molecule.specs.Molecule.{Ty, fixvec, option, size, chunks, readable}
use Rattle.molecule.specs.Layout.{fix_items}
use Rattle.molecule.proofs.Valid.{fixed}
use Rattle.molecule.proofs.ItemsLaws.{word_back}
use Rattle.molecule.proofs.ChunksLaws.{Long, length-chunks, chunks_long, flatten_chunks}
use Rattle.molecule.proofs.ReadableLaws.{readable-fixvec, readable-option}
use Rattle.molecule.proofs.DecodedLaws.{items-few, fix_chunks}
use Rattle.molecule.specs.Items.{fix_list}
use Rattle.list_writer.specs.ListWriter.{if_positive}

module _ (t : Ty) (ok : T (fixed t)) (one : 1 ≤ size t) (s : List ℕ) (h : readable (fixvec t) s ≡ true) where
  tests : (leb 4 (length s) ≡ true) × (eqb (length s) (4 + le (take 4 s) * size t) ≡ true)
  tests =
      let a = (and-eq-true_iff _ (eqb (length s) (4 + le (take 4 s) * size t))).0 (sym (readable-fixvec t ok s) ∙ h) in
      (((and-eq-true_iff (ltb (length s) (2 ^ 32)) (leb 4 (length s))).0 a.0).1, a.1)

  four : 4 ≤ length s
  four = leb-true 4 (length s) tests.0

  long : length s ≡ 4 + le (take 4 s) * size t
  long = eqb-true _ _ tests.1

  rest : length (drop 4 s) ≡ le (take 4 s) * size t
  rest = omega (arith, length-drop 4 s, four, long)

  pieces : fix_items (size t) s ≡ chunks (le (take 4 s)) (size t) (drop 4 s)
  pieces = fix_chunks (size t) s four (items-few (le (take 4 s)) (size t) one long)

  pub items-long : Long (size t) (fix_items (size t) s)
  items-long = rw pieces (chunks_long (le (take 4 s)) (size t) (drop 4 s) rest)

  pub again : AllBytes s → fix_list (fix_items (size t) s) ≡ s
  unfolding fix_list
  again b =
      rw (pieces, length-chunks (le (take 4 s)) (size t) (drop 4 s), flatten_chunks (le (take 4 s)) (size t) (drop 4 s) rest, word_back s b four)
      (take-append-drop 4 s)

-- what is readable or nothing stays so where it is left out
pub if_readable : (t : Ty) (n : ℕ) (s : List ℕ) → readable (option t) s ≡ true → readable (option t) (if_positive n s) ≡ true
unfolding if_positive
if_readable t zero s h = readable-option t []
if_readable t (suc n) s h = h
