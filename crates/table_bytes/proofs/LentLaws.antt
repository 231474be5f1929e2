-- What a call on a lent table leaves: one law for each way out that all calls share.
use mathlib.Core.Path.{◌≡◌}
use Prim.Native.Nat.{ℕ}
use mathlib.Core.Bool.{true, false}
use mathlib.Core.List.{List, []}
use borrow.Author.Tests.{eq-eqb, ne_eqb}
use lib.Dec.{eqb}
use lib.ListN.{length}
use Rattle.std.proofs.Common.{Ok, Err, Result}
use Rattle.error.specs.declared.{Refusal.Refusal}
use Rattle.error.specs.Refusal.{number, values, answered}
use Rattle.error.specs.Outcome.{Outcome, fine, refused, check, check_with, number_of, ◌>>◌, refusal}
use Rattle.table_bytes.specs.Lent.{Table, in_bytes, on_table, Leaves}

module _ {T M A : Type 0} (F : Table T M) (s : T) (o : Outcome A) where
  pub on_good : F.is_table s ≡ true → on_table F s o ≡ o
  unfolding on_table check check_with ◌>>◌
  on_good e = rw e

  pub on_bad : F.is_table s ≡ false → on_table F s o ≡ refused 3 []
  unfolding on_table check check_with ◌>>◌
  on_bad e = rw e

module _ {T M : Type 0} (F : Table T M) (s : T) where
  -- a refusal leaves what was lent
  pub leave_refused : (why : Refusal) {o : Outcome M} → o ≡ refusal why → Leaves F s (answered {T = Unit {0}} (Err why)) s o
  unfolding answered number_of
  leave_refused why e = rw e

  pub leave_done : (u : Unit {0}) {t : T} {m : M} {o : Outcome M} → o ≡ fine m → F.means t ≡ m → t ≡ F.put s t m → Leaves F s (answered (Ok u)) t o
  unfolding answered number_of
  leave_done u {t} e h k = rw (e, h, ← k)

-- bytes that are a table by their length
module _ {M A : Type 0} (k : ℕ) (means : List ℕ → M) (bytes : M → List ℕ) (s : List ℕ) (o : Outcome A) where
  pub sized-on : length s ≡ k → on_table (in_bytes (λ x. eqb (length x) k) means bytes) s o ≡ o
  sized-on e = on_good (in_bytes (λ x. eqb (length x) k) means bytes) s o (eq-eqb (length s) k e)

  pub sized-off : (length s ≡ k → ⊥) → on_table (in_bytes (λ x. eqb (length x) k) means bytes) s o ≡ refusal Refusal.LentBytesUnreadable
  unfolding number values
  sized-off e = on_bad (in_bytes (λ x. eqb (length x) k) means bytes) s o (ne_eqb (length s) k e)

-- ---- the same by number

pub number_is : {T M : Type 0} (F : Table T M) (s t : T) (a : Result (Unit {0}) Refusal) (o : Outcome M) {n : ℕ} → n ≡ answered a → Leaves F s (answered a) t o → Leaves F s n t o
number_is F s t a o e h = rw e h
