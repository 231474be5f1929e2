-- Bytes that are a map with known entries: what a call on them computes is what its rule computes on these entries, so no proof goes over the bytes.
use mathlib.Core.Path.{◌≡◌, sym, subst}
use Prim.Native.Nat.{ℕ, zero, suc, ◌+◌, ◌^◌, ◌≤◌, ◌<◌}
use mathlib.Core.Bool.{true}
use mathlib.Core.List.{List, []}
use mathlib.Core.Option.{Option, none, some}
use native.Mathlib.Omega.{arith}
use lib.ListN.{length}
use Rattle.units.specs.declared.{BlockNumber.BlockNumber}
use Rattle.molecule.specs.Layout.{span}
use Rattle.molecule.specs.Molecule.{readable, option}
use Rattle.molecule.specs.Partial.{All}
use Rattle.molecule.specs.Write.{put_at}
use Rattle.molecule.proofs.Offsets.{span-length}
use Rattle.molecule.proofs.WriteLaws.{put_yes}
use Rattle.transaction.specs.Ckb.{Transaction}
use Rattle.out_points.specs.OutPoints.{Fit}
use Rattle.error.specs.Outcome.{Outcome, check, check_with, ◌>>◌}
use Rattle.out_points.specs.Tables.{after_list}
use Rattle.table_bytes.specs.Lent.{on_table}
use Rattle.exclusion_entries.specs.Exclusions.{MapEntry, commit_on, remove_on, truncate_on, excluded, apply_on, add_on, migrate_on}
use Rattle.exclusion_entries.specs.Entries.{block_of, map_bytes, FitEntry, excluded_at, is_map}
use Rattle.exclusion_entries.proofs.MapLaws.{map-long, map-size, map-zeros, zeros_are, put_is, splice-back}
use Rattle.exclusion_entries.specs.Calls.{map_table, with_tx}
use Rattle.case_parts.specs.Parts.{point}
use Rattle.known_exclusions.specs.Exclusions.{on_bytes, add, commit, remove, truncate, migrate, apply, left, puts, zeros, lent, entry, pending_of, committed_of}

pub record Holds (s : List ℕ) (l : List MapEntry) : Type 0 where
  pub form : is_map s ≡ true
  pub means : excluded_at s ≡ l

module _ {s : List ℕ} {l : List MapEntry} (h : Holds s l) where
  on : (o : List MapEntry → Outcome (List MapEntry)) → on_bytes s (on_table map_table s (o (excluded_at s))) ≡ on_bytes s (o l)
  unfolding on_table check check_with ◌>>◌
  on o = rw (h.form, h.means)

  -- with a transaction that can be read
  on_tx : (o : List MapEntry → Outcome (List MapEntry)) (tx : List ℕ) → readable (option Transaction) tx ≡ true → on_bytes s (with_tx tx (on_table map_table s (o (excluded_at s)))) ≡ on_bytes s (o l)
  unfolding with_tx check check_with ◌>>◌
  on_tx o tx y = rw y (on o)

  pub add-on : (hash tx : List ℕ) → readable (option Transaction) tx ≡ true → add s hash tx ≡ on_bytes s (add_on l hash tx)
  add-on hash tx = on_tx (λ (k : List MapEntry). add_on k hash tx) tx

  pub commit-on : (hash : List ℕ) (block : ℕ) → commit s hash block ≡ on_bytes s (commit_on l hash (record { 0 = block }))
  commit-on hash block = on (λ (k : List MapEntry). commit_on k hash (record { 0 = block }))

  pub remove-on : (hash : List ℕ) → remove s hash ≡ on_bytes s (remove_on l hash)
  remove-on hash = on (λ (k : List MapEntry). remove_on k hash)

  pub truncate-on : (tip : ℕ) → truncate s tip ≡ on_bytes s (truncate_on l (record { 0 = tip }))
  truncate-on tip = on (λ (k : List MapEntry). truncate_on k (record { 0 = tip }))

  pub migrate-on : (old new tx : List ℕ) → readable (option Transaction) tx ≡ true → migrate s old new tx ≡ on_bytes s (migrate_on l old new tx)
  migrate-on old new tx = on_tx (λ (k : List MapEntry). migrate_on k old new tx) tx

  pub apply-on : (out : List ℕ) → apply s out ≡ after_list (apply_on l) out
  unfolding on_table check check_with ◌>>◌
  apply-on out = rw (h.form, h.means)

  pub put_holds : (k : List MapEntry) → length k ≤ 64 → length (excluded k) ≤ 512 → All FitEntry k → Holds (put_at s 0 (map_bytes k)) k
  put_holds k a b f = record {
    form = put_is s k h.form a b;
    means = splice-back s k (omega arith) f (put_yes s 0 (map_bytes k) (omega (arith, map-size k, map-long s h.form)));
  }

  -- after a call that is done
  pub left-holds : {o : Outcome (List MapEntry) × List ℕ} (k : List MapEntry) → o ≡ puts s k → length k ≤ 64 → length (excluded k) ≤ 512 → All FitEntry k → Holds (left o) k
  left-holds k e a b f = subst (λ (x : Outcome (List MapEntry) × List ℕ). Holds (left x) k) (sym e) (put_holds k a b f)

pub zeros-hold : Holds zeros []
zeros-hold = record { form = zeros_are; means = map-zeros }

pub lent-holds : (l : List MapEntry) → length l ≤ 64 → length (excluded l) ≤ 512 → All FitEntry l → Holds (lent l) l
lent-holds = put_holds zeros-hold

-- ---- the numbers of the examples fit

points-fit : (i k : ℕ) → i + k ≤ 2 ^ 32 → All Fit (span point i k)
unfolding span
points-fit i zero h = tt
points-fit i (suc k) h = (record { a_fits = omega arith; b_fits = omega arith; c_fits = omega arith; d_fits = omega arith; index-fits = omega arith }, points-fit (suc i) k (omega arith))

entry-fits : (n : ℕ) (c : Option BlockNumber) (k : ℕ) → n < 2 ^ 64 → block_of c < 2 ^ 64 → k < 2 ^ 32 → FitEntry (entry n c k)
entry-fits n c k h b w = record {
  a_fits = h;
  b_fits = omega arith;
  c_fits = omega arith;
  d_fits = omega arith;
  block_fits = b;
  count_fits = omega (arith, span-length point 0 k);
  points-fit = points-fit 0 k (omega arith);
}

pub pending-fits : (n k : ℕ) → n < 2 ^ 64 → k < 2 ^ 32 → FitEntry (pending_of n k)
unfolding block_of
pending-fits n k h w = entry-fits n none k h (omega arith) w

pub committed-fits : (n block k : ℕ) → n < 2 ^ 64 → block < 2 ^ 64 → k < 2 ^ 32 → FitEntry (committed_of n block k)
unfolding block_of
committed-fits n block k h b w = entry-fits n (some (record { 0 = block })) k h b w

pub transactions-fit : (i n : ℕ) → i + n ≤ 2 ^ 64 → All FitEntry (span (λ (j : ℕ). pending_of j 0) i n)
unfolding span
transactions-fit i zero h = tt
transactions-fit i (suc n) h = (pending-fits i 0 (omega arith) (omega arith), transactions-fit (suc i) n (omega arith))
