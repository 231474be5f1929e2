-- A hash has one entry at most, over any list of calls on a lent exclusion map.
use mathlib.Core.Path.{◌≡◌, refl, sym, ap}
use Prim.Native.Nat.{ℕ, suc, ◌≤◌, max}
use mathlib.Core.List.{List, [], ◌∷◌, map}
use mathlib.Core.Bool.{Bool, true, false, cond, not}
use mathlib.Core.Option.{some}
use native.Mathlib.Omega.{arith}
use lib.Dec.{eqb}
use lib.ListN.{replicate}
use Rattle.units.specs.declared.BlockNumber.{BlockNumber}
use Rattle.out_points.specs.declared.{Byte32.Byte32}
use Rattle.out_points.specs.OutPoints.{eq_hash, eq_point, byte32_at}
use Rattle.std.specs.List.{filter}
use Rattle.error.specs.Outcome.{fine}
use Rattle.out_points.specs.Tables.{renew}
use Rattle.out_points.proofs.EqualLaws.{and_both, hash-same, point_refl}
use Rattle.exclusion_entries.specs.Exclusions.{MapEntry, has_hash, committed_at, commit_on, without, remove_on, is_recent, truncated, truncate_on, pending, entering, add_on, entered, migrate_on}
use Rattle.exclusion_entries.specs.Entries.{excluded_at}
use Rattle.exclusion_entries.proofs.MapLaws.{map-zeros}
use Rattle.table_laws.specs.Exclusions as run
use Rattle.table_laws.specs.Exclusions.{Called, entries_with, StaysOneEach, ZerosOneEach}
use Rattle.table_laws.proofs.Outcomes.{Fine}
use Rattle.table_laws.proofs.Exclusions.{on_entries, left-fine, no_hash, either, enters}

abbrev Single : List MapEntry → Type 0
Single l = (h : Byte32) → entries_with h l ≤ 1

-- an entry of the hash k stands for k: it is of the hashes that k is of
hash-is : (h k : Byte32) (e : MapEntry) → has_hash k e ≡ true → has_hash h e ≡ eq_hash k h
unfolding has_hash
hash-is h k e f = ap (λ (x : Byte32). eq_hash x h) (hash-same e.hash k f)

module _ (h : Byte32) where
  keep_fewer : (f : MapEntry → Bool) (l : List MapEntry) → entries_with h (filter f l) ≤ entries_with h l
  unfolding entries_with
  keep_fewer f [] = omega arith
  keep_fewer f (e ∷ l) = by (f e) (has_hash h e) refl (keep_fewer f l)
    where
      by : (t u : Bool) → has_hash h e ≡ u → entries_with h (filter f l) ≤ entries_with h l → entries_with h (cond t (e ∷ filter f l) (filter f l)) ≤ cond u (suc (entries_with h l)) (entries_with h l)
      by true true g m = rw g (omega (arith, m))
      by true false g m = rw g m
      by false true g m = omega (arith, m)
      by false false g m = m

  marked-same : (k : Byte32) (block : BlockNumber) (e : MapEntry) → has_hash h (committed_at k block e) ≡ has_hash h e
  unfolding committed_at has_hash
  marked-same k block e = by (has_hash k e) refl
    where
      by : (t : Bool) → has_hash k e ≡ t → has_hash h (cond t (record { hash = k; committed = some block; points = e.points }) e) ≡ has_hash h e
      by true g = sym (hash-is h k e g)
      by false g = refl

  marked-count : (k : Byte32) (block : BlockNumber) (l : List MapEntry) → entries_with h (map (committed_at k block) l) ≡ entries_with h l
  unfolding entries_with
  marked-count k block [] = refl
  marked-count k block (e ∷ l) = rw (marked-same k block e, marked-count k block l)

  -- a new entry of another hash
  renew_other : (k : Byte32) (x : MapEntry) (l : List MapEntry) → has_hash k x ≡ true → eq_hash k h ≡ false → entries_with h (renew (has_hash k) x l) ≡ entries_with h l
  unfolding entries_with renew
  renew_other k x [] f n = rw (hash-is h k x f, n)
  renew_other k x (e ∷ l) f n = by (has_hash k e) refl (renew_other k x l f n)
    where
      by : (t : Bool) → has_hash k e ≡ t → entries_with h (renew (has_hash k) x l) ≡ entries_with h l
          → entries_with h (cond t (x ∷ l) (e ∷ renew (has_hash k) x l)) ≡ cond (has_hash h e) (suc (entries_with h l)) (entries_with h l)
      by true g m = rw (hash-is h k x f, hash-is h k e g)
      by false g m = ap (λ (n : ℕ). cond (has_hash h e) (suc n) n) m

-- and of this one
renew-same : (k : Byte32) (x : MapEntry) (l : List MapEntry) → has_hash k x ≡ true → entries_with k (renew (has_hash k) x l) ≤ max 1 (entries_with k l)
unfolding entries_with renew
renew-same k x [] f = rw f (omega arith)
renew-same k x (e ∷ l) f = by (has_hash k e) refl (renew-same k x l f)
  where
    by : (t : Bool) → has_hash k e ≡ t → entries_with k (renew (has_hash k) x l) ≤ max 1 (entries_with k l) → entries_with k (cond t (x ∷ l) (e ∷ renew (has_hash k) x l)) ≤ max 1 (cond t (suc (entries_with k l)) (entries_with k l))
    by true g m = rw f (omega arith)
    by false g m = rw g m

keep_single : (f : MapEntry → Bool) (l : List MapEntry) → Single l → Single (filter f l)
keep_single f l s h = let a = keep_fewer h f l in let b = s h in omega arith

renew_single : (k : Byte32) (x : MapEntry) (l : List MapEntry) → has_hash k x ≡ true → Single l → Single (renew (has_hash k) x l)
renew_single k x l f s h = by (eq_hash k h) refl
  where
    by : (t : Bool) → eq_hash k h ≡ t → entries_with h (renew (has_hash k) x l) ≤ 1
    by true g = rw (← hash-same k h g) (let a = renew-same k x l f in let b = s k in omega arith)
    by false g = let a = renew_other h k x l f g in let b = s h in omega arith

pending-is : (k : Byte32) (tx : List ℕ) → has_hash k (pending k tx) ≡ true
unfolding has_hash pending eq_point
pending-is k tx = (and_both (eqb 0 0) (eq_hash k k) (point_refl (record { hash = k; index = 0 }))).1

single_step : {s t : List ℕ} (c : Called s t) → Single (excluded_at s) → Fine Single (on_entries c)
unfolding commit_on remove_on without truncate_on truncated add_on migrate_on
single_step {s} (run.add r hash tx e) m =
    let k = byte32_at hash 0 in
    no_hash Single hash _ (enters Single (excluded_at s) k tx m (λ a b. renew_single k (pending k tx) (excluded_at s) (pending-is k tx) m))
single_step {s} (run.commit r hash block e) m =
    let k = byte32_at hash 0 in
    no_hash Single hash (fine (map (committed_at k block) (excluded_at s))) (λ h. let a = marked-count h k block (excluded_at s) in let b = m h in omega arith)
single_step {s} (run.remove r hash e) m =
    no_hash Single hash (fine (without (byte32_at hash 0) (excluded_at s))) (keep_single (λ (x : MapEntry). not (has_hash (byte32_at hash 0) x)) (excluded_at s) m)
single_step {s} (run.truncate r tip e) m = keep_single (λ (x : MapEntry). is_recent tip x.committed) (excluded_at s) m
single_step {s} (run.migrate r old new tx e) m =
    let o = byte32_at old 0 in
    let k = byte32_at new 0 in
    let l : List MapEntry = without o (excluded_at s) in
    let n : Single l = keep_single (λ (x : MapEntry). not (has_hash o x)) (excluded_at s) m in
    no_hash Single old _
    (no_hash Single new _
    (either Single (entered o (excluded_at s)) (entering l k tx) (fine (excluded_at s)) (enters Single l k tx n (λ a b. renew_single k (pending k tx) l (pending-is k tx) n)) m))

pub stays_one-each : StaysOneEach
stays_one-each s t m run.none = m
stays_one-each s t m (run.next r c) = let k = stays_one-each s _ m r in left-fine Single c k (λ g. single_step c k)

none-entered : Single (excluded_at (replicate 21508 0))
unfolding entries_with
none-entered h = rw map-zeros (omega arith)

pub zeros-one-each : ZerosOneEach
zeros-one-each t r = stays_one-each _ t none-entered r
