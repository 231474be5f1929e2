-- The calls on a lent map: one law for each way out.
use mathlib.Core.Path.{◌≡◌, refl, sym, ap, ◌∙◌, subst}
use Prim.Native.Nat.{ℕ, ◌+◌, ◌^◌, ◌≤◌, ◌<◌}
use mathlib.Core.Bool.{Bool, true, false, not, cond}
use mathlib.Core.List.{List, [], ◌∷◌}
use native.Mathlib.Omega.{arith}
use borrow.Author.Tests.{eq-eqb, ne_eqb, not-true}
use lib.Dec.{eqb}
use lib.ListN.{length}
use Rattle.arithmetic.specs.LittleEndian.{AllBytes}
use Rattle.std.specs.Prelude.{Ok, Err}
use Rattle.error.specs.declared.{Refusal.Refusal}
use Rattle.error.specs.Refusal.{number, values, answered}
use Rattle.error.specs.Outcome.{Outcome, fine, refused, check, check_with, ◌>>◌}
use Rattle.units.specs.declared.{BlockNumber.BlockNumber}
use Rattle.molecule.specs.Molecule.{readable, option}
use Rattle.molecule.specs.Write.{splice}
use Rattle.molecule.proofs.WriteLaws.{put_yes}
use Rattle.transaction.specs.Ckb.{Transaction}
use Rattle.transaction.specs.Tx.{raw_field}
use Rattle.out_points.specs.declared.{Byte32.Byte32}
use Rattle.out_points.specs.OutPoints.{byte32_at}
use Rattle.std.specs.List.{filter}
use Rattle.out_points.specs.Tables.{renew}
use Rattle.exclusion_entries.specs.Exclusions.{MapEntry, has_hash, without, remove_on, truncated, truncate_on, pending, fitting, entering, add_on, entered, migrate_on}
use Rattle.table_bytes.specs.Lent.{on_table, Leaves}
use Rattle.table_bytes.proofs.LentLaws.{leave_done, leave_refused}
use Rattle.exclusion_entries.specs.declared.{Rule.Rule, Survey.Survey}
use Rattle.exclusion_entries.specs.Entries.{map_bytes, FitEntry, excluded_at, is_map}
use Rattle.exclusion_entries.specs.Inner.{keeps, takes, stay, loses, survey_of, hash_of}
use Rattle.exclusion_entries.proofs.EntryLaws.{entries-size}
use Rattle.exclusion_entries.proofs.MapLaws.{map-long, map-few, map-count, map-points, map_same, map-fits, map-size, splice-back}
use Rattle.exclusion_entries.proofs.StayLaws.{stay-size, stay_all, told_lost, told_good}
use Rattle.exclusions.specs.Inner.{point_of_input, points_of_inputs, entry_with}
use Rattle.exclusion_entries.specs.Calls.{map_table, with_tx}
use Rattle.exclusion_entries.proofs.LentLaws.{lent_unread, lent-on, stay-keep, keep_all, hash_bad, hash_good}

-- ---- a transaction that can't be read, and one that can

module _ (s tx : List ℕ) (o : Outcome (List MapEntry)) {r : Bool} (er : r ≡ readable (option Transaction) tx) where
  pub tx_bad : not r ≡ true → Leaves map_table s (answered {T = Unit {0}} (Err Refusal.OurTransactionUnreadable)) s (with_tx tx o)
  unfolding with_tx number values check check_with ◌>>◌
  tx_bad h = leave_refused map_table s Refusal.OurTransactionUnreadable (rw (← er, not-true r h))

  pub tx_read : {n : ℕ} {t : List ℕ} → r ≡ true → Leaves map_table s n t o → Leaves map_table s n t (with_tx tx o)
  unfolding with_tx check check_with ◌>>◌
  tx_read h e = rw (← er, h) e

-- ---- a table that stays as it was

same_left : (s : List ℕ) → is_map s ≡ true → AllBytes s → Leaves map_table s (answered {T = Unit {0}} (Ok tt)) s (fine (excluded_at s))
same_left s g b =
    let L = excluded_at s in
    let room : 0 + length (map_bytes L) ≤ length s = omega (arith, map-size L, map-count s g, map-few s g, map-points s g, map-long s g) in
    leave_done map_table s tt refl refl (sym (put_yes s 0 (map_bytes L) room ∙ map_same s g b))

-- ---- only entries that stay

kept-left : (rule : Rule) (s : List ℕ) {o : List ℕ} → is_map s ≡ true → AllBytes s → o ≡ splice s 0 (map_bytes (stay (keeps rule) (takes rule) false (excluded_at s)))
    → Leaves map_table s (answered {T = Unit {0}} (Ok tt)) o (fine (stay (keeps rule) (takes rule) false (excluded_at s)))
kept-left rule s {o} g b e =
    let L = excluded_at s in
    let K = stay (keeps rule) (takes rule) false L in
    let less = stay-size (keeps rule) (takes rule) false L in
    let few : length K < 2 ^ 32 = omega (arith, entries-size K, entries-size L, map-count s g, map-few s g, map-points s g) in
    let room : 0 + length (map_bytes K) ≤ length s = omega (arith, map-size K, entries-size K, entries-size L, map-count s g, map-few s g, map-points s g, map-long s g) in
    let means : excluded_at o ≡ K = splice-back s K few (stay_all (keeps rule) (takes rule) FitEntry false L (map-fits s b)) e in
    leave_done map_table s tt refl means (e ∙ sym (put_yes s 0 (map_bytes K) room))

stay-removed : (h : Byte32) (l : List MapEntry) → stay (keeps (Rule.Remove h)) (takes (Rule.Remove h)) false l ≡ without h l
unfolding keeps takes without
stay-removed h l = stay-keep (keeps (Rule.Remove h)) (takes (Rule.Remove h)) (λ e. refl) l

stay-truncated : (tip : BlockNumber) (l : List MapEntry) → stay (keeps (Rule.Truncate tip)) (takes (Rule.Truncate tip)) false l ≡ truncated tip l
unfolding keeps takes truncated
stay-truncated tip l = stay-keep (keeps (Rule.Truncate tip)) (takes (Rule.Truncate tip)) (λ e. refl) l

-- ---- add

-- the new entry is that of the transaction
added-is : {k h : Byte32} (tx : List ℕ) {f : List ℕ} → k ≡ h → f ≡ raw_field tx 3 → entry_with k f ≡ pending h tx
unfolding entry_with points_of_inputs point_of_input pending
added-is tx ek ef = rw (ek, ef)

entering-some : (l : List MapEntry) {k h : Byte32} (tx : List ℕ) {f : List ℕ} → k ≡ h → f ≡ raw_field tx 3 → (length tx ≡ 0 → ⊥) → fitting (renew (has_hash h) (entry_with k f) l) ≡ entering l h tx
unfolding entering
entering-some l {k} {h} tx ek ef z = rw (ne_eqb (length tx) 0 z) (ap (λ (x : MapEntry). fitting (renew (has_hash h) x l)) (added-is tx ek ef))

pub add_bad : (s hash tx : List ℕ) {e : Refusal} → Err e ≡ hash_of hash → Leaves map_table s (answered {T = Unit {0}} (Err e)) s (on_table map_table s (add_on (excluded_at s) hash tx))
unfolding add_on check check_with ◌>>◌
add_bad s hash tx h = let (n, k) = hash_bad hash h in lent_unread s (add_on (excluded_at s) hash tx) k (rw n)

module _ (s hash tx : List ℕ) {h : Byte32} (eh : Ok h ≡ hash_of hash) where
  enters : entering (excluded_at s) h tx ≡ add_on (excluded_at s) hash tx
  unfolding add_on check check_with ◌>>◌
  enters = let (n, k) = hash_good hash eh in rw (n, k)

  pub add_none : (rule : Rule) {v : Survey} → Ok v ≡ survey_of rule s → AllBytes s → length tx ≡ 0 → Leaves map_table s (answered {T = Unit {0}} (Ok tt)) s (on_table map_table s (add_on (excluded_at s) hash tx))
  unfolding entering
  add_none rule ev b z =
      let i = told_good rule s ev in
      lent-on s (add_on (excluded_at s) hash tx) i (subst (Leaves map_table s (answered {T = Unit {0}} (Ok tt)) s) (sym (rw (eq-eqb (length tx) 0 z)) ∙ enters) (same_left s i b))

  pub add_done : {k : Byte32} {f : List ℕ} {v : Survey} {n : ℕ} {t : List ℕ} → Ok v ≡ survey_of (Rule.Enter h) s → k ≡ h → f ≡ raw_field tx 3 → (length tx ≡ 0 → ⊥)
      → Leaves map_table s n t (fitting (renew (takes (Rule.Enter h)) (entry_with k f) (filter (keeps (Rule.Enter h)) (excluded_at s)))) → Leaves map_table s n t (on_table map_table s (add_on (excluded_at s) hash tx))
  unfolding keeps takes
  add_done {k} {f} {v} {n} {t} ev ek ef z e =
      lent-on s (add_on (excluded_at s) hash tx) (told_good (Rule.Enter h) s ev)
      (subst (Leaves map_table s n t)
      (ap (λ (l : List MapEntry). fitting (renew (has_hash h) (entry_with k f) l)) (keep_all (λ e. true) (λ e. refl) (excluded_at s)) ∙ entering-some (excluded_at s) tx ek ef z ∙ enters) e)

-- ---- remove, truncate

pub remove_bad : (s hash : List ℕ) {e : Refusal} → Err e ≡ hash_of hash → Leaves map_table s (answered {T = Unit {0}} (Err e)) s (on_table map_table s (remove_on (excluded_at s) hash))
unfolding remove_on check check_with ◌>>◌
remove_bad s hash h = let (n, k) = hash_bad hash h in lent_unread s (remove_on (excluded_at s) hash) k (rw n)

pub remove-done : (s hash : List ℕ) {h : Byte32} {v : Survey} {o : List ℕ} → Ok h ≡ hash_of hash → Ok v ≡ survey_of (Rule.Remove h) s → AllBytes s
    → o ≡ splice s 0 (map_bytes (stay (keeps (Rule.Remove h)) (takes (Rule.Remove h)) false (excluded_at s))) → Leaves map_table s (answered {T = Unit {0}} (Ok tt)) o (on_table map_table s (remove_on (excluded_at s) hash))
unfolding remove_on check check_with ◌>>◌
remove-done s hash {h} {v} {o} eh ev b e =
    let i = told_good (Rule.Remove h) s ev in
    let (n, k) = hash_good hash eh in
    lent-on s (remove_on (excluded_at s) hash) i
    (subst (Leaves map_table s (answered {T = Unit {0}} (Ok tt)) o) (sym (rw (n, ← k) (ap fine (sym (stay-removed h (excluded_at s)))))) (kept-left (Rule.Remove h) s i b e))

pub truncate-done : (s : List ℕ) (tip : BlockNumber) {v : Survey} {o : List ℕ} → Ok v ≡ survey_of (Rule.Truncate tip) s → AllBytes s
    → o ≡ splice s 0 (map_bytes (stay (keeps (Rule.Truncate tip)) (takes (Rule.Truncate tip)) false (excluded_at s))) → Leaves map_table s (answered {T = Unit {0}} (Ok tt)) o (on_table map_table s (truncate_on (excluded_at s) tip))
unfolding truncate_on
truncate-done s tip {v} {o} ev b e =
    let i = told_good (Rule.Truncate tip) s ev in
    lent-on s (truncate_on (excluded_at s) tip) i (subst (λ (l : List MapEntry). Leaves map_table s (answered {T = Unit {0}} (Ok tt)) o (fine l)) (stay-truncated tip (excluded_at s)) (kept-left (Rule.Truncate tip) s i b e))

-- ---- migrate

lost_entered : (o h : Byte32) (l : List MapEntry) → loses (keeps (Rule.Migrate o h)) (takes (Rule.Migrate o h)) l ≡ entered o l
unfolding loses keeps entered
lost_entered o h [] = refl
lost_entered o h (e ∷ l) = by (lost_entered o h l) (has_hash o e)
  where
    by : loses (keeps (Rule.Migrate o h)) (takes (Rule.Migrate o h)) l ≡ entered o l → (t : Bool) → cond (not t) (loses (keeps (Rule.Migrate o h)) (takes (Rule.Migrate o h)) l) true ≡ cond t true (entered o l)
    by r true = refl
    by r false = r

-- of an unknown hash nothing goes
without-none : (o : Byte32) (l : List MapEntry) → entered o l ≡ false → without o l ≡ l
unfolding without entered
without-none o [] e = refl
without-none o (x ∷ l) e = by (without-none o l) (has_hash o x) e
  where
    by : (entered o l ≡ false → without o l ≡ l) → (t : Bool) → cond t true (entered o l) ≡ false → cond (not t) (x ∷ without o l) (without o l) ≡ x ∷ l
    by r true f = absurd (let z : ◌≡◌ {A = ℕ} 0 1 = cc in omega arith)
    by r false f = ap (λ (k : List MapEntry). x ∷ k) (r f)

pub migrate_bad_old : (s old new tx : List ℕ) {e : Refusal} → Err e ≡ hash_of old → Leaves map_table s (answered {T = Unit {0}} (Err e)) s (on_table map_table s (migrate_on (excluded_at s) old new tx))
unfolding migrate_on check check_with ◌>>◌
migrate_bad_old s old new tx h = let (n, k) = hash_bad old h in lent_unread s (migrate_on (excluded_at s) old new tx) k (rw n)

-- whatever the old hash is
pub migrate_bad_new : (s old new tx : List ℕ) {e : Refusal} → Err e ≡ hash_of new → Leaves map_table s (answered {T = Unit {0}} (Err e)) s (on_table map_table s (migrate_on (excluded_at s) old new tx))
unfolding migrate_on check check_with ◌>>◌
migrate_bad_new s old new tx h = let (n, k) = hash_bad new h in lent_unread s (migrate_on (excluded_at s) old new tx) k (rw n (by (eqb (length old) 32)))
  where
    by : (t : Bool) → ◌≡◌ {A = Outcome (List MapEntry)} (check 3 t >> refused 3 []) (refused 3 [])
    by true = refl
    by false = refl

-- by none, the old one is removed
moved_none : (l : List MapEntry) (old new tx : List ℕ) {h : Byte32} → Ok h ≡ hash_of new → length tx ≡ 0 → remove_on l old ≡ migrate_on l old new tx
unfolding remove_on migrate_on entering check check_with ◌>>◌
moved_none l old new tx eh z =
    let (n, k) = hash_good new eh in
    rw (n, eq-eqb (length tx) 0 z) (ap (λ (r : Outcome (List MapEntry)). check 3 (eqb (length old) 32) >> r) (by (entered (byte32_at old 0) l) refl))
  where
    by : (t : Bool) → entered (byte32_at old 0) l ≡ t → ◌≡◌ {A = Outcome (List MapEntry)} (fine (without (byte32_at old 0) l)) (cond (entered (byte32_at old 0) l) (fine (without (byte32_at old 0) l)) (fine l))
    by true k = rw k
    by false k = rw k (ap fine (without-none (byte32_at old 0) l k))

pub none_done : (s old new tx : List ℕ) {h : Byte32} {n : ℕ} {t : List ℕ} → Ok h ≡ hash_of new → length tx ≡ 0 → Leaves map_table s n t (on_table map_table s (remove_on (excluded_at s) old)) → Leaves map_table s n t (on_table map_table s (migrate_on (excluded_at s) old new tx))
none_done s old new tx {h} {n} {t} eh z e = subst (λ (o : Outcome (List MapEntry)). Leaves map_table s n t (on_table map_table s o)) (moved_none (excluded_at s) old new tx eh z) e

module _ (s old new tx : List ℕ) {o h : Byte32} (eo : Ok o ≡ hash_of old) (eh : Ok h ≡ hash_of new) {v : Survey} (ev : Ok v ≡ survey_of (Rule.Migrate o h) s) where
  goes : cond (entered o (excluded_at s)) (entering (without o (excluded_at s)) h tx) (fine (excluded_at s)) ≡ migrate_on (excluded_at s) old new tx
  unfolding migrate_on check check_with ◌>>◌
  goes = let (m, k) = hash_good old eo in let (n, j) = hash_good new eh in rw (m, n, k, j)

  is-entered : v.lost ≡ entered o (excluded_at s)
  is-entered = told_lost (Rule.Migrate o h) s ev ∙ lost_entered o h (excluded_at s)

  pub migrate_unknown : AllBytes s → v.lost ≡ false → Leaves map_table s (answered {T = Unit {0}} (Ok tt)) s (on_table map_table s (migrate_on (excluded_at s) old new tx))
  migrate_unknown b u =
      let i = told_good (Rule.Migrate o h) s ev in
      let q : entered o (excluded_at s) ≡ false = sym is-entered ∙ u in
      lent-on s (migrate_on (excluded_at s) old new tx) i (subst (Leaves map_table s (answered {T = Unit {0}} (Ok tt)) s) (rw q at goes) (same_left s i b))

  pub migrate-done : {k : Byte32} {f : List ℕ} {n : ℕ} {t : List ℕ} → v.lost ≡ true → k ≡ h → f ≡ raw_field tx 3 → (length tx ≡ 0 → ⊥)
      → Leaves map_table s n t (fitting (renew (takes (Rule.Migrate o h)) (entry_with k f) (filter (keeps (Rule.Migrate o h)) (excluded_at s)))) → Leaves map_table s n t (on_table map_table s (migrate_on (excluded_at s) old new tx))
  unfolding keeps takes without
  migrate-done {k} {f} {n} {t} u ek ef z e =
      let i = told_good (Rule.Migrate o h) s ev in
      let q : entered o (excluded_at s) ≡ true = sym is-entered ∙ u in
      lent-on s (migrate_on (excluded_at s) old new tx) i
      (subst (Leaves map_table s n t) (entering-some (without o (excluded_at s)) tx ek ef z ∙ (rw q at goes)) e)
