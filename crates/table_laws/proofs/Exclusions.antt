-- The laws over any list of calls on a lent exclusion map.
use mathlib.Core.Path.{◌≡◌, refl, sym, ap, ◌∙◌, subst}
use Prim.Native.Nat.{ℕ, suc, ◌≤◌}
use mathlib.Core.List.{List, [], ◌∷◌, ◌++◌, map}
use mathlib.Core.Bool.{Bool, true, false, cond, not, false≢true}
use mathlib.Core.Option.{some}
use native.Mathlib.Omega.{arith}
use borrow.Author.Tests.{leb-true, ne_eqb, not-true, not-false}
use lib.Dec.{leb, eqb}
use lib.ListN.{length, length-append}
use Rattle.units.specs.declared.BlockNumber.{BlockNumber}
use Rattle.molecule.specs.Molecule.{option, readable}
use Rattle.molecule.specs.Partial.{All}
use Rattle.transaction.specs.Ckb.{Transaction}
use Rattle.out_points.specs.declared.{Byte32.Byte32, OutPoint.OutPoint}
use Rattle.out_points.specs.OutPoints.{Fit, byte32_at, eq_point, has, points}
use Rattle.error.specs.declared.{Refusal.Refusal}
use Rattle.error.specs.Refusal.{answered}
use Rattle.std.specs.List.{filter}
use Rattle.error.specs.Outcome.{Outcome, fine, refused, check, check_with, number_of, leaves, ◌>>◌}
use Rattle.out_points.specs.Tables.{renew, has_room, with_list, writes}
use Rattle.out_points.proofs.AgainLaws.{written_back}
use Rattle.molecule.specs.Write.{put_at}
use Rattle.table_bytes.specs.Lent.{on_table, Leaves}
use Rattle.exclusion_entries.specs.Exclusions.{MapEntry, has_hash, committed_at, commit_on, without, remove_on, is_recent, truncated, truncate_on, excluded, apply_on, pending, fitting, entering, add_on, entered, migrate_on}
use Rattle.exclusion_entries.specs.Entries.{map_bytes, FitEntry, excluded_at, is_map}
use Rattle.exclusion_entries.proofs.MapLaws.{map-few, map-count, map-points, map-fits, put_is, zeros_are}
use Rattle.exclusion_entries.specs.Calls.{map_table, with_tx, Applies}
use Rattle.table_laws.proofs.Outcomes.{Fine, checked, refused-fine, table-left, moved, left-done, left-refused}
use Rattle.table_laws.specs.Exclusions as run
use Rattle.table_laws.specs.Exclusions.{Called, answer_of, StaysMap, StaysWithin, ZerosWithin, RefusedSame, OthersSame, replaces, ends, is_done, outlives, StaysEntered, StaysExcluded, AddEnters, MigrateEnters, CommitMarks}
use Rattle.table_laws.specs.Stands.{Stands, here, there}
use Rattle.table_laws.proofs.Standing.{stands-filter, stands-renew, stands_new}
use Rattle.std.specs.Prelude.{Ok, Err}
use Rattle.table_laws.specs.Answers.{Answer}

-- ---- what a call's contract says of the bytes that it leaves, and of their entries

-- the outcome of the call, on the entries of s, and on the bytes
abbrev pub on_entries : {s t : List ℕ} → Called s t → Outcome (List MapEntry)
on_entries {s} (run.add r hash tx e) = add_on (excluded_at s) hash tx
on_entries {s} (run.commit r hash block e) = commit_on (excluded_at s) hash block
on_entries {s} (run.remove r hash e) = remove_on (excluded_at s) hash
on_entries {s} (run.truncate r tip e) = truncate_on (excluded_at s) tip
on_entries {s} (run.migrate r old new tx e) = migrate_on (excluded_at s) old new tx

-- the transaction that it was lent, if any, can be read
abbrev reads : {s t : List ℕ} → Called s t → Bool
reads (run.add r hash tx e) = readable (option Transaction) tx
reads (run.commit r hash block e) = true
reads (run.remove r hash e) = true
reads (run.truncate r tip e) = true
reads (run.migrate r old new tx e) = readable (option Transaction) tx

abbrev outcome_of : {s t : List ℕ} → Called s t → Outcome (List MapEntry)
outcome_of {s} c = check 1 (reads c) >> on_table map_table s (on_entries c)

says : {s t : List ℕ} (c : Called s t) → Leaves map_table s (answered (answer_of c)) t (outcome_of c)
unfolding answer_of with_tx check check_with ◌>>◌
says (run.add r hash tx e) = e
says (run.commit r hash block e) = e
says (run.remove r hash e) = e
says (run.truncate r tip e) = e
says (run.migrate r old new tx e) = e

module _ {s t : List ℕ} (c : Called s t) where
  -- bytes that are no map stay
  other_left : is_map s ≡ false → t ≡ s
  unfolding on_table check check_with ◌>>◌
  other_left g = table-left map_table s (outcome_of c) (says c) ∙ rw g (by (reads c))
    where
      by : (b : Bool) → leaves (check 1 b >> refused 3 []) (λ l. put_at s 0 (map_bytes l)) s ≡ s
      by true = refl
      by false = refl

  refused-left : (why : Refusal) → answer_of c ≡ Err why → t ≡ s
  unfolding answered
  refused-left why g = left-refused map_table s (outcome_of c) (says c) why (ap (λ (a : Answer). answered a) g)

-- ---- for any property of the entries: a call that is done leaves it

module _ (P : List MapEntry → Type 0) {s t : List ℕ} (c : Called s t) where
  -- of bytes that are no map nothing is asked
  outcome-fine : (is_map s ≡ true → Fine P (on_entries c)) → Fine P (outcome_of c)
  unfolding on_table
  outcome-fine f = checked P 1 (reads c) (on_table map_table s (on_entries c)) (λ e. omega (arith, e)) (by (is_map s) refl)
    where
      by : (b : Bool) → is_map s ≡ b → Fine P (check 3 b >> on_entries c)
      by true g = checked P 3 true (on_entries c) (λ e. omega (arith, e)) (f g)
      by false g = refused-fine P 3 (on_entries c) (λ e. omega (arith, e))

  pub left-fine : P (excluded_at s) → (is_map s ≡ true → Fine P (on_entries c)) → P (excluded_at t)
  left-fine p f = moved map_table s (outcome_of c) (says c) P (outcome-fine f) p

  -- of a call that is done, the property of the entries that its outcome gives
  done-fine : answered (answer_of c) ≡ 0 → Fine P (on_entries c) → P (excluded_at t)
  done-fine z f = left-done map_table s (outcome_of c) (says c) z P (outcome-fine (λ g. f))

module _ (P : List MapEntry → Type 0) where
  pub no_hash : (hash : List ℕ) (o : Outcome (List MapEntry)) → Fine P o → Fine P (check 3 (eqb (length hash) 32) >> o)
  no_hash hash o f = checked P 3 (eqb (length hash) 32) o (λ e. omega (arith, e)) f

  pub either : (c : Bool) (a b : Outcome (List MapEntry)) → Fine P a → Fine P b → Fine P (cond c a b)
  either true a b g h = g
  either false a b g h = h

  fits : (l : List MapEntry) → (length l ≤ 64 → length (excluded l) ≤ 512 → P l) → Fine P (fitting l)
  unfolding fitting
  fits l p = by (leb (length l) 64) (leb (length (excluded l)) 512) refl refl
    where
      by : (a b : Bool) → leb (length l) 64 ≡ a → leb (length (excluded l)) 512 ≡ b → Fine P (check 15 a >> (check 15 b >> fine l))
      by true true e f = checked P 15 true (check 15 true >> fine l) (λ e. omega (arith, e)) (checked P 15 true (fine l) (λ e. omega (arith, e)) (p (leb-true _ _ e) (leb-true _ _ f)))
      by true false e f = checked P 15 true (check 15 false >> fine l) (λ e. omega (arith, e)) (refused-fine P 15 (fine l) (λ e. omega (arith, e)))
      by false b e f = refused-fine P 15 (check 15 b >> fine l) (λ e. omega (arith, e))

  pub enters : (l : List MapEntry) (hash : Byte32) (tx : List ℕ) → P l
      → (length (renew (has_hash hash) (pending hash tx) l) ≤ 64 → length (excluded (renew (has_hash hash) (pending hash tx) l)) ≤ 512 → P (renew (has_hash hash) (pending hash tx) l))
      → Fine P (entering l hash tx)
  unfolding entering
  enters l hash tx p f = either (eqb (length tx) 0) (fine l) (fitting (renew (has_hash hash) (pending hash tx) l)) p (fits (renew (has_hash hash) (pending hash tx) l) f)

-- ---- at most 64 transactions and 512 out points

abbrev Small : List MapEntry → Type 0
Small l = (length l ≤ 64) × (length (excluded l) ≤ 512)

sifted : (f : MapEntry → Bool) (l : List MapEntry) → (length (filter f l) ≤ length l) × (length (excluded (filter f l)) ≤ length (excluded l))
unfolding excluded
sifted f [] = (omega arith, omega arith)
sifted f (e ∷ l) = by (f e) (sifted f l)
  where
    by : (b : Bool) → (length (filter f l) ≤ length l) × (length (excluded (filter f l)) ≤ length (excluded l))
        → (length (cond b (e ∷ filter f l) (filter f l)) ≤ suc (length l)) × (length (excluded (cond b (e ∷ filter f l) (filter f l))) ≤ length (e.points ++ excluded l))
    by true (p, q) = (omega (arith, p), omega (arith, q, length-append e.points (excluded (filter f l)), length-append e.points (excluded l)))
    by false (p, q) = (omega (arith, p), omega (arith, q, length-append e.points (excluded l)))

sifted_small : (f : MapEntry → Bool) (l : List MapEntry) → Small l → Small (filter f l)
sifted_small f l (p, q) = let (a, b) = sifted f l in (omega (arith, a, p), omega (arith, b, q))

marked : (hash : Byte32) (block : BlockNumber) (e : MapEntry) → (committed_at hash block e).points ≡ e.points
unfolding committed_at
marked hash block e = by (has_hash hash e)
  where
    by : (b : Bool) → (cond b (record { hash = hash; committed = some block; points = e.points }) e).points ≡ e.points
    by true = refl
    by false = refl

marked_all : (hash : Byte32) (block : BlockNumber) (l : List MapEntry) → (length (map (committed_at hash block) l) ≡ length l) × (excluded (map (committed_at hash block) l) ≡ excluded l)
unfolding excluded
marked_all hash block [] = (refl, refl)
marked_all hash block (e ∷ l) =
    let (p, q) = marked_all hash block l in
    (ap suc p, ap (λ (ps : List OutPoint). ps ++ excluded (map (committed_at hash block) l)) (marked hash block e) ∙ ap (λ (ps : List OutPoint). e.points ++ ps) q)

small_step : {s t : List ℕ} (c : Called s t) → Small (excluded_at s) → Fine Small (on_entries c)
unfolding commit_on remove_on without truncate_on truncated add_on migrate_on
small_step {s} (run.add r hash tx e) m =
    no_hash Small hash _ (enters Small (excluded_at s) (byte32_at hash 0) tx m (λ a b. (a, b)))
small_step {s} (run.commit r hash block e) m =
    let (p, q) = marked_all (byte32_at hash 0) block (excluded_at s) in
    no_hash Small hash (fine (map (committed_at (byte32_at hash 0) block) (excluded_at s))) (omega (arith, p, m.0), omega (arith, ap length q, m.1))
small_step {s} (run.remove r hash e) m =
    no_hash Small hash (fine (without (byte32_at hash 0) (excluded_at s))) (sifted_small (λ (x : MapEntry). not (has_hash (byte32_at hash 0) x)) (excluded_at s) m)
small_step {s} (run.truncate r tip e) m = sifted_small (λ (x : MapEntry). is_recent tip x.committed) (excluded_at s) m
small_step {s} (run.migrate r old new tx e) m =
    let o = byte32_at old 0 in
    let l : List MapEntry = without o (excluded_at s) in
    no_hash Small old _
    (no_hash Small new _
    (either Small (entered o (excluded_at s)) (entering l (byte32_at new 0) tx) (fine (excluded_at s))
    (enters Small l (byte32_at new 0) tx (sifted_small (λ (x : MapEntry). not (has_hash o x)) (excluded_at s) m) (λ a b. (a, b))) m))

map_small : (s : List ℕ) → is_map s ≡ true → Small (excluded_at s)
map_small s g = (omega (arith, map-count s g, map-few s g), map-points s g)

map_step : {s t : List ℕ} → Called s t → is_map t ≡ is_map s
unfolding on_table
map_step {s} {t} c = ap is_map (table-left map_table s (outcome_of c) (says c)) ∙ by (is_map s) refl
  where
    still : (o : Outcome (List MapEntry)) → Fine (λ l. is_map (put_at s 0 (map_bytes l)) ≡ is_map s) o → is_map (leaves o (λ l. put_at s 0 (map_bytes l)) s) ≡ is_map s
    still (fine l) f = f
    still (refused n l) f = refl

    put : is_map s ≡ true → (o : Outcome (List MapEntry)) → Fine Small o → Fine (λ l. is_map (put_at s 0 (map_bytes l)) ≡ is_map s) o
    put g (fine l) (p, q) = put_is s l g p q ∙ sym g
    put g (refused n l) f = f

    by : (b : Bool) → is_map s ≡ b → is_map (leaves (outcome_of c) (λ l. put_at s 0 (map_bytes l)) s) ≡ is_map s
    by true g = still (outcome_of c) (put g (outcome_of c) (outcome-fine Small c (λ g. small_step c (map_small s g))))
    by false g = ap is_map (sym (table-left map_table s (outcome_of c) (says c)) ∙ other_left c g)

pub stays_map : StaysMap
stays_map s t run.none = refl
stays_map s t (run.next r c) = map_step c ∙ stays_map s _ r

pub stays_within : StaysWithin
stays_within s t g r = let (p, q) = map_small t (stays_map s t r ∙ g) in record { transactions = p; points = q }

pub zeros_within : ZerosWithin
zeros_within t r = stays_within _ t zeros_are r

pub refused-same : RefusedSame
refused-same s t c = refused-left c

pub others_same : OthersSame
others_same s t g run.none = refl
others_same s t g (run.next r c) = let e = others_same s _ g r in other_left c (ap is_map e ∙ g) ∙ e

-- ---- an entry stands until a call ends it

stands-marked : (x : MapEntry) (g : MapEntry → MapEntry) (l : List MapEntry) → Stands x l → Stands (g x) (map g l)
stands-marked x g l (here k) = here (map g k)
stands-marked x g l (there y k s) = there (g y) (map g k) (stands-marked x g k s)

-- another transaction's commit leaves it as it is
unmarked : (hash : Byte32) (block : BlockNumber) (x : MapEntry) → has_hash hash x ≡ false → committed_at hash block x ≡ x
unfolding committed_at
unmarked hash block x h = rw h

stands_enters : (x : MapEntry) (l : List MapEntry) (hash tx : List ℕ) → replaces hash tx x ≡ false → Stands x l → Fine (Stands x) (entering l (byte32_at hash 0) tx)
unfolding replaces entering
stands_enters x l hash tx e i = by (eqb (length tx) 0) e
  where
    by : (b : Bool) → cond b false (has_hash (byte32_at hash 0) x) ≡ false → Fine (Stands x) (cond b (fine l) (fitting (renew (has_hash (byte32_at hash 0)) (pending (byte32_at hash 0) tx) l)))
    by true h = i
    by false h = fits (Stands x) (renew (has_hash (byte32_at hash 0)) (pending (byte32_at hash 0) tx) l) (λ a b. stands-renew x (has_hash (byte32_at hash 0)) (pending (byte32_at hash 0) tx) l h i)

stands_step : (x : MapEntry) {s t : List ℕ} (c : Called s t) → ends x c ≡ false → Stands x (excluded_at s) → Fine (Stands x) (on_entries c)
unfolding ends commit_on remove_on without truncate_on truncated add_on migrate_on
stands_step x {s} (run.add r hash tx e) h i = no_hash (Stands x) hash _ (stands_enters x (excluded_at s) hash tx h i)
stands_step x {s} (run.commit r hash block e) h i =
    let g = committed_at (byte32_at hash 0) block in
    no_hash (Stands x) hash (fine (map g (excluded_at s)))
    (subst (λ (y : MapEntry). Stands y (map g (excluded_at s))) (unmarked (byte32_at hash 0) block x h) (stands-marked x g (excluded_at s) i))
stands_step x {s} (run.remove r hash e) h i =
    no_hash (Stands x) hash (fine (without (byte32_at hash 0) (excluded_at s))) (stands-filter x (λ (y : MapEntry). not (has_hash (byte32_at hash 0) y)) (excluded_at s) (rw h) i)
stands_step x {s} (run.truncate r tip e) h i = stands-filter x (λ (y : MapEntry). is_recent tip y.committed) (excluded_at s) (not-false (is_recent tip x.committed) h) i
stands_step x {s} (run.migrate r old new tx e) h i =
    no_hash (Stands x) old _ (no_hash (Stands x) new _ (by (entered (byte32_at old 0) (excluded_at s)) (has_hash (byte32_at old 0) x) refl h))
  where
    by : (b d : Bool) → has_hash (byte32_at old 0) x ≡ d → cond b (cond d true (replaces new tx x)) false ≡ false
        → Fine (Stands x) (cond b (entering (filter (λ e. not (has_hash (byte32_at old 0) e)) (excluded_at s)) (byte32_at new 0) tx) (fine (excluded_at s)))
    by true true g k = absurd (false≢true (sym k))
    by true false g k = stands_enters x (filter (λ e. not (has_hash (byte32_at old 0) e)) (excluded_at s)) new tx k (stands-filter x (λ (y : MapEntry). not (has_hash (byte32_at old 0) y)) (excluded_at s) (rw g) i)
    by false d g k = i

stands-call : (x : MapEntry) {s t : List ℕ} (c : Called s t) → outlives x c ≡ true → Stands x (excluded_at s) → Stands x (excluded_at t)
unfolding outlives is_done
stands-call x {s} {t} c h i = by (answer_of c) refl h
  where
    by : (a : Answer) → answer_of c ≡ a → cond (is_done a) (not (ends x c)) true ≡ true → Stands x (excluded_at t)
    by (Ok u) e k = left-fine (Stands x) c i (λ g. stands_step x c (not-true (ends x c) k) i)
    by (Err why) e k = subst (λ (u : List ℕ). Stands x (excluded_at u)) (sym (refused-left c why e)) i

pub stays_entered : StaysEntered
stays_entered x s t i run.none = i
stays_entered x s t i (run.then r c h) = stands-call x c h (stays_entered x s _ i r)

-- ---- and its out points are written

has-append : (p : OutPoint) (l r : List OutPoint) → has p (l ++ r) ≡ cond (has p l) true (has p r)
unfolding has
has-append p [] r = refl
has-append p (q ∷ l) r = by (eq_point p q) (has-append p l r)
  where
    by : (b : Bool) → has p (l ++ r) ≡ cond (has p l) true (has p r) → cond b true (has p (l ++ r)) ≡ cond (cond b true (has p l)) true (has p r)
    by true e = refl
    by false e = e

stands-excluded : (x : MapEntry) (l : List MapEntry) (p : OutPoint) → Stands x l → has p x.points ≡ true → has p (excluded l) ≡ true
unfolding excluded
stands-excluded x l p (here k) h = has-append p x.points (excluded k) ∙ rw h
stands-excluded x l p (there y k s) h = has-append p y.points (excluded k) ∙ rw (stands-excluded x k p s h) (by (has p y.points))
  where
    by : (b : Bool) → cond b true true ≡ true
    by true = refl
    by false = refl

fit_append : (l r : List OutPoint) → All Fit l → All Fit r → All Fit (l ++ r)
fit_append [] r a b = b
fit_append (p ∷ l) r a b = (a.0, fit_append l r a.1 b)

excluded-fit : (l : List MapEntry) → All FitEntry l → All Fit (excluded l)
unfolding excluded
excluded-fit [] a = tt
excluded-fit (e ∷ l) a = fit_append e.points (excluded l) a.0.points-fit (excluded-fit l a.1)

-- an `apply` that is done writes all of them
applied : (t out after : List ℕ) → Applies t 0 out after → (is_map t ≡ true) × (after ≡ with_list (excluded (excluded_at t)) out)
unfolding number_of on_table apply_on check check_with ◌>>◌
applied t out after e = by (is_map t) (has_room (excluded (excluded_at t)) out) refl e
  where
    of : Outcome (List OutPoint) → ℕ × List ℕ
    of o = (number_of o, writes (λ l. l) o out)

    by : (a b : Bool) → is_map t ≡ a → ◌≡◌ {A = ℕ × List ℕ} (0, after) (of (check 3 a >> (check 13 b >> fine (excluded (excluded_at t)))))
        → (is_map t ≡ true) × (after ≡ with_list (excluded (excluded_at t)) out)
    by true true g f = (g, ap (λ (q : ℕ × List ℕ). q.1) f)
    by true false g f = absurd (let z : ◌≡◌ {A = ℕ} 0 13 = ap (λ (q : ℕ × List ℕ). q.0) f in omega arith)
    by false b g f = absurd (let z : ◌≡◌ {A = ℕ} 0 3 = ap (λ (q : ℕ × List ℕ). q.0) f in omega arith)

pub stays_excluded : StaysExcluded
stays_excluded x s t i r b out after e p h =
    let (g, w) = applied t out after e in
    let l = excluded (excluded_at t) in
    let k : points after ≡ l = ap points w ∙ written_back l out (omega (arith, map-points t g)) (excluded-fit (excluded_at t) (map-fits t b)) in
    ap (has p) k ∙ stands-excluded x (excluded_at t) p (stays_entered x s t i r) h

-- ---- where it comes from

pub add_enters : AddEnters
unfolding answer_of answered add_on entering
add_enters s t hash tx z e =
    let P = Stands (pending (byte32_at hash 0) tx) in
    let after = renew (has_hash (byte32_at hash 0)) (pending (byte32_at hash 0) tx) (excluded_at s) in
    done-fine P (run.add (Ok tt) hash tx e) refl
    (no_hash P hash _
    (rw (ne_eqb (length tx) 0 z) (fits P after (λ a b. stands_new (has_hash (byte32_at hash 0)) (pending (byte32_at hash 0) tx) (excluded_at s)))))

pub migrate_enters : MigrateEnters
unfolding answer_of answered migrate_on entering
migrate_enters s t old new tx z k e =
    let n = byte32_at new 0 in
    let P = Stands (pending n tx) in
    let l : List MapEntry = without (byte32_at old 0) (excluded_at s) in
    done-fine P (run.migrate (Ok tt) old new tx e) refl
    (no_hash P old _
    (no_hash P new _
    (rw (k, ne_eqb (length tx) 0 z) (fits P (renew (has_hash n) (pending n tx) l) (λ a b. stands_new (has_hash n) (pending n tx) l)))))

pub commit_marks : CommitMarks
unfolding answer_of answered commit_on
commit_marks x s t hash block i e =
    let g = committed_at (byte32_at hash 0) block in
    done-fine (Stands (g x)) (run.commit (Ok tt) hash block e) refl (no_hash (Stands (g x)) hash (fine (map g (excluded_at s))) (stands-marked x g (excluded_at s) i))
