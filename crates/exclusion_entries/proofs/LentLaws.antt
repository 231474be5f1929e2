-- Lent bytes that are a map, and bytes that are none; what stays by a rule that takes nothing.
use mathlib.Core.Path.{◌≡◌, refl, ap, ◌∙◌}
use Prim.Native.Nat.{ℕ}
use mathlib.Core.Bool.{Bool, true, false, cond}
use mathlib.Core.List.{List, [], ◌∷◌}
use Rattle.std.specs.Prelude.{Result, Ok, Err}
use lib.{Dec.eqb, ListN.length}
use Rattle.error.specs.declared.{Refusal.Refusal}
use Rattle.error.specs.Refusal.{number, values, answered}
use Rattle.out_points.specs.{declared.Byte32.Byte32, OutPoints.byte32_at}
use Rattle.std.specs.List.{filter}
use Rattle.error.specs.Outcome.{Outcome, refused, check, check_with, ◌>>◌, refusal}
use Rattle.table_bytes.specs.Lent.{on_table, Leaves}
use Rattle.table_bytes.proofs.LentLaws.{on_good, on_bad, leave_refused}
use Rattle.exclusion_entries.specs.declared.{Rule.Rule}
use Rattle.exclusion_entries.specs.Exclusions.{MapEntry}
use Rattle.exclusion_entries.specs.Entries.{is_map}
use Rattle.exclusion_entries.specs.Inner.{stay, survey_of, hash_of}
use Rattle.exclusion_entries.specs.Calls.{map_table}
use Rattle.exclusion_entries.proofs.StayLaws.{told_bad}

module _ (s : List ℕ) {A : Type 0} (o : Outcome A) where
  -- bytes that are no map
  pub off_map : (rule : Rule) {e : Refusal} → Err e ≡ survey_of rule s → on_table map_table s o ≡ refusal e
  unfolding number values
  off_map rule h = let (n, k) = told_bad rule s h in on_bad map_table s o n ∙ rw k

  pub on_map : is_map s ≡ true → on_table map_table s o ≡ o
  on_map = on_good map_table s o

  -- what is refused with the number of bytes that are no map is refused so of any bytes
  pub unread_map : o ≡ refused 3 [] → on_table map_table s o ≡ refused 3 []
  unfolding on_table check check_with ◌>>◌
  unread_map e = rw e (by (is_map s))
    where
      by : (b : Bool) → ◌≡◌ {A = Outcome A} (check 3 b >> refused 3 []) (refused 3 [])
      by true = refl
      by false = refl

pub lent_bad : (s : List ℕ) (o : Outcome (List MapEntry)) (rule : Rule) {e : Refusal} → Err e ≡ survey_of rule s → Leaves map_table s (answered {T = Unit {0}} (Err e)) s (on_table map_table s o)
lent_bad s o rule h = leave_refused map_table s _ (off_map s o rule h)

pub lent_unread : (s : List ℕ) (o : Outcome (List MapEntry)) {e : Refusal} → e ≡ Refusal.LentBytesUnreadable → o ≡ refused 3 [] → Leaves map_table s (answered {T = Unit {0}} (Err e)) s (on_table map_table s o)
unfolding number values
lent_unread s o k e = rw k (leave_refused map_table s Refusal.LentBytesUnreadable (unread_map s o e))

pub lent-on : (s : List ℕ) (o : Outcome (List MapEntry)) {n : ℕ} {t : List ℕ} → is_map s ≡ true → Leaves map_table s n t o → Leaves map_table s n t (on_table map_table s o)
lent-on s o g e = rw (on_map s o g) e

-- by a rule that takes none, the entries that stay are those that are kept
pub stay-keep : (f p : MapEntry → Bool) → ((e : MapEntry) → p e ≡ false) → (l : List MapEntry) → stay f p false l ≡ filter f l
unfolding stay
stay-keep f p n [] = refl
stay-keep f p n (e ∷ l) = rw (n e, stay-keep f p n l)

-- by one that keeps all, all stay
pub keep_all : (f : MapEntry → Bool) → ((e : MapEntry) → f e ≡ true) → (l : List MapEntry) → filter f l ≡ l
keep_all f n [] = refl
keep_all f n (e ∷ l) = rw (n e) (ap (λ (r : List MapEntry). e ∷ r) (keep_all f n l))

-- ---- a hash that is lent

pub hash_bad : (hash : List ℕ) {e : Refusal} → Err e ≡ hash_of hash → (eqb (length hash) 32 ≡ false) × (e ≡ Refusal.LentBytesUnreadable)
unfolding hash_of
hash_bad hash = by (eqb (length hash) 32) refl
  where
    by : {e : Refusal} → (b : Bool) → eqb (length hash) 32 ≡ b → ◌≡◌ {A = Result Byte32 Refusal} (Err e) (cond b (Ok (byte32_at hash 0)) (Err Refusal.LentBytesUnreadable)) → (eqb (length hash) 32 ≡ false) × (e ≡ Refusal.LentBytesUnreadable)
    by false k h = (k, cc)
    by true k h = cc

pub hash_good : (hash : List ℕ) {x : Byte32} → Ok x ≡ hash_of hash → (eqb (length hash) 32 ≡ true) × (x ≡ byte32_at hash 0)
unfolding hash_of
hash_good hash = by (eqb (length hash) 32) refl
  where
    by : {x : Byte32} → (b : Bool) → eqb (length hash) 32 ≡ b → ◌≡◌ {A = Result Byte32 Refusal} (Ok x) (cond b (Ok (byte32_at hash 0)) (Err Refusal.LentBytesUnreadable)) → (eqb (length hash) 32 ≡ true) × (x ≡ byte32_at hash 0)
    by true k h = (k, cc)
    by false k h = cc
