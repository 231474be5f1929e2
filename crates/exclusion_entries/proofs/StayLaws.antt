-- What the numbers of a pass are: of the entries that stay, of those ahead of the one that gives its place, of those that need not move.
use mathlib.Core.Path.{◌≡◌, refl, ap, subst}
use Prim.Native.Nat.{ℕ, suc, ◌+◌, ◌≤◌}
use mathlib.Core.Bool.{Bool, true, false, cond}
use mathlib.Core.List.{List, [], ◌∷◌, ◌++◌}
use native.Mathlib.Omega.{arith}
use Rattle.std.specs.Prelude.{Result, Ok, Err}
use lib.ListN.{length, take, drop, length-append}
use Rattle.error.specs.declared.{Refusal.Refusal}
use Rattle.molecule.specs.Partial.{All}
use Rattle.std.specs.List.{filter}
use Rattle.out_points.specs.Tables.{renew}
use Rattle.exclusion_entries.specs.Exclusions.{MapEntry, excluded}
use Rattle.exclusion_entries.specs.declared.{Rule.Rule, Survey.Survey}
use Rattle.exclusion_entries.specs.Entries.{entry_bytes, entries_bytes, excluded_at, is_map}
use Rattle.exclusion_entries.specs.Inner.{keeps, takes, stay, ahead, behind, leading, loses, lost_one, took_one, stayed, turned, sweep, first_survey, survey_of}
use Rattle.exclusion_entries.proofs.EntryLaws.{length-entry}
use Rattle.exclusion_entries.proofs.MapLaws.{map-few, map-count, map-points}

module _ (f p : MapEntry → Bool) where
  pub stay-kept : (l : List MapEntry) → stay f p true l ≡ filter f l
  unfolding stay
  stay-kept [] = refl
  stay-kept (e ∷ l) = rw (stay-kept l)

  pub stay-split : (l : List MapEntry) → stay f p false l ≡ ahead f p l ++ behind f p l
  unfolding stay ahead behind
  stay-split [] = refl
  stay-split (e ∷ l) = by (stay-split l) (f e) (p e)
    where
      by : stay f p false l ≡ ahead f p l ++ behind f p l → (a b : Bool) → cond a (cond b (stay f p true l) (e ∷ stay f p false l)) (stay f p false l) ≡ cond a (cond b [] (e ∷ ahead f p l)) (ahead f p l) ++ cond a (cond b (filter f l) (behind f p l)) (behind f p l)
      by s true true = stay-kept l
      by s true false = ap (λ (r : List MapEntry). e ∷ r) s
      by s false b = s

  pub renew-split : (x : MapEntry) (l : List MapEntry) → renew p x (filter f l) ≡ ahead f p l ++ (x ∷ behind f p l)
  unfolding renew ahead behind
  renew-split x [] = refl
  renew-split x (e ∷ l) = by (renew-split x l) (f e) (p e) refl
    where
      by : renew p x (filter f l) ≡ ahead f p l ++ (x ∷ behind f p l) → (a b : Bool) → p e ≡ b → renew p x (cond a (e ∷ filter f l) (filter f l)) ≡ cond a (cond b [] (e ∷ ahead f p l)) (ahead f p l) ++ (x ∷ cond a (cond b (filter f l) (behind f p l)) (behind f p l))
      by s true true k = rw k
      by s true false k = rw k (ap (λ (r : List MapEntry). e ∷ r) s)
      by s false b k = s

  pub stay-leading : (l : List MapEntry) → stay f p false l ≡ leading f p l ++ stay f p false (drop (length (leading f p l)) l)
  unfolding stay leading
  stay-leading [] = refl
  stay-leading (e ∷ l) = by (stay-leading l) (f e) (p e) refl refl
    where
      by : stay f p false l ≡ leading f p l ++ stay f p false (drop (length (leading f p l)) l) → (a b : Bool) → f e ≡ a → p e ≡ b
          → cond a (cond b (stay f p true l) (e ∷ stay f p false l)) (stay f p false l) ≡ cond a (cond b [] (e ∷ leading f p l)) [] ++ stay f p false (drop (length (cond a (cond b [] (e ∷ leading f p l)) [])) (e ∷ l))
      by s true true g h = rw (g, h)
      by s true false g h = ap (λ (r : List MapEntry). e ∷ r) s
      by s false b g h = rw g

  pub leading-is : (l : List MapEntry) → leading f p l ≡ take (length (leading f p l)) l
  unfolding leading
  leading-is [] = refl
  leading-is (e ∷ l) = by (leading-is l) (f e) (p e)
    where
      by : leading f p l ≡ take (length (leading f p l)) l → (a b : Bool) → cond a (cond b [] (e ∷ leading f p l)) [] ≡ take (length (cond a (cond b [] (e ∷ leading f p l)) [])) (e ∷ l)
      by s true true = refl
      by s true false = ap (λ (r : List MapEntry). e ∷ r) s
      by s false b = refl

  pub stay-size : (taken : Bool) (l : List MapEntry) → length (entries_bytes (stay f p taken l)) ≤ length (entries_bytes l)
  unfolding stay entries_bytes
  stay-size taken [] = omega arith
  stay-size taken (e ∷ l) = by (stay-size true l) (stay-size taken l) (f e) (cond taken false (p e))
    where
      by : length (entries_bytes (stay f p true l)) ≤ length (entries_bytes l) → length (entries_bytes (stay f p taken l)) ≤ length (entries_bytes l) → (a b : Bool) → length (entries_bytes (cond a (cond b (stay f p true l) (e ∷ stay f p taken l)) (stay f p taken l))) ≤ length (entry_bytes e ++ entries_bytes l)
      by r s true true = omega (arith, length-append (entry_bytes e) (entries_bytes l))
      by r s true false = omega (arith, length-append (entry_bytes e) (entries_bytes l), length-append (entry_bytes e) (entries_bytes (stay f p taken l)))
      by r s false b = omega (arith, length-append (entry_bytes e) (entries_bytes l))

  stay-few : (taken : Bool) (l : List MapEntry) → length (stay f p taken l) ≤ length l
  unfolding stay
  stay-few taken [] = omega arith
  stay-few taken (e ∷ l) = by (stay-few true l) (stay-few taken l) (f e) (cond taken false (p e))
    where
      by : length (stay f p true l) ≤ length l → length (stay f p taken l) ≤ length l → (a b : Bool) → length (cond a (cond b (stay f p true l) (e ∷ stay f p taken l)) (stay f p taken l)) ≤ suc (length l)
      by r s true true = omega arith
      by r s true false = omega arith
      by r s false b = omega arith

  stay-points : (taken : Bool) (l : List MapEntry) → length (excluded (stay f p taken l)) ≤ length (excluded l)
  unfolding stay excluded
  stay-points taken [] = omega arith
  stay-points taken (e ∷ l) = by (stay-points true l) (stay-points taken l) (f e) (cond taken false (p e))
    where
      by : length (excluded (stay f p true l)) ≤ length (excluded l) → length (excluded (stay f p taken l)) ≤ length (excluded l) → (a b : Bool)
          → length (excluded (cond a (cond b (stay f p true l) (e ∷ stay f p taken l)) (stay f p taken l))) ≤ length (e.points ++ excluded l)
      by r s true true = omega (arith, length-append e.points (excluded l))
      by r s true false = omega (arith, length-append e.points (excluded l), length-append e.points (excluded (stay f p taken l)))
      by r s false b = omega (arith, length-append e.points (excluded l))

  pub stay_all : (P : MapEntry → Type 0) (taken : Bool) (l : List MapEntry) → All P l → All P (stay f p taken l)
  unfolding stay
  stay_all P taken [] a = tt
  stay_all P taken (e ∷ l) a = by (stay_all P true l a.1) (stay_all P taken l a.1) (f e) (cond taken false (p e))
    where
      by : All P (stay f p true l) → All P (stay f p taken l) → (x y : Bool) → All P (cond x (cond y (stay f p true l) (e ∷ stay f p taken l)) (stay f p taken l))
      by r s true true = r
      by r s true false = (a.0, s)
      by r s false y = s

  -- ---- the numbers

  pub record Tells (v u : Survey) (l : List MapEntry) : Type 0 where
    pub lost_told : u.lost ≡ cond v.lost true (loses f p l)
    pub stays_told : u.stays ≡ v.stays + length (stay f p v.taken l)
    pub points-told : u.points ≡ v.points + length (excluded (stay f p v.taken l))
    pub place-told : u.place ≡ v.place + cond v.taken 0 (length (entries_bytes (ahead f p l)))
    pub from_told : u.from ≡ v.from + cond v.taken 0 (cond v.lost 0 (length (entries_bytes (leading f p l))))
    pub index-told : u.index ≡ v.index + cond v.taken 0 (cond v.lost 0 (length (leading f p l)))

  -- the first entry is not kept, is taken, stays: the rest tells all
  module _ (e : MapEntry) (l : List MapEntry) (stays points place from index : ℕ) (u : Survey) where
    abbrev now : Bool → Bool → Survey
    now lost taken = record { lost = lost; taken = taken; stays = stays; points = points; place = place; from = from; index = index }

    not_kept : (lost taken : Bool) → f e ≡ false → Tells (lost_one (now lost taken)) u l → Tells (now lost taken) u (e ∷ l)
    unfolding lost_one stay loses ahead leading entries_bytes
    not_kept true true k t = record {
      lost_told = t.lost_told;
      stays_told = rw k t.stays_told;
      points-told = rw k t.points-told;
      place-told = t.place-told;
      from_told = t.from_told;
      index-told = t.index-told;
    }
    not_kept true false k t = record {
      lost_told = t.lost_told;
      stays_told = rw k t.stays_told;
      points-told = rw k t.points-told;
      place-told = rw k t.place-told;
      from_told = t.from_told;
      index-told = t.index-told;
    }
    not_kept false true k t = record {
      lost_told = rw k t.lost_told;
      stays_told = rw k t.stays_told;
      points-told = rw k t.points-told;
      place-told = t.place-told;
      from_told = t.from_told;
      index-told = t.index-told;
    }
    not_kept false false k t = record {
      lost_told = rw k t.lost_told;
      stays_told = rw k t.stays_told;
      points-told = rw k t.points-told;
      place-told = rw k t.place-told;
      from_told = rw k t.from_told;
      index-told = rw k t.index-told;
    }

    took : (lost taken : Bool) → taken ≡ false → f e ≡ true → p e ≡ true → Tells (took_one (now lost taken)) u l → Tells (now lost taken) u (e ∷ l)
    unfolding took_one stay loses ahead leading entries_bytes
    took lost true g k h t = absurd (let z : ◌≡◌ {A = ℕ} 0 1 = cc in omega arith)
    took true false g k h t = record {
      lost_told = t.lost_told;
      stays_told = rw (k, h) t.stays_told;
      points-told = rw (k, h) t.points-told;
      place-told = rw (k, h) t.place-told;
      from_told = t.from_told;
      index-told = t.index-told;
    }
    took false false g k h t = record {
      lost_told = rw k t.lost_told;
      stays_told = rw (k, h) t.stays_told;
      points-told = rw (k, h) t.points-told;
      place-told = rw (k, h) t.place-told;
      from_told = rw (k, h) t.from_told;
      index-told = rw (k, h) t.index-told;
    }

    stays_on : (lost taken : Bool) → f e ≡ true → (taken ≡ false → p e ≡ false) → Tells (stayed (length e.points) (now lost taken)) u l → Tells (now lost taken) u (e ∷ l)
    unfolding stayed stay loses ahead leading entries_bytes excluded
    stays_on true true k h t = record {
      lost_told = t.lost_told;
      stays_told = rw (k) (omega (arith, t.stays_told));
      points-told = rw (k) (omega (arith, t.points-told, length-append e.points (excluded (stay f p true l))));
      place-told = t.place-told;
      from_told = t.from_told;
      index-told = t.index-told;
    }
    stays_on true false k h t = record {
      lost_told = t.lost_told;
      stays_told = rw (k, h refl) (omega (arith, t.stays_told));
      points-told = rw (k, h refl) (omega (arith, t.points-told, length-append e.points (excluded (stay f p false l))));
      place-told = rw (k, h refl) (omega (arith, t.place-told, length-append (entry_bytes e) (entries_bytes (ahead f p l)), length-entry e));
      from_told = t.from_told;
      index-told = t.index-told;
    }
    stays_on false true k h t = record {
      lost_told = rw k t.lost_told;
      stays_told = rw (k) (omega (arith, t.stays_told));
      points-told = rw (k) (omega (arith, t.points-told, length-append e.points (excluded (stay f p true l))));
      place-told = t.place-told;
      from_told = t.from_told;
      index-told = t.index-told;
    }
    stays_on false false k h t = record {
      lost_told = rw k t.lost_told;
      stays_told = rw (k, h refl) (omega (arith, t.stays_told));
      points-told = rw (k, h refl) (omega (arith, t.points-told, length-append e.points (excluded (stay f p false l))));
      place-told = rw (k, h refl) (omega (arith, t.place-told, length-append (entry_bytes e) (entries_bytes (ahead f p l)), length-entry e));
      from_told = rw (k, h refl) (omega (arith, t.from_told, length-append (entry_bytes e) (entries_bytes (leading f p l)), length-entry e));
      index-told = rw (k, h refl) (omega (arith, t.index-told));
    }

  pub sweep_tells : (v : Survey) (l : List MapEntry) → Tells v (sweep f p v l) l
  unfolding sweep stay loses ahead leading entries_bytes excluded turned
  sweep_tells v [] = record {
    lost_told = by v.lost;
    stays_told = omega arith;
    points-told = omega arith;
    place-told = nothing v.taken v.place;
    from_told = nowhere v.taken v.lost v.from;
    index-told = nowhere v.taken v.lost v.index;
  }
    where
      by : (b : Bool) → b ≡ cond b true false
      by true = refl
      by false = refl

      nothing : (b : Bool) (n : ℕ) → n ≡ n + cond b 0 0
      nothing true n = omega arith
      nothing false n = omega arith

      nowhere : (a b : Bool) (n : ℕ) → n ≡ n + cond a 0 (cond b 0 0)
      nowhere true b n = omega arith
      nowhere false b n = nothing b n
  sweep_tells v (e ∷ l) = by (f e) (p e) v.taken refl refl refl (sweep_tells (turned (f e) (p e) (length e.points) v) l)
    where
      u : Survey
      u = sweep f p (turned (f e) (p e) (length e.points) v) l

      turn : (b c : Bool) → v.taken ≡ c → turned true b (length e.points) v ≡ cond (cond c false b) (took_one v) (stayed (length e.points) v)
      turn b c g = ap (λ (x : Bool). cond (cond x false b) (took_one v) (stayed (length e.points) v)) g

      by : (a b c : Bool) → f e ≡ a → p e ≡ b → v.taken ≡ c → Tells (turned a b (length e.points) v) u l → Tells v u (e ∷ l)
      by false b c k h g t = not_kept e l v.stays v.points v.place v.from v.index u v.lost v.taken k t
      by true b true k h g t = stays_on e l v.stays v.points v.place v.from v.index u v.lost v.taken k (λ z. absurd (let o : ◌≡◌ {A = ℕ} 0 1 = cc in omega arith)) (subst (λ (w : Survey). Tells w u l) (turn b true g) t)
      by true true false k h g t = took e l v.stays v.points v.place v.from v.index u v.lost v.taken g k h (subst (λ (w : Survey). Tells w u l) (turn true false g) t)
      by true false false k h g t = stays_on e l v.stays v.points v.place v.from v.index u v.lost v.taken k (λ _. h) (subst (λ (w : Survey). Tells w u l) (turn false false g) t)

-- ---- of a table

module _ (rule : Rule) (s : List ℕ) where
  -- bytes that are no table
  pub told_bad : {e : Refusal} → Err e ≡ survey_of rule s → (is_map s ≡ false) × (e ≡ Refusal.LentBytesUnreadable)
  unfolding survey_of
  told_bad = by (is_map s) refl
    where
      by : {e : Refusal} → (b : Bool) → is_map s ≡ b → ◌≡◌ {A = Result Survey Refusal} (Err e) (cond b (Ok (sweep (keeps rule) (takes rule) first_survey (excluded_at s))) (Err Refusal.LentBytesUnreadable)) → (is_map s ≡ false) × (e ≡ Refusal.LentBytesUnreadable)
      by false k h = (k, cc)
      by true k h = cc

  told_as : {v : Survey} → Ok v ≡ survey_of rule s → (is_map s ≡ true) × (v ≡ sweep (keeps rule) (takes rule) first_survey (excluded_at s))
  unfolding survey_of
  told_as = by (is_map s) refl
    where
      by : {v : Survey} → (b : Bool) → is_map s ≡ b → ◌≡◌ {A = Result Survey Refusal} (Ok v) (cond b (Ok (sweep (keeps rule) (takes rule) first_survey (excluded_at s))) (Err Refusal.LentBytesUnreadable)) → (is_map s ≡ true) × (v ≡ sweep (keeps rule) (takes rule) first_survey (excluded_at s))
      by true k h = (k, cc)
      by false k h = cc

  pub told_good : {v : Survey} → Ok v ≡ survey_of rule s → is_map s ≡ true
  told_good e = (told_as e).0

module _ (rule : Rule) (s : List ℕ) {v : Survey} (e : Ok v ≡ survey_of rule s) where
  is : is_map s ≡ true
  is = told_good rule s e

  tells : Tells (keeps rule) (takes rule) first_survey v (excluded_at s)
  tells = rw (told_as rule s e).1 (sweep_tells (keeps rule) (takes rule) first_survey (excluded_at s))

  pub told_lost : v.lost ≡ loses (keeps rule) (takes rule) (excluded_at s)
  unfolding first_survey
  told_lost = tells.lost_told

  pub told_stays : v.stays ≡ length (stay (keeps rule) (takes rule) false (excluded_at s))
  unfolding first_survey
  told_stays = omega (arith, tells.stays_told)

  pub told-points : v.points ≡ length (excluded (stay (keeps rule) (takes rule) false (excluded_at s)))
  unfolding first_survey
  told-points = omega (arith, tells.points-told)

  pub told-place : v.place ≡ 4 + length (entries_bytes (ahead (keeps rule) (takes rule) (excluded_at s)))
  unfolding first_survey
  told-place = omega (arith, tells.place-told)

  pub told-from : v.from ≡ 4 + length (entries_bytes (leading (keeps rule) (takes rule) (excluded_at s)))
  unfolding first_survey
  told-from = omega (arith, tells.from_told)

  pub told-index : v.index ≡ length (leading (keeps rule) (takes rule) (excluded_at s))
  unfolding first_survey
  told-index = omega (arith, tells.index-told)

  pub stays_few : v.stays ≤ 64
  stays_few = omega (arith, told_stays, stay-few (keeps rule) (takes rule) false (excluded_at s), map-count s is, map-few s is)

  pub points-few : v.points ≤ 512
  points-few = omega (arith, told-points, stay-points (keeps rule) (takes rule) false (excluded_at s), map-points s is)
