-- The pass over a table: one law to start, one to go on, one for each way out.
use mathlib.Core.Path.{◌≡◌, refl, sym, ap, ap₂, ◌∙◌}
use Prim.Native.Nat.{ℕ, suc, ◌+◌, ◌-◌, ◌*◌, ◌≤◌, ◌<◌}
use mathlib.Core.Bool.{Bool, true, false, true≢false, not, cond}
use mathlib.Core.List.{List}
use native.Mathlib.Omega.{arith}
use borrow.Author.Tests.{eq-eqb, ne_eqb, le-leb, lt-leb}
use lib.Dec.{eqb}
use Rattle.std.specs.Prelude.{Option, Ok, Err}
use Rattle.error.specs.declared.{Refusal.Refusal}
use lib.ListN.{length, take, drop, length-drop}
use lib.Seq.{take_all, drop-drop}
use Rattle.arithmetic.specs.LittleEndian.{u32_at, u64_at}
use Rattle.molecule.specs.Layout.{word}
use Rattle.out_points.specs.declared.{Byte32.Byte32}
use Rattle.out_points.specs.OutPoints.{eq_hash, byte32_at}
use Rattle.exclusion_entries.specs.Exclusions.{has_hash}
use Rattle.exclusion_entries.specs.declared.{Rule.Rule, Words.Words, Survey.Survey}
use Rattle.exclusion_entries.specs.Entries.{map_entry_of, entry_size, entries_in, excluded_at, is_entry, are_entries, map_size, is_map}
use Rattle.exclusion_entries.specs.Inner.{Small, keeps, takes, lost_one, took_one, stayed, turned, sweep, first_survey, words_of, may_touch, survey_of}
use Rattle.exclusion_entries.proofs.EntryLaws.{points-count}

-- ---- an entry that the rule does not touch

-- another first word is another hash
other_hash : (x : List ℕ) (h : Byte32) → eqb (u64_at x 0) h.a ≡ false → has_hash h (map_entry_of x) ≡ false
unfolding has_hash eq_hash map_entry_of byte32_at
other_hash x h e = rw e

other_hashes : (x : List ℕ) (o h : Byte32) → cond (eqb (u64_at x 0) o.a) true (eqb (u64_at x 0) h.a) ≡ false
    → (has_hash o (map_entry_of x) ≡ false) × (has_hash h (map_entry_of x) ≡ false)
other_hashes x o h e = by (eqb (u64_at x 0) o.a) refl e
  where
    by : (t : Bool) → eqb (u64_at x 0) o.a ≡ t → cond t true (eqb (u64_at x 0) h.a) ≡ false → (has_hash o (map_entry_of x) ≡ false) × (has_hash h (map_entry_of x) ≡ false)
    by true p q = absurd (true≢false q)
    by false p q = (other_hash x o p, other_hash x h q)

untouched : (rule : Rule) (x : List ℕ) → may_touch (words_of rule) x ≡ false → (keeps rule (map_entry_of x) ≡ true) × (takes rule (map_entry_of x) ≡ false)
unfolding may_touch words_of keeps takes
untouched Rule.All x e = (refl, refl)
untouched (Rule.Enter h) x e = (refl, (other_hashes x h h e).0)
untouched (Rule.Remove h) x e = (ap not (other_hashes x h h e).0, refl)
untouched (Rule.Migrate o h) x e = let (p, q) = other_hashes x o h e in (ap not p, q)
untouched (Rule.Truncate tip) x e = absurd (true≢false e)

-- such an entry stays
passes : (rule : Rule) (n : ℕ) (v : Survey) (x : List ℕ) → may_touch (words_of rule) x ≡ false → stayed n v ≡ turned (keeps rule (map_entry_of x)) (takes rule (map_entry_of x)) n v
unfolding turned
passes rule n v x h = let (k, t) = untouched rule x h in rw (k, t) (by v.taken)
  where
    by : (c : Bool) → stayed n v ≡ cond (cond c false false) (took_one v) (stayed n v)
    by true = refl
    by false = refl

-- ---- what the numbers are at most: the places up to `at`, the entries up to i, and the out points that are not among the `left`

pub record Bounded (v : Survey) (i at left : ℕ) : Type 0 where
  pub stays_most : v.stays ≤ i
  pub points_most : v.points + left ≤ 512
  pub place_most : v.place ≤ at
  pub from_most : v.from ≤ at
  pub index_most : v.index ≤ i

bounded_start : Bounded first_survey 0 4 512
unfolding first_survey
bounded_start = omega arith

bounded_turn : {v : Survey} {i at left : ℕ} (n : ℕ) (kept taken : Bool) → Bounded v i at left → n ≤ left → Bounded (turned kept taken n v) (i + 1) (at + (48 + 36 * n)) (left - n)
unfolding turned stayed took_one lost_one
bounded_turn n false taken b h = record {
  stays_most = omega (arith, b);
  points_most = omega (arith, b);
  place_most = omega (arith, b);
  from_most = omega (arith, b);
  index_most = omega (arith, b);
}
bounded_turn {v} {i} {at} {left} n true taken b h = by v.taken v.lost taken
  where
    by : (t l k : Bool)
        → Bounded (cond (cond t false k) (record { lost = v.lost; taken = true; stays = v.stays; points = v.points; place = v.place; from = v.from; index = v.index })
        (record {
          lost = v.lost;
          taken = v.taken;
          stays = v.stays + 1;
          points = v.points + n;
          place = cond t v.place (v.place + (48 + 36 * n));
          from = cond t v.from (cond l v.from (v.from + (48 + 36 * n)));
          index = cond t v.index (cond l v.index (v.index + 1));
        })) (i + 1) (at + (48 + 36 * n)) (left - n)
    by true l k = omega (arith, b)
    by false l true = omega (arith, b)
    by false true false = omega (arith, b)
    by false false false = omega (arith, b)

-- ---- the pass

pub record Sweeping (rule : Rule) (s : List ℕ) (n : ℕ) (v : Survey) (at left i : ℕ) : Type 0 where
  pub long : length s ≡ map_size
  pub within : i ≤ n
  pub few : n ≤ 64
  pub room : at + 48 * (n - i) + 36 * left ≤ map_size
  pub bounded : Bounded v i at left
  pub reads : are_entries (n - i) left (drop at s) ≡ is_map s
  pub swept : sweep (keeps rule) (takes rule) v (entries_in (n - i) (drop at s)) ≡ sweep (keeps rule) (takes rule) first_survey (excluded_at s)

module _ (rule : Rule) (s : List ℕ) where
  pub sweep_other : (length s ≡ map_size → ⊥) → Err Refusal.LentBytesUnreadable ≡ survey_of rule s
  unfolding survey_of is_map
  sweep_other h = rw (ne_eqb (length s) map_size h)

  module _ {n : ℕ} (l : length s ≡ map_size) (e : n ≡ word s 0) where
    pub sweep_many : 64 < n → Err Refusal.LentBytesUnreadable ≡ survey_of rule s
    unfolding survey_of is_map word
    sweep_many h = rw (eq-eqb (length s) map_size l, lt-leb (u32_at s 0) 64 (omega arith))

    pub sweep-none : {v : Survey} → n ≤ 64 → v ≡ first_survey → Sweeping rule s n v 4 512 0
    unfolding is_map word excluded_at first_survey
    sweep-none {v} h f =
        let z : u32_at s 0 ≡ n - 0 = omega arith in
        let b : Bounded v 0 4 512 = rw f (bounded_start) in
        let m : is_map s ≡ are_entries (u32_at s 0) 512 (drop 4 s) = rw (eq-eqb (length s) map_size l, le-leb (u32_at s 0) 64 (omega arith)) in
        record {
          long = l;
          within = omega arith;
          few = h;
          room = omega arith;
          bounded = b;
          reads = sym (m ∙ ap (λ (k : ℕ). are_entries k 512 (drop 4 s)) z);
          swept = ap₂ (λ (w : Survey) (k : ℕ). sweep (keeps rule) (takes rule) w (entries_in k (drop 4 s))) f (sym z);
        }

module _ {rule : Rule} {s : List ℕ} {n : ℕ} {v : Survey} {at left i : ℕ} (w : Sweeping rule s n v at left i) where
  pub sweep_small : {c : ℕ} → i < n → c ≤ left → Small c v
  sweep_small h k =
      let b = w.bounded in
      let r = w.room in
      let f = w.few in
      record { n_small = omega arith; stays_small = omega arith; points_small = omega arith; place_small = omega arith; from_small = omega arith; index_small = omega arith }

  -- the first of the entries that are left, and the rest
  module _ (h : i < n) {x : List ℕ} (ex : x ≡ take (length s - at) (drop at s)) where
    here : x ≡ drop at s
    here = ex ∙ take_all (length s - at) (drop at s) (omega (arith, length-drop at s))

    next : n - i ≡ suc (n - (i + 1))
    next = omega arith

    whole : 48 + 36 * left ≤ length x
    whole = rw here (let r = w.room in omega (arith, length-drop at s, w.long))

    past : (c : ℕ) → drop (48 + 36 * c) x ≡ drop (at + (48 + 36 * c)) s
    past c = ap (drop (48 + 36 * c)) here ∙ drop-drop (48 + 36 * c) at s

    reads_on : are_entries (suc (n - (i + 1))) left x ≡ is_map s
    reads_on = ap₂ (λ (k : ℕ) (y : List ℕ). are_entries k left y) (sym next) here ∙ w.reads

    module _ {c : ℕ} (ec : c ≡ u32_at x 44) where
      pub sweep-full : left < c → Err Refusal.LentBytesUnreadable ≡ survey_of rule s
      unfolding survey_of are_entries
      sweep-full k = by (is_entry x) refl
        where
          by : (t : Bool) → is_entry x ≡ t → Err Refusal.LentBytesUnreadable ≡ survey_of rule s
          by true e = rw (← reads_on, e, ← ec, lt-leb c left k)
          by false e = rw (← reads_on, e)

      module _ (k : c ≤ left) {b : Bool} (eb : b ≡ is_entry x) where
        pub sweep_bad : b ≡ false → Err Refusal.LentBytesUnreadable ≡ survey_of rule s
        unfolding survey_of are_entries
        sweep_bad g = rw (← reads_on, ← eb, g)

        module _ (g : b ≡ true) {u : Survey} where
          turned-one : u ≡ turned (keeps rule (map_entry_of x)) (takes rule (map_entry_of x)) c v → Sweeping rule s n u (at + (48 + 36 * c)) (left - c) (i + 1)
          unfolding are_entries entries_in sweep
          turned-one on =
              let r = w.room in
              let yes : is_entry x ≡ true = sym eb ∙ g in
              let p = keeps rule (map_entry_of x) in
              let q = takes rule (map_entry_of x) in
              let m : length (map_entry_of x).points ≡ c = points-count x (let l = whole in omega arith) ∙ sym ec in
              let turn : turned p q (length (map_entry_of x).points) v ≡ u = rw m (sym on) in
              let y = drop (at + (48 + 36 * c)) s in
              let a : are_entries (suc (n - (i + 1))) left x ≡ are_entries (n - (i + 1)) (left - c) y = rw (yes, ← ec, le-leb c left k) (ap (are_entries (n - (i + 1)) (left - c)) (past c)) in
              let d : drop (entry_size x) x ≡ y = rw (← ec) (past c) in
              record {
                long = w.long;
                within = omega arith;
                few = w.few;
                room = omega arith;
                bounded = rw on (bounded_turn c p q w.bounded k);
                reads = sym a ∙ reads_on;
                swept =
                    ap₂ (λ (t : Survey) (z : List ℕ). sweep (keeps rule) (takes rule) t (entries_in (n - (i + 1)) z)) (sym turn) (sym d)
                    ∙ ap₂ (λ (j : ℕ) (z : List ℕ). sweep (keeps rule) (takes rule) v (entries_in j z)) (sym next) here
                    ∙ w.swept;
              }

          pub sweep_touched : {z : ℕ} → z ≡ 48 + 36 * c → u ≡ turned (keeps rule (map_entry_of x)) (takes rule (map_entry_of x)) (u32_at x 44) v → Sweeping rule s n u (at + z) (left - c) (i + 1)
          sweep_touched ez on = rw ez (turned-one (rw (← ec) at on))

          pub sweep_passed : {o : Option Words} {m : Bool} {z : ℕ} → o ≡ words_of rule → m ≡ may_touch o x → z ≡ 48 + 36 * c → m ≡ false → u ≡ stayed c v → Sweeping rule s n u (at + z) (left - c) (i + 1)
          sweep_passed eo em ez f e = rw ez (turned-one (e ∙ passes rule c v x (ap (λ (y : Option Words). may_touch y x) (sym eo) ∙ sym em ∙ f)))

  pub sweep-end : n ≤ i → Ok v ≡ survey_of rule s
  unfolding survey_of are_entries entries_in sweep
  sweep-end h =
      let z : n - i ≡ 0 = let k = w.within in omega arith in
      let good : is_map s ≡ true = sym w.reads ∙ ap (λ (k : ℕ). are_entries k left (drop at s)) z in
      rw good (ap Ok (ap (λ (k : ℕ). sweep (keeps rule) (takes rule) v (entries_in k (drop at s))) (sym z) ∙ w.swept))
