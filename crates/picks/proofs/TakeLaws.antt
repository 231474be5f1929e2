-- What `take` records and writes.
use mathlib.Core.Path.{◌≡◌, refl, sym, ap, ◌∙◌}
use Prim.Native.Nat.{ℕ, ◌+◌, ◌-◌, ◌*◌, ◌≤◌, ◌<◌, min}
use native.Mathlib.Omega.{arith}
use mathlib.Core.Bool.{Bool, true, false, not}
use mathlib.Core.List.{List, ◌∷◌, ◌++◌, map, append-nil}
use denote.Enum.Bare.{sameb}
use lib.ListN.{length, get_or, take, set, length-set}
use lib.Seq.{append_snoc}
use Rattle.molecule.specs.Layout.{fix_count}
use Rattle.molecule.specs.Write.{put_at, put_end}
use Rattle.out_points.specs.declared.{OutPoint.OutPoint}
use Rattle.out_points.specs.OutPoints.{point_of, point_bytes}
use Rattle.hold_records.specs.declared.{Owner.Owner, Hold.Hold, Held.Held}
use Rattle.hold_records.specs.Holds.{records_of, held_by}
use Rattle.hold_records.proofs.ListLaws.{take_put}
use Rattle.hold_records.proofs.LoopLaws.{trim_is}
use Rattle.unavailable_picks.specs.Inner.{select}
use Rattle.unavailable_picks.proofs.PickLaws.{select_yes, select_no, select-end, select-whole, Naming, name-start, name_yes, name_no}
use Rattle.pick_kinds.specs.declared.{Kind.Kind}
use Rattle.pick_kinds.specs.contracts.Kind.{the_type}
use Rattle.picks.specs.Inner.{is_free_kind, is_free, is_left, free_of, left_of, Tallied}

-- `== Kind::Free`
pub free_is : (kinds : List Kind) (i : ℕ) → sameb the_type (get_or kinds i Kind.Again) Kind.Free ≡ is_free kinds i
unfolding is_free is_free_kind
free_is kinds i = by (get_or kinds i Kind.Again)
  where
    by : (k : Kind) → sameb the_type k Kind.Free ≡ is_free_kind k
    by Kind.Again = refl
    by Kind.Free = refl
    by Kind.Busy = refl

pub kinds_in : {n m c i : ℕ} → n ≡ m → m ≤ c → i < n → i < c
kinds_in e r l = omega arith

-- the picks to take from i on
abbrev Free : List ℕ → List Kind → ℕ → ℕ → List OutPoint
Free picked kinds i n = select (is_free kinds) (point_of picked) i (n - i)

-- ---- the taken ones counted, and recorded as far as there is room

pub record Tallying (owner : Owner) (picked : List ℕ) (kinds : List Kind) (h g : Held) (n i count : ℕ) : Type 0 where
  pub within : i ≤ n
  pub below : count ≤ i
  pub whole : length h.records ≡ 256
  pub total : length (free_of picked kinds) ≡ count + length (Free picked kinds i n)
  pub stands : g.count ≡ min (min h.count 256 + count) 256
  pub long : length g.records ≡ 256
  pub added : min h.count 256 + count ≤ 256 → records_of g ++ map (held_by owner) (Free picked kinds i n) ≡ records_of h ++ map (held_by owner) (free_of picked kinds)

pub tally-start : (owner : Owner) (picked : List ℕ) (kinds : List Kind) {n u : ℕ} (h : Held) → n ≡ fix_count picked → u ≡ min h.count 256 → length h.records ≡ 256
    → Tallying owner picked kinds (record { records = h.records; count = u }) (record { records = h.records; count = u }) n 0 0
unfolding free_of
tally-start owner picked kinds {n} {u} h e b l =
    let q : free_of picked kinds ≡ Free picked kinds 0 n = ap (select (is_free kinds) (point_of picked) 0) (sym e) ∙ select-whole (is_free kinds) (point_of picked) n in
    record {
      within = omega arith;
      below = omega arith;
      whole = l;
      total = omega (arith, ap length q);
      stands = omega arith;
      long = l;
      added = λ _. ap (λ (x : List OutPoint). records_of (record { records = h.records; count = u }) ++ map (held_by owner) x) (sym q);
    }

module _ {owner : Owner} {picked : List ℕ} {kinds : List Kind} {h g : Held} {n i count : ℕ} (k : Tallying owner picked kinds h g n i count) where
  module _ {b : Bool} (l : i < n) (e : b ≡ is_free kinds i) where
    pub tally_no : b ≡ false → Tallying owner picked kinds h g n (i + 1) count
    tally_no t =
        let q = select_no (is_free kinds) (point_of picked) i n l (sym e ∙ t) in
        let c = k.below in
        record {
          within = omega arith;
          below = omega arith;
          whole = k.whole;
          total = omega (arith, k.total, ap length q);
          stands = k.stands;
          long = k.long;
          added = λ r. ap (λ (x : List OutPoint). records_of g ++ map (held_by owner) x) (sym q) ∙ k.added r;
        }

    pub tally-full : b ≡ true → 256 ≤ g.count → Tallying owner picked kinds h g n (i + 1) (count + 1)
    tally-full t u =
        let q = select_yes (is_free kinds) (point_of picked) i n l (sym e ∙ t) in
        let c = k.below in
        let s = k.stands in
        record {
          within = omega arith;
          below = omega arith;
          whole = k.whole;
          total = omega (arith, k.total, ap length q);
          stands = omega arith;
          long = k.long;
          added = λ r. absurd (omega arith);
        }

    pub tally_yes : {p : OutPoint} → b ≡ true → g.count < 256 → p ≡ point_of picked i → Tallying owner picked kinds h (record { records = set g.records g.count (held_by owner p); count = g.count + 1 }) n (i + 1) (count + 1)
    unfolding records_of
    tally_yes {p} t u ep =
        let q : Free picked kinds i n ≡ point_of picked i ∷ Free picked kinds (i + 1) n = select_yes (is_free kinds) (point_of picked) i n l (sym e ∙ t) in
        let c = k.below in
        let s = k.stands in
        let w = k.long in
        record {
          within = omega arith;
          below = omega arith;
          whole = k.whole;
          total = omega (arith, k.total, ap length q);
          stands = omega arith;
          long = simp length-set k.long;
          added = λ r.
              rw (take_put g.records g.count (held_by owner p) (omega arith), ep)
              (append_snoc (take g.count g.records) (held_by owner (point_of picked i)) (map (held_by owner) (Free picked kinds (i + 1) n))
              ∙ sym (ap (λ (x : List OutPoint). take g.count g.records ++ map (held_by owner) x) q)
              ∙ k.added (omega arith));
        }

-- the table that the loop begins with is h with its count cut to the array
pub tally-end : {owner : Owner} {picked : List ℕ} {kinds : List Kind} (h : Held) {g : Held} {u n i count : ℕ} → u ≡ min h.count 256
    → Tallying owner picked kinds (record { records = h.records; count = u }) g n i count → n ≤ i → Tallied owner (free_of picked kinds) h g count
tally-end {owner} {picked} {kinds} h {g} {u} {n} {i} {count} b k l =
    let q = select-end (is_free kinds) (point_of picked) i n l in
    let s = k.stands in
    record {
      whole = k.whole;
      counted = omega (arith, k.total, ap length q);
      stands = λ r. omega arith;
      added = λ r.
          sym (append-nil (records_of g)) ∙ sym (ap (λ (x : List OutPoint). records_of g ++ map (held_by owner) x) q) ∙ k.added (omega arith)
          ∙ ap (λ (y : List Hold). y ++ map (held_by owner) (free_of picked kinds)) (trim_is h b k.whole);
    }

-- ---- the others written

pub leave_start : (picked : List ℕ) (kinds : List Kind) {n : ℕ} (out : List ℕ) (at : ℕ) → n ≡ fix_count picked → at + 36 * length (left_of picked kinds) ≤ length out
    → Naming (is_left kinds) (point_of picked) (left_of picked kinds) n 0 out at out at
unfolding left_of
leave_start picked kinds out at e = name-start (is_left kinds) (point_of picked) out at e refl

module _ (picked : List ℕ) (kinds : List Kind) {all : List OutPoint} {n i : ℕ} {out₀ : List ℕ} {at₀ : ℕ} {out : List ℕ} {at : ℕ} (v : Naming (is_left kinds) (point_of picked) all n i out₀ at₀ out at) {b : Bool} (l : i < n) (e : b ≡ is_free kinds i) where
  pub leave_put : {p : OutPoint} {o : List ℕ} {a : ℕ} → b ≡ false → p ≡ point_of picked i → o ≡ put_at out at (point_bytes p) → a ≡ put_end out at (point_bytes p)
      → Naming (is_left kinds) (point_of picked) all n (i + 1) out₀ at₀ o a
  unfolding is_left
  leave_put t = name_yes v l (ap not e) (ap not t)

  pub leave_taken : b ≡ true → Naming (is_left kinds) (point_of picked) all n (i + 1) out₀ at₀ out at
  unfolding is_left
  leave_taken t = name_no v l (ap not e) (ap not t)
