-- Records put last, one for each cell from i on.
use mathlib.Core.Path.{◌≡◌, sym, ap, ◌∙◌}
use Prim.Native.Nat.{ℕ, ◌+◌, ◌-◌, ◌≤◌, ◌<◌}
use native.Mathlib.Omega.{arith}
use mathlib.Core.List.{List, ◌++◌, map, append-nil}
use lib.ListN.{length, take, set, length-set}
use lib.Seq.{append_snoc}
use Rattle.molecule.specs.Layout.{span, fix_count}
use Rattle.lists.proofs.SpanLaws.{span-on, span-end, span-whole}
use Rattle.out_points.specs.declared.{OutPoint.OutPoint}
use Rattle.out_points.specs.OutPoints.{point_of, points}
use Rattle.hold_records.specs.declared.{Owner.Owner, Hold.Hold, Held.Held}
use Rattle.hold_records.specs.Holds.{records_of, held_by}
use Rattle.hold_records.proofs.ListLaws.{take_put}

pub funding-of : (holder : ℕ) {p q : OutPoint} → p ≡ q → held_by (Owner.Funding holder) p ≡ held_by (Owner.Funding holder) q
funding-of holder e = ap (held_by (Owner.Funding holder)) e

pub record Adding (hold : OutPoint → Hold) (s : List ℕ) (h g : Held) (n i : ℕ) : Type 0 where
  pub within : i ≤ n
  pub room : g.count + (n - i) ≤ 256
  pub long : length g.records ≡ 256
  pub added : records_of g ++ map hold (span (point_of s) i (n - i)) ≡ records_of h ++ map hold (points s)

pub add_none : (hold : OutPoint → Hold) (s : List ℕ) (h : Held) {n : ℕ} → h.count + fix_count s ≤ 256 → n ≡ fix_count s → length h.records ≡ 256 → Adding hold s h h n 0
add_none hold s h {n} r e l = record {
  within = omega arith;
  room = omega arith;
  long = l;
  added = rw (← e) (ap (λ (ps : List OutPoint). records_of h ++ map hold ps) (sym (span-whole (point_of s) n)));
}

module _ {hold : OutPoint → Hold} {s : List ℕ} {h g : Held} {n i : ℕ} (k : Adding hold s h g n i) where
  pub add-more : {x : Hold} → i < n → x ≡ hold (point_of s i) → Adding hold s h (record { records = set g.records g.count x; count = g.count + 1 }) n (i + 1)
  unfolding records_of
  add-more {x} l e =
      let a = k.long in
      let b = k.room in
      record {
        within = omega arith;
        room = omega arith;
        long = simp length-set k.long;
        added = rw (take_put g.records g.count x (omega arith), e)
            (append_snoc (take g.count g.records) (hold (point_of s i)) (map hold (span (point_of s) (i + 1) (n - (i + 1))))
            ∙ sym (ap (λ (ps : List OutPoint). take g.count g.records ++ map hold ps) (span-on (point_of s) i n l))
            ∙ k.added);
      }

  pub add-end : n ≤ i → records_of g ≡ records_of h ++ map hold (points s)
  add-end l = sym (append-nil (records_of g)) ∙ sym (ap (λ (ps : List OutPoint). records_of g ++ map hold ps) (span-end (point_of s) i n l)) ∙ k.added

  pub add-count : n ≤ i → g.count ≤ 256
  add-count l = let r = k.room in omega arith
