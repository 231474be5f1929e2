-- What the loops over a table know: one law to start, one to go on and one for each way out.
use mathlib.Core.Path.{◌≡◌, refl, sym, ap, ◌∙◌}
use Prim.Native.Nat.{ℕ, suc, ◌+◌, ◌≤◌, ◌<◌, min}
use native.Mathlib.Numerals.{add-one}
use native.Mathlib.Omega.{arith}
use mathlib.Core.Bool.{Bool, true, false}
use mathlib.Core.List.{[], ◌∷◌}
use lib.ListN.{length, get_or, take, drop, set, replicate, length-set, length-take, drop_of_length-le}
use lib.Seq.{drop-cons, get_or-take}
use Rattle.std.specs.List.{filter}
use Rattle.hold_records.specs.declared.{Owner.Owner, Hold.Hold, Held.Held}
use Rattle.hold_records.specs.Holds.{records_of, empty_table}
use Rattle.hold_records.proofs.ListLaws.{take_used, keeps, drops}

pub none_stand : (h : Held) → h.count ≡ 0 → records_of h ≡ []
unfolding records_of
none_stand h e = rw e

pub empty-is : record { records = replicate 256 (record { point = record { hash = record { a = 0; b = 0; c = 0; d = 0 }; index = 0 }; owner = Owner.Funding 0 }); count = 0 } ≡ empty_table
unfolding empty_table
empty-is = refl

-- how many records stand
pub stands : (h : Held) → length h.records ≡ 256 → length (records_of h) ≡ min h.count 256
unfolding records_of
stands h e = simp length-take (rw e)

pub recorded : (h : Held) → length h.records ≡ 256 → h.count ≤ 256 → length (records_of h) ≡ h.count
recorded h e b = let s = stands h e in omega arith

pub trim_is : (h : Held) {n : ℕ} → n ≡ min h.count 256 → length h.records ≡ 256 → records_of (record { records = h.records; count = n }) ≡ records_of h
unfolding records_of
trim_is h {n} e l = take_used h.records n h.count 256 l e

-- ---- the records that pass the test f, moved to the front

pub record Keeping (f : Hold → Bool) (h g : Held) (n to i : ℕ) : Type 0 where
  pub within : i ≤ n
  pub behind : to ≤ i
  pub most : n ≡ min h.count 256
  pub long : length g.records ≡ 256
  pub whole : length h.records ≡ 256
  pub kept : take to g.records ≡ filter f (take i h.records)

-- into any table g
pub keep_into : (f : Hold → Bool) (h g : Held) {n : ℕ} → n ≡ min h.count 256 → length h.records ≡ 256 → length g.records ≡ 256 → Keeping f h g n 0 0
keep_into f h g e w l = record { within = omega arith; behind = omega arith; most = e; long = l; whole = w; kept = refl }

pub keep-none : (f : Hold → Bool) (h : Held) {n : ℕ} → n ≡ min h.count 256 → length h.records ≡ 256 → Keeping f h h n 0 0
keep-none f h e l = keep_into f h h e l l

module _ {f : Hold → Bool} {h g : Held} {n to i : ℕ} (k : Keeping f h g n to i) where
  pub keep_yes : (d : Hold) {r : Bool} → i < n → r ≡ f (get_or h.records i d) → r ≡ true
      → Keeping f h (record { records = set g.records to (get_or h.records i d); count = g.count }) n (to + 1) (i + 1)
  keep_yes d l e t =
      let m = k.most in
      let a = k.long in
      let b = k.whole in
      let c = k.behind in
      record {
        within = omega arith;
        behind = omega arith;
        most = k.most;
        long = simp length-set k.long;
        whole = k.whole;
        kept = keeps f h.records g.records to i d (omega arith) (omega arith) k.kept (sym e ∙ t);
      }

  pub keep_no : (d : Hold) {r : Bool} → i < n → r ≡ f (get_or h.records i d) → r ≡ false → Keeping f h g n to (i + 1)
  keep_no d l e t =
      let m = k.most in
      let b = k.whole in
      let c = k.behind in
      record {
        within = omega arith;
        behind = omega arith;
        most = k.most;
        long = k.long;
        whole = k.whole;
        kept = drops f h.records g.records to i d (omega arith) k.kept (sym e ∙ t);
      }

  pub keep-end : n ≤ i → records_of (record { records = g.records; count = to }) ≡ filter f (records_of h)
  unfolding records_of
  keep-end l =
      let m = k.most in
      let w = k.within in
      rw (← take_used h.records i h.count 256 k.whole (omega arith)) k.kept

  pub keep_most : n ≤ i → to ≤ 256
  keep_most l =
      let m = k.most in
      let c = k.behind in
      let w = k.within in
      omega arith

-- the record at a place that stands
pub drop_record : (h : Held) (i : ℕ) (d : Hold) → length h.records ≡ 256 → i < min h.count 256 → drop i (records_of h) ≡ get_or h.records i d ∷ drop (i + 1) (records_of h)
unfolding records_of
drop_record h i d e l =
    let b : i < length (take h.count h.records) = simp length-take (omega arith) in
    rw add-one (drop-cons (take h.count h.records) i d b ∙ ap (λ (x : Hold). x ∷ drop (suc i) (take h.count h.records)) (get_or-take h.count h.records i d (omega arith)))

pub drop-none : (h : Held) (i : ℕ) → length h.records ≡ 256 → min h.count 256 ≤ i → drop i (records_of h) ≡ []
unfolding records_of
drop-none h i e l =
    let b : length (take h.count h.records) ≤ i = simp length-take (omega arith) in
    drop_of_length-le (take h.count h.records) b
