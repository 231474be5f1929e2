-- The table of holds read and written: one law for each way out of the functions.
use mathlib.Core.Path.{◌≡◌, refl, sym, ap, ◌∙◌, subst}
use Prim.Native.Nat.{ℕ, zero, suc, ◌+◌, ◌*◌, ◌^◌, ◌≤◌, ◌<◌, min}
use mathlib.Core.Bool.{Bool, true, false, cond}
use mathlib.Core.List.{List, [], ◌++◌, map}
use native.Mathlib.Nat.{zero-add}
use native.Mathlib.Omega.{arith}
use borrow.Author.Tests.{eq-eqb, ne_eqb}
use lib.Dec.{eqb}
use lib.ListN.{length, take, get_or, set, replicate, length-map, get_or-map}
use Rattle.arithmetic.specs.LittleEndian.{to_le, AllBytes}
use Rattle.units.specs.declared.{Millis.Millis}
use Rattle.molecule.specs.Layout.{span, word}
use Rattle.molecule.specs.Partial.{All}
use Rattle.molecule.specs.Write.{put_at, put_end, Put}
use Rattle.out_points.specs.OutPoints.{Fit}
use Rattle.hold_records.specs.declared.{Owner.Owner, Hold.Hold, Held.Held}
use Rattle.hold_records.specs.Holds.{records_of}
use Rattle.hold_records.proofs.LoopLaws.{stands, Keeping, keep_into, keep_yes, keep_no}
use Rattle.arithmetic.proofs.LittleEndianLaws.{length-to_le}
use Rattle.molecule.proofs.Offsets.{span-length}
use Rattle.molecule.proofs.WriteLaws.{did, length-kept}
use Rattle.table_bytes.specs.declared.{Place.Place}
use Rattle.table_bytes.specs.Places.{FitPlace, place_of, places, places_bytes}
use Rattle.table_bytes.proofs.AgainLaws.{count_zero}
use Rattle.table_bytes.proofs.LoopLaws.{Reading, read_end, Putting, put_end_lem, put_fit, put_long}
use Rattle.table_bytes.proofs.TableLaws.{table_short, table-room, table_put, records-back, records_put, records_again}
use Rattle.held_bytes.specs.HeldBytes.{held_size, owner_of, hold_of, held_of, held_at, owner_kind, owner_number, place_for, held_bytes}

-- ---- one record

pub hold-funding : (p : Place) → p.kind ≡ 0 → ◌≡◌ {A = Hold} (record { point = p.point; owner = Owner.Funding p.number }) (hold_of p)
unfolding hold_of owner_of
hold-funding p e = rw (eq-eqb p.kind 0 e)

pub hold-tower : (p : Place) → (p.kind ≡ 0 → ⊥) → ◌≡◌ {A = Hold} (record { point = p.point; owner = Owner.Watchtower (record { 0 = p.number }) }) (hold_of p)
unfolding hold_of owner_of
hold-tower p n = rw (ne_eqb p.kind 0 n)

module _ (r : Hold) where
  pub place-funding : {n : ℕ} → r.owner ≡ Owner.Funding n → ◌≡◌ {A = Place} (record { point = r.point; kind = 0; number = n }) (place_for r)
  unfolding place_for owner_kind owner_number
  place-funding e = rw e

  pub place-tower : {t : Millis} → r.owner ≡ Owner.Watchtower t → ◌≡◌ {A = Place} (record { point = r.point; kind = 1; number = t.0 }) (place_for r)
  unfolding place_for owner_kind owner_number
  place-tower e = rw e

  pub fit-funding : {n : ℕ} → Fit r.point → n < 2 ^ 64 → FitPlace (record { point = r.point; kind = 0; number = n })
  fit-funding f b = record { point-fits = f; kind_fits = omega arith; number_fits = b }

  pub fit-tower : {n : ℕ} → Fit r.point → n < 2 ^ 64 → FitPlace (record { point = r.point; kind = 1; number = n })
  fit-tower f b = record { point-fits = f; kind_fits = omega arith; number_fits = b }

same-hold : (r : Hold) → hold_of (place_for r) ≡ r
unfolding hold_of owner_of place_for owner_kind owner_number
same-hold r = ap (λ (o : Owner). record { point = r.point; owner = o }) (by r.owner)
  where
    by : (o : Owner) → owner_of (owner_kind o) (owner_number o) ≡ o
    by (Owner.Funding n) = refl
    by (Owner.Watchtower t) = refl

-- ---- all of them

pub held_read : {s : List ℕ} {g : List Hold} {i n : ℕ} → Reading hold_of s 256 g i → 256 ≤ i → n ≡ word s 0 → ◌≡◌ {A = Held} (record { records = g; count = n }) (held_of s)
unfolding held_of
held_read r h e = rw (read_end r h, e)

-- those that a test f keeps
held_whole : (s : List ℕ) → length (held_of s).records ≡ 256
unfolding held_of
held_whole s = length-map (places 256 s) hold_of ∙ span-length (place_of s) 0 256

held-count : (s : List ℕ) → (held_of s).count ≡ word s 0
unfolding held_of
held-count s = refl

span-place : (s : List ℕ) (d : Place) (j i k : ℕ) → i < k → get_or (span (place_of s) j k) i d ≡ place_of s (j + i)
unfolding span
span-place s d j i zero h = absurd (omega arith)
span-place s d j zero (suc k) h = ap (place_of s) (omega arith)
span-place s d j (suc i) (suc k) h = span-place s d (suc j) i k (omega arith) ∙ ap (place_of s) (omega arith)

held_place : (s : List ℕ) (i : ℕ) → i < 256 → get_or (held_of s).records i (hold_of (place_of s i)) ≡ hold_of (place_of s i)
unfolding held_of
held_place s i h = get_or-map hold_of (places 256 s) i (place_of s i) ∙ ap hold_of (span-place s (place_of s i) 0 i 256 h ∙ ap (place_of s) (zero-add i))

pub sift_start : (f : Hold → Bool) (s : List ℕ) (g : Held) {c n : ℕ} → c ≡ word s 0 → n ≡ min c 256 → length g.records ≡ 256 → Keeping f (held_of s) g n 0 0
sift_start f s g e h l = keep_into f (held_of s) g (h ∙ ap (λ (x : ℕ). min x 256) (e ∙ sym (held-count s))) (held_whole s) l

module _ {f : Hold → Bool} (s : List ℕ) {g : Held} {n to i : ℕ} (k : Keeping f (held_of s) g n to i) {p : Place} {x : Hold} {r : Bool} (h : i < n) (ep : p ≡ place_of s i) (ex : x ≡ hold_of p) (er : r ≡ f x) where
  item : get_or (held_of s).records i (hold_of (place_of s i)) ≡ x
  item = let m = k.most in held_place s i (omega arith) ∙ sym (ex ∙ ap hold_of ep)

  pub sift_yes : r ≡ true → Keeping f (held_of s) (record { records = set g.records to x; count = g.count }) n (to + 1) (i + 1)
  sift_yes t = subst (λ (y : Hold). Keeping f (held_of s) (record { records = set g.records to y; count = g.count }) n (to + 1) (i + 1)) item (keep_yes k _ h (er ∙ ap f (sym item)) t)

  pub sift_no : r ≡ false → Keeping f (held_of s) g n to (i + 1)
  sift_no t = keep_no k _ h (er ∙ ap f (sym item)) t

module _ {h : Held} {n : ℕ} {out : List ℕ} {at i : ℕ} {after : List ℕ} {next : ℕ} (w : Putting place_for h.records h.count n out at i after next) (l : n ≤ i) where
  held-end : Put out at (places_bytes (map place_for (records_of h))) after next
  unfolding records_of
  held-end = put_end_lem w l

  held-fit : All FitPlace (map place_for (records_of h))
  unfolding records_of
  held-fit = put_fit w l

module _ (h : Held) (out : List ℕ) {n : ℕ} (e : n ≡ min h.count 256) (w : length h.records ≡ 256) where
  counted : n ≡ length (map place_for (records_of h))
  counted = omega (arith, length-map (records_of h) place_for, stands h w)

  pub held_short : length out < 4 + 48 * n → out ≡ put_at out 0 (held_bytes (records_of h))
  unfolding held_bytes
  held_short l = table_short (map place_for (records_of h)) out counted l

  pub held_none : length out < 4 + 48 * n → (held_size ≤ length out → held_at out ≡ records_of h)
  held_none l b = absurd (omega arith)

  module _ (room : 4 + 48 * n ≤ length out) {o : List ℕ} {at : ℕ} (eo : o ≡ put_at out 0 (to_le 4 n)) (ea : at ≡ put_end out 0 (to_le 4 n)) where
    pub held-room : at + 48 * min h.count 256 ≤ length o
    held-room = let r = table-room (map place_for (records_of h)) out counted room eo ea in omega arith

    pub held-long : {i : ℕ} {o₂ : List ℕ} {a : ℕ} → Putting place_for h.records h.count n o at i o₂ a → length o₂ ≡ length out
    held-long q = put_long q ∙ length-kept (did (to_le 4 n) eo ea (omega (arith, length-to_le 4 n)))

    module _ {i : ℕ} {o₂ : List ℕ} {a : ℕ} (q : Putting place_for h.records h.count n o at i o₂ a) (l : n ≤ i) where
      pub held_put : o₂ ≡ put_at out 0 (held_bytes (records_of h))
      unfolding held_bytes
      held_put = table_put (map place_for (records_of h)) out counted room eo ea (held-end q l)

      pub held_means : (held_size ≤ length out → held_at o₂ ≡ records_of h)
      unfolding held_at held_of records_of held_bytes
      held_means b = records_put hold_of place_for same-hold (records_of h) out 256 (omega (arith, stands h w)) (omega arith) (omega arith) (held-fit q l) held_put

-- what was written is read, whatever bytes follow
pub held_back : (l : List Hold) (z : List ℕ) → length l ≤ 256 → All FitPlace (map place_for l) → held_at (held_bytes l ++ z) ≡ l
unfolding held_at held_of records_of held_bytes
held_back l z h f = records-back hold_of place_for same-hold l z 256 h (omega arith) f

-- and a table in bytes, written again, means the same
owner_fits : (k n : ℕ) → n < 2 ^ 64 → (owner_kind (owner_of k n) < 2 ^ 32) × (owner_number (owner_of k n) < 2 ^ 64)
unfolding owner_of owner_kind owner_number
owner_fits k n b = by (eqb k 0)
  where
    by : (t : Bool) → (owner_kind (cond t (Owner.Funding n) (Owner.Watchtower (record { 0 = n }))) < 2 ^ 32) × (owner_number (cond t (Owner.Funding n) (Owner.Watchtower (record { 0 = n }))) < 2 ^ 64)
    by true = (omega arith, b)
    by false = (omega arith, b)

hold-fits : (p : Place) → FitPlace p → FitPlace (place_for (hold_of p))
unfolding hold_of place_for
hold-fits p f = let o = owner_fits p.kind p.number f.number_fits in record { point-fits = f.point-fits; kind_fits = o.0; number_fits = o.1 }

pub held_again : (s z : List ℕ) → AllBytes s → held_at (held_bytes (held_at s) ++ z) ≡ held_at s
unfolding held_at held_of records_of held_bytes
held_again s z b = records_again hold_of place_for same-hold hold-fits s z 256 b (omega arith)

-- all zeros are the empty table
pub held-zeros : held_at (replicate held_size 0) ≡ []
unfolding held_at held_of records_of
held-zeros = ap (λ (n : ℕ). take n (map hold_of (places 256 (replicate held_size 0)))) (count_zero (replicate 12288 0))
