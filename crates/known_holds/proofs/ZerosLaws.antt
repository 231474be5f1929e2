-- A table of zeros behind any count means 256 records of holder 0 on the cell 0: what a call on it computes is what the call's definition computes on these, so no proof reads the 256 places.
use mathlib.Core.Path.{◌≡◌, refl, ap, ◌∙◌}
use Prim.Native.Nat.{ℕ, zero, suc, ◌+◌, ◌-◌, ◌*◌, ◌≤◌, ◌<◌}
use mathlib.Core.Bool.{Bool, true, false, cond}
use mathlib.Core.List.{List, [], ◌∷◌, map}
use native.Mathlib.Omega.{arith}
use lib.Dec.{ltb}
use lib.ListN.{length, take, drop, replicate}
use lib.Seq.{drop-append-add}
use Rattle.arithmetic.specs.LittleEndian.{to_le}
use Rattle.arithmetic.proofs.LittleEndianLaws.{length-to_le}
use Rattle.molecule.specs.Layout.{part, span, fix_item, word}
use Rattle.hold_records.specs.declared.{Hold.Hold, Taker.Taker}
use Rattle.hold_records.specs.Holds.{records_of, hold_funding, hold_for_watchtower, release_for_watchtower}
use Rattle.table_bytes.specs.declared.{Place.Place}
use Rattle.table_bytes.specs.Places.{place_at, place_of}
use Rattle.table_bytes.specs.Lent.{on_table}
use Rattle.held_bytes.specs.HeldBytes.{owner_of, hold_of, held_of, held_at, held_table}
use Rattle.case_parts.specs.Parts.{ms, point}
use Rattle.known_holds.specs.Holds.{funding}
use Rattle.known_holds.specs.LentHolds.{on_bytes, hold, watch, release, lock_on, lock, named_on, named, takes_on, takes, zeros, of_zeros}
use Rattle.known_holds.proofs.Computing.{computing}

drop-same : (x k m n : ℕ) → m ≡ k + n → drop k (replicate m x) ≡ replicate n x
drop-same x zero m n e = let z : m ≡ n = omega arith in rw z
drop-same x (suc k) zero n e = absurd (omega arith)
drop-same x (suc k) (suc m) n e = drop-same x k m n (omega arith)

take_same : (x k m : ℕ) → k ≤ m → take k (replicate m x) ≡ replicate k x
take_same x zero m h = refl
take_same x (suc k) zero h = absurd (omega arith)
take_same x (suc k) (suc m) h = ap (λ (l : List ℕ). x ∷ l) (take_same x k m (omega arith))

-- ---- a place of it

abbrev nobody : Place
nobody = record { point = point 0; kind = 0; number = 0 }

no_bytes : place_at [] ≡ nobody
unfolding computing
no_bytes = refl

zero_bytes : place_at (replicate 48 0) ≡ nobody
unfolding computing
zero_bytes = refl

place-bytes : (n i : ℕ) → i < 256 → part (zeros n) (4 + 48 * i) (4 + 48 * i + 48) ≡ replicate 48 0
unfolding part
place-bytes n i h =
    let w : 4 + 48 * i + 48 - (4 + 48 * i) ≡ 48 = omega arith in
    let a : 4 + 48 * i ≡ length (to_le 4 n) + 48 * i = omega (arith, length-to_le 4 n) in
    let d : drop (4 + 48 * i) (zeros n) ≡ replicate (12288 - 48 * i) 0 = ap (λ (k : ℕ). drop k (zeros n)) a ∙ drop-append-add (to_le 4 n) (replicate 12288 0) (48 * i) ∙ drop-same 0 (48 * i) 12288 (12288 - 48 * i) (omega arith) in
    rw (w, d) (take_same 0 48 (12288 - 48 * i) (omega arith))

place_is : (n i : ℕ) → i < 256 → place_of (zeros n) i ≡ nobody
unfolding place_of fix_item
place_is n i h = by (ltb i (word (zeros n) 0))
  where
    by : (b : Bool) → place_at (cond b (part (zeros n) (4 + 48 * i) (4 + 48 * i + 48)) []) ≡ nobody
    by true = ap place_at (place-bytes n i h) ∙ zero_bytes
    by false = no_bytes

-- ---- all of it

hold-is : hold_of nobody ≡ funding 0 (point 0)
unfolding hold_of owner_of
hold-is = refl

records_are : (n i k : ℕ) → i + k ≤ 256 → map hold_of (span (place_of (zeros n)) i k) ≡ of_zeros k
unfolding span
records_are n i zero h = refl
records_are n i (suc k) h = rw (place_is n i (omega arith), hold-is, records_are n (suc i) k (omega arith))

abbrev meant : ℕ → List Hold
meant n = take (word (zeros n) 0) (of_zeros 256)

zeros_mean : (n : ℕ) → held_at (zeros n) ≡ meant n
unfolding held_at held_of records_of
zeros_mean n = ap (λ (l : List Hold). take (word (zeros n) 0) l) (records_are n 0 256 (omega arith))

-- ---- the calls

module _ (n : ℕ) where
  pub hold-zeros : (holder : ℕ) (cells : List ℕ) → hold (zeros n) holder cells ≡ on_bytes (zeros n) (on_table held_table (zeros n) (hold_funding (meant n) holder cells))
  hold-zeros holder cells = ap (λ (h : List Hold). on_bytes (zeros n) (on_table held_table (zeros n) (hold_funding h holder cells))) (zeros_mean n)

  pub watch-zeros : (cells : List ℕ) (now : ℕ) → watch (zeros n) cells now ≡ on_bytes (zeros n) (on_table held_table (zeros n) (hold_for_watchtower (meant n) cells (ms now)))
  watch-zeros cells now = ap (λ (h : List Hold). on_bytes (zeros n) (on_table held_table (zeros n) (hold_for_watchtower h cells (ms now)))) (zeros_mean n)

  pub release-zeros : (cells : List ℕ) → release (zeros n) cells ≡ on_bytes (zeros n) (on_table held_table (zeros n) (release_for_watchtower (meant n) cells))
  release-zeros cells = ap (λ (h : List Hold). on_bytes (zeros n) (on_table held_table (zeros n) (release_for_watchtower h cells))) (zeros_mean n)

  pub lock-zeros : (now : ℕ) (out : List ℕ) → lock (zeros n) now out ≡ lock_on (meant n) (zeros n) now out
  lock-zeros now out = ap (λ (h : List Hold). lock_on h (zeros n) now out) (zeros_mean n)

  pub named-zeros : (picked spent : List ℕ) (now : ℕ) (out : List ℕ) → named (zeros n) picked spent now out ≡ named_on (meant n) (zeros n) picked spent now out
  named-zeros picked spent now out = ap (λ (h : List Hold). named_on h (zeros n) picked spent now out) (zeros_mean n)

  pub takes-zeros : (picked spent : List ℕ) (taker : Taker) (now : ℕ) (out₁ out₂ : List ℕ) → takes (zeros n) picked spent taker now out₁ out₂ ≡ takes_on (meant n) (zeros n) picked spent taker now out₁ out₂
  takes-zeros picked spent taker now out₁ out₂ = ap (λ (h : List Hold). takes_on h (zeros n) picked spent taker now out₁ out₂) (zeros_mean n)
