-- Digits, made from the lowest on: one law for each way out of the functions that put a number.
use mathlib.Core.Path.{◌≡◌, sym, ap, ◌∙◌}
use Prim.Native.Nat.{ℕ, zero, suc, ◌+◌, ◌-◌, ◌/◌, ◌%◌, ◌≤◌, ◌<◌}
use mathlib.Core.List.{List, [], ◌∷◌, ◌++◌, append_assoc, append-nil}
use native.Mathlib.Omega.{arith}
use borrow.Author.Tests.{lt-ltb, le-ltb}
use lib.ListN.{length, take, drop, set, length-set, length-drop, drop_of_length-le}
use lib.Seq.{set_split, drop_at, length-take-le, take_all}
use Rattle.molecule.specs.Partial.{pick}
use Rattle.molecule.specs.Write.{put_at, put_end}
use Rattle.verdict_line.specs.VerdictLine.{digit, hex, digits, decimal}

pub digit_low : (d : ℕ) → d < 10 → 48 + d ≡ digit d
unfolding digit
digit_low d h = rw (lt-ltb d 10 h)

pub digit-high : (d : ℕ) → 10 ≤ d → 87 + d ≡ digit d
unfolding digit
digit-high d h = rw (le-ltb d 10 h)

-- ---- n bytes filled from the right: what stands from i on ends the whole, of which `rest` is still to be made

pub record Filling (n : ℕ) (whole rest bytes : List ℕ) (i : ℕ) : Type 0 where
  pub long : length bytes ≡ n
  pub within : i ≤ n
  pub made : whole ≡ rest ++ drop i bytes

pub fill_none : (n : ℕ) (whole bytes : List ℕ) → length bytes ≡ n → Filling n whole whole bytes n
fill_none n whole bytes h =
    let e : drop n bytes ≡ [] = drop_of_length-le bytes {i = n} (omega arith) in
    record { long = h; within = omega arith; made = sym (rw (e, append-nil)) }

drop-set : (l : List ℕ) (i d : ℕ) → i < length l → drop i (set l i d) ≡ d ∷ drop (suc i) l
drop-set l i d h = rw (set_split l i d h) (drop_at (take i l) (d ∷ drop (suc i) l) i (length-take-le i l (omega arith)))

fill_one : {n : ℕ} {whole rest bytes : List ℕ} {i : ℕ} (less : List ℕ) (d : ℕ) → Filling n whole rest bytes (suc i) → rest ≡ less ++ d ∷ [] → Filling n whole less (set bytes i d) i
fill_one {n} {whole} {rest} {bytes} {i} less d f e = record {
  long = simp length-set f.long;
  within = omega arith;
  made = f.made ∙ rw (e, append_assoc, drop-set bytes i d (omega arith));
}

-- ---- hex digits

pub hex-more : (x : ℕ) {n : ℕ} {whole bytes : List ℕ} {d : ℕ} (i : ℕ) → Filling n whole (hex i x) bytes i → 0 < i → d ≡ digit (x % 16) → Filling n whole (hex (i - 1) (x / 16)) (set bytes (i - 1) d) (i - 1)
unfolding hex
hex-more x zero f h e = absurd (omega arith)
hex-more x (suc i) f h e = let j : suc i - 1 ≡ i = omega arith in rw j (fill_one (hex i (x / 16)) _ f (rw e))

-- all 16 are made
hex_all : {n : ℕ} {whole bytes : List ℕ} (x i : ℕ) → Filling n whole (hex i x) bytes i → i ≤ 0 → bytes ≡ whole
unfolding hex
hex_all x zero f h = sym f.made
hex_all x (suc i) f h = absurd (omega arith)

module _ (out : List ℕ) (at : ℕ) {n : ℕ} (whole : List ℕ) {bytes : List ℕ} (x i : ℕ) (f : Filling n whole (hex i x) bytes i) (h : i ≤ 0) where
  pub hex_put : {after : List ℕ} → after ≡ put_at out at bytes → after ≡ put_at out at whole
  hex_put e = e ∙ rw (hex_all x i f h)

  pub hex-end : {next : ℕ} → next ≡ put_end out at bytes → next ≡ put_end out at whole
  hex-end e = e ∙ rw (hex_all x i f h)

-- ---- decimal digits

pub digits-none : (x : ℕ) (bytes : List ℕ) → length bytes ≡ 20 → Filling 20 (decimal x) (digits 20 x) bytes 20
unfolding decimal
digits-none x bytes h = fill_none 20 (digits 20 x) bytes h

pub still_long : {n : ℕ} (whole rest bytes : List ℕ) {i : ℕ} (j d : ℕ) → Filling n whole rest bytes i → n ≤ length (set bytes j d)
still_long whole rest bytes j d f = simp length-set (omega arith)

pub digits_more : (x : ℕ) {n : ℕ} {whole bytes : List ℕ} {d : ℕ} (i : ℕ) → Filling n whole (digits i x) bytes i → 0 < i → 10 ≤ x → d ≡ digit (x % 10) → Filling n whole (digits (i - 1) (x / 10)) (set bytes (i - 1) d) (i - 1)
unfolding digits pick
digits_more x zero f h k e = absurd (omega arith)
digits_more x (suc i) f h k e = let j : suc i - 1 ≡ i = omega arith in rw j (fill_one (digits i (x / 10)) _ f (rw (le-ltb x 10 k, e)))

-- the last digit
digits_last : {n : ℕ} {whole bytes : List ℕ} {d : ℕ} (x i : ℕ) → Filling n whole (digits i x) bytes i → 0 < i → x < 10 → d ≡ digit x → take (n - (i - 1)) (drop (i - 1) (set bytes (i - 1) d)) ≡ whole
unfolding digits pick
digits_last x zero f h k e = absurd (omega arith)
digits_last {n} {whole} {bytes} {d} x (suc i) f h k e =
    let g = fill_one [] d f (rw (lt-ltb x 10 k, e)) in
    let l : length (drop i (set bytes i d)) ≤ n - i = simp (length-drop, length-set) (omega arith) in
    let j : suc i - 1 ≡ i = omega arith in
    rw j (take_all (n - i) (drop i (set bytes i d)) l ∙ sym g.made)

digits_all : {n : ℕ} {whole bytes : List ℕ} (x i : ℕ) → Filling n whole (digits i x) bytes i → i ≤ 0 → bytes ≡ whole
unfolding digits
digits_all x zero f h = sym f.made
digits_all x (suc i) f h = absurd (omega arith)

-- the loop leaves the buffer as it was
module _ {out₀ out : List ℕ} (same : out ≡ out₀) (at : ℕ) {n : ℕ} (whole : List ℕ) {bytes : List ℕ} (x i : ℕ) (f : Filling n whole (digits i x) bytes i) where
  pub last_put : {d : ℕ} → 0 < i → x < 10 → d ≡ digit x → {after : List ℕ} → after ≡ put_at out at (take (n - (i - 1)) (drop (i - 1) (set bytes (i - 1) d))) → after ≡ put_at out₀ at whole
  last_put h k e g = g ∙ rw (same, digits_last x i f h k e)

  pub last_end : {d : ℕ} → 0 < i → x < 10 → d ≡ digit x → {next : ℕ} → next ≡ put_end out at (take (n - (i - 1)) (drop (i - 1) (set bytes (i - 1) d))) → next ≡ put_end out₀ at whole
  last_end h k e g = g ∙ rw (same, digits_last x i f h k e)

  pub digits_put : i ≤ 0 → {after : List ℕ} → after ≡ put_at out at bytes → after ≡ put_at out₀ at whole
  digits_put h e = e ∙ rw (same, digits_all x i f h)

  pub digits-end : i ≤ 0 → {next : ℕ} → next ≡ put_end out at bytes → next ≡ put_end out₀ at whole
  digits-end h e = e ∙ rw (same, digits_all x i f h)

pub long_as : {out₀ out : List ℕ} (after : List ℕ) → out ≡ out₀ → length after ≡ length out → length after ≡ length out₀
long_as after e h = h ∙ ap length e
