-- Laws of specs/Amount.antt: what the answers of sums, differences and readings tell a caller.
use Rattle.std.proofs.Common.{◌≡◌, ℕ, ◌+◌, ◌-◌, ◌*◌, ◌/◌, ◌%◌, ◌^◌, ◌<◌, ◌≤◌, ◌⊎◌, Bool, true, false, cond, ltb, leb, List, length, take, refl, inl, inr, ⊎_elim, ap, ◌∙◌, sym, arith, Some, None, Option, ltb-false, ltb-true, leb-false, leb-true, length-take-le}
use native.Mathlib.Nat.{not-le_of_lt}
use borrow.Author.Tests.{lt-leb, le-leb, lt-ltb, le-ltb}
use Rattle.std.specs.Int.{from_le_bytes, w128}
use Rattle.std.specs.Array.{IsFirstChunk}
use Rattle.std.specs.Option.{SomeIff}
use Rattle.std.proofs.lemmas.List.{take_all}
use Rattle.arithmetic.specs.LittleEndian.{le}
use Rattle.arithmetic.specs.Amount.{sum, difference, amount_at}
use Rattle.arithmetic.proofs.LittleEndianLaws.{number-of}

-- ---- the first 16 bytes

pub amount_short : (s : List ℕ) → length s < 16 → None ≡ amount_at s
unfolding amount_at
amount_short s h = rw (lt-leb 16 (length s) h)

pub amount_is : (s : List ℕ) {b : List ℕ} {r : ℕ} → IsFirstChunk s b 16 → r ≡ from_le_bytes w128 b → Some r ≡ amount_at s
unfolding amount_at
amount_is s {b} h e =
    let n : length b ≡ 16 = ap length h.same ∙ length-take-le 16 s h.enough in
    rw (le-leb 16 (length s) h.enough) (ap Some (number-of b 15 (omega arith) e ∙ ap le (take_all 16 b (omega arith) ∙ h.same)))

-- an answer of `cond` is the one or the other
arm : {A : Type 0} (t : Bool) (x y r : A) → r ≡ cond t x y → ((t ≡ true) × (r ≡ x)) ⊎ ((t ≡ false) × (r ≡ y))
arm true x y r e = inl (refl, e)
arm false x y r e = inr (refl, e)

module _ (s : List ℕ) {r : Option ℕ} (e : r ≡ amount_at s) where
  arms : ((leb 16 (length s) ≡ true) × (r ≡ Some (le (take 16 s)))) ⊎ ((leb 16 (length s) ≡ false) × (r ≡ None))
  unfolding amount_at
  arms = arm (leb 16 (length s)) _ _ r e

  pub read_amount : {c : ℕ} → r ≡ Some c → c ≡ le (take 16 s)
  read_amount f = ⊎_elim (λ w. cc) (λ w. cc) arms

  pub read_long : {c : ℕ} → r ≡ Some c → 16 ≤ length s
  read_long f = ⊎_elim (λ w. leb-true _ _ w.0) (λ w. (let z : ◌≡◌ {A = ℕ} 0 1 = cc in absurd (omega arith))) arms

  pub read_under : r ≡ None → length s < 16
  read_under f = ⊎_elim (λ w. (let z : ◌≡◌ {A = ℕ} 0 1 = cc in absurd (omega arith))) (λ w. leb-false _ _ w.0) arms

-- ---- sums and differences

-- the library's answers by a test of their fact
iff_cond : {P : Type 0} (v : ℕ) (r : Option ℕ) (t : Bool) → (t ≡ true → P) → (t ≡ false → P → ⊥) → SomeIff r P v → r ≡ cond t (Some v) None
iff_cond v None true f g h = absurd (h (f refl))
iff_cond v None false f g h = refl
iff_cond v (Some x) true f g h = ap Some h.1
iff_cond v (Some x) false f g h = absurd (g refl h.0)

module _ (a b : ℕ) {r : Option ℕ} where
  -- the library's `checked_add` and `checked_sub`
  pub sum-of : SomeIff r (a + b < 2 ^ 128) (a + b) → r ≡ sum a b
  unfolding sum
  sum-of h = iff_cond _ r (ltb (a + b) (2 ^ 128)) (ltb-true _ _) (λ e k. not-le_of_lt k (ltb-false _ _ e)) h

  pub difference-of : SomeIff r (b ≤ a) (a - b) → r ≡ difference a b
  unfolding difference
  difference-of h = iff_cond _ r (leb b a) (leb-true _ _) (λ e k. not-le_of_lt (leb-false _ _ e) k) h

  sum_arm : r ≡ sum a b → ((ltb (a + b) (2 ^ 128) ≡ true) × (r ≡ Some (a + b))) ⊎ ((ltb (a + b) (2 ^ 128) ≡ false) × (r ≡ None))
  unfolding sum
  sum_arm e = arm (ltb (a + b) (2 ^ 128)) _ _ r e

  pub sum_is : {c : ℕ} → r ≡ sum a b → r ≡ Some c → c ≡ a + b
  sum_is e f = ⊎_elim (λ w. cc) (λ w. cc) (sum_arm e)

  pub sum_below : {c : ℕ} → r ≡ sum a b → r ≡ Some c → a + b < 2 ^ 128
  sum_below e f = ⊎_elim (λ w. ltb-true _ _ w.0) (λ w. (let z : ◌≡◌ {A = ℕ} 0 1 = cc in absurd (omega arith))) (sum_arm e)

  pub sum_over : r ≡ sum a b → r ≡ None → 2 ^ 128 ≤ a + b
  sum_over e f = ⊎_elim (λ w. (let z : ◌≡◌ {A = ℕ} 0 1 = cc in absurd (omega arith))) (λ w. ltb-false _ _ w.0) (sum_arm e)

  difference_arm : r ≡ difference a b → ((leb b a ≡ true) × (r ≡ Some (a - b))) ⊎ ((leb b a ≡ false) × (r ≡ None))
  unfolding difference
  difference_arm e = arm (leb b a) _ _ r e

  pub difference-is : {c : ℕ} → r ≡ difference a b → r ≡ Some c → c ≡ a - b
  difference-is e f = ⊎_elim (λ w. cc) (λ w. cc) (difference_arm e)

  pub difference-within : {c : ℕ} → r ≡ difference a b → r ≡ Some c → b ≤ a
  difference-within e f = ⊎_elim (λ w. leb-true _ _ w.0) (λ w. (let z : ◌≡◌ {A = ℕ} 0 1 = cc in absurd (omega arith))) (difference_arm e)

  pub difference-over : r ≡ difference a b → r ≡ None → a < b
  difference-over e f = ⊎_elim (λ w. (let z : ◌≡◌ {A = ℕ} 0 1 = cc in absurd (omega arith))) (λ w. leb-false _ _ w.0) (difference_arm e)

-- ---- halves

-- a number is its low half and 2^64 times its high one
pub halves_are : (n : ℕ) → n % 2 ^ 64 + 2 ^ 64 * (n / 2 ^ 64) ≡ n
halves_are n = omega arith
