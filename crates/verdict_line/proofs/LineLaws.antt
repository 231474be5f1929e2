-- What the functions of this crate put, one after the other, is the line: one law for each way out.
use mathlib.Core.Path.{◌≡◌, refl, ◌∙◌}
use Prim.Native.Nat.{ℕ, zero, suc, ◌+◌, ◌*◌, ◌/◌, ◌%◌, ◌^◌, ◌≤◌, ◌<◌}
use mathlib.Core.Bool.{Bool, true, false}
use mathlib.Core.List.{List, [], ◌∷◌, ◌++◌, append_assoc, append-nil}
use native.Mathlib.Nat.{add-suc, add-zero, zero-add, pow-suc, mul_assoc, mul_comm, add-mul-div_left, add-mul-mod_self_left, div-lt_iff_lt-mul}
use native.Mathlib.Numerals.{add-one}
use native.Mathlib.Omega.{arith}
use lib.Dec.{ltb}
use lib.ListN.{length, take, get_or, length-append}
use lib.Seq.{take-suc, take_all, length-take-le}
use Rattle.molecule.specs.Partial.{pick}
use Rattle.molecule.specs.Write.{splice, put_at, put_end, Put}
use Rattle.molecule.proofs.WriteLaws.{did, none, then, and_put, as_bytes, length-kept}
use Rattle.error.specs.declared.Refusal.{Refusal}
use Rattle.error.specs.Refusal.{number, values}
use Rattle.error.proofs.RefusalLaws.{few-values}
use Rattle.std.proofs.Common.{Ok, Err}
use Rattle.units.specs.declared.Shannons.{Shannons}
use Rattle.units.specs.Units.{shannon_count}
use Rattle.rules.specs.declared.Surplus.{Surplus}
use Rattle.rules.specs.Told.{Update, told}
use Rattle.verdict_line.specs.VerdictLine.{digit, hex, digits, decimal, spaced, accepted, refused_with, line_of}

-- ---- lengths

hex-length : (w n : ℕ) → length (hex w n) ≡ w
unfolding hex
hex-length zero n = refl
hex-length (suc w) n = simp (length-append, hex-length w (n / 16)) (omega arith)

picked-length : (b : Bool) (xs ys : List ℕ) {n : ℕ} → length xs ≤ n → length ys ≤ n → length (pick b xs ys) ≤ n
unfolding pick
picked-length true xs ys h k = h
picked-length false xs ys h k = k

digits-length : (w n : ℕ) → length (digits w n) ≤ w
unfolding digits
digits-length zero n = omega arith
digits-length (suc w) n =
    let h = digits-length w (n / 10) in
    picked-length (ltb n 10) (digit n ∷ []) (digits w (n / 10) ++ digit (n % 10) ∷ []) (omega arith) (simp length-append (omega arith))

decimal-length : (n : ℕ) → length (decimal n) ≤ 20
unfolding decimal
decimal-length n = digits-length 20 n

spaced-length : (vs : List ℕ) → length (spaced vs) ≤ 21 * length vs
unfolding spaced
spaced-length [] = omega arith
spaced-length (v ∷ vs) =
    let h = decimal-length v in
    let k = spaced-length vs in
    simp length-append (omega arith)

-- ---- the hex digits of two halves

join-halves : (a b x y : ℕ) → x < 16 ^ b → hex (a + b) (x + 16 ^ b * y) ≡ hex a y ++ hex b x
unfolding hex
join-halves a zero x y h =
    let e : x + 16 ^ 0 * y ≡ y = omega arith in
    rw (add-zero a, e, append-nil)
join-halves a (suc b) x y h =
    let p : 16 ^ suc b * y ≡ 16 * (16 ^ b * y) = rw (pow-suc 16 b, mul_comm (16 ^ b) 16, mul_assoc 16 (16 ^ b) y) in
    let q : x / 16 < 16 ^ b = (div-lt_iff_lt-mul {k = 16} (omega arith)).1 (rw pow-suc at h) in
    let d : (x + 16 * (16 ^ b * y)) / 16 ≡ x / 16 + 16 ^ b * y = add-mul-div_left x (16 ^ b * y) (omega arith) in
    let m : (x + 16 * (16 ^ b * y)) % 16 ≡ x % 16 = add-mul-mod_self_left x 16 (16 ^ b * y) in
    rw (add-suc a b, p, d, m, join-halves a b (x / 16) y q, append_assoc)

hex-halves : (low high : ℕ) → low < 2 ^ 64 → hex 32 (low + 2 ^ 64 * high) ≡ hex 16 high ++ hex 16 low
hex-halves low high h = join-halves 16 16 low high h

pub amount_put : (out : List ℕ) (at x : ℕ) {high low : ℕ} {o₁ o₂ : List ℕ} {n₁ n₂ : ℕ} → at + 32 ≤ length out → high ≡ x / 2 ^ 64 → low ≡ x % 2 ^ 64
    → o₁ ≡ put_at out at (hex 16 high) → n₁ ≡ put_end out at (hex 16 high) → o₂ ≡ put_at o₁ n₁ (hex 16 low) → n₂ ≡ put_end o₁ n₁ (hex 16 low) → Put out at (hex 32 x) o₂ n₂
amount_put out at x {high} {low} room eh el e₁ f₁ e₂ f₂ =
    let a = hex-length 16 high in
    let b = hex-length 16 low in
    let p = did (hex 16 high) e₁ f₁ (omega arith) in
    let whole : x ≡ low + 2 ^ 64 * high = omega arith in
    rw (whole, hex-halves low high (omega arith)) (and_put (hex 16 low) p e₂ f₂ (omega arith))

-- ---- an acceptance

module _ (line : List ℕ) (surplus : Shannons) (room : 105 ≤ length line) {o₁ o₂ : List ℕ} {n₁ n₂ : ℕ} (e₁ : o₁ ≡ put_at line 0 (48 ∷ [])) (f₁ : n₁ ≡ put_end line 0 (48 ∷ []))
    (e₂ : o₂ ≡ put_at o₁ n₁ (32 ∷ [])) (f₂ : n₂ ≡ put_end o₁ n₁ (32 ∷ [])) where
  start : Put line 0 (48 ∷ 32 ∷ []) o₂ n₂
  start = and_put (32 ∷ []) (did (48 ∷ []) e₁ f₁ (omega arith)) e₂ f₂ (omega arith)

  pub amount-room : n₂ + 32 ≤ length o₂
  amount-room = let p = start in let l = length-kept p in omega arith

  pub surplus_put : {o₃ o₄ : List ℕ} {n₃ n₄ : ℕ} → Put o₂ n₂ (hex 32 (shannon_count surplus)) o₃ n₃
      → o₄ ≡ put_at o₃ n₃ (10 ∷ []) → n₄ ≡ put_end o₃ n₃ (10 ∷ []) → Put line 0 (accepted (shannon_count surplus)) o₄ n₄
  unfolding accepted
  surplus_put p₃ e₄ f₄ =
      let a = hex-length 32 (shannon_count surplus) in
      let p = then start p₃ in
      and_put (10 ∷ []) p e₄ f₄ (simp length-append (omega arith))

-- ---- a refusal

spaced-append : (us vs : List ℕ) → spaced (us ++ vs) ≡ spaced us ++ spaced vs
unfolding spaced
spaced-append [] vs = refl
spaced-append (u ∷ us) vs = rw (spaced-append us vs, append_assoc)

pub value_put : (out : List ℕ) (at x : ℕ) {o₁ o₂ : List ℕ} {n₁ n₂ : ℕ} → at + 21 ≤ length out → o₁ ≡ put_at out at (32 ∷ []) → n₁ ≡ put_end out at (32 ∷ [])
    → o₂ ≡ put_at o₁ n₁ (decimal x) → n₂ ≡ put_end o₁ n₁ (decimal x) → Put out at (32 ∷ decimal x) o₂ n₂
value_put out at x room e₁ f₁ e₂ f₂ =
    let d = decimal-length x in
    let p = did (32 ∷ []) e₁ f₁ (omega arith) in
    and_put (decimal x) p e₂ f₂ (omega arith)

-- the first i values are put
pub record Spacing (r : Refusal) (out₀ : List ℕ) (at₀ : ℕ) (out : List ℕ) (at i : ℕ) : Type 0 where
  pub room : at₀ + 84 ≤ length out₀
  pub within : i ≤ length (values r)
  pub long : length out ≡ length out₀
  pub so_far : Put out₀ at₀ (spaced (take i (values r))) out at

pub space_none : (r : Refusal) (out : List ℕ) (at : ℕ) → at + 84 ≤ length out → Spacing r out at out at 0
unfolding spaced
space_none r out at h = record { room = h; within = omega arith; long = refl; so_far = none out at (omega arith) }

module _ {r : Refusal} {out₀ out : List ℕ} {at₀ at i : ℕ} (s : Spacing r out₀ at₀ out at i) where
  taken : length (spaced (take i (values r))) ≤ 21 * i
  taken =
      let c = spaced-length (take i (values r)) in
      let d : length (take i (values r)) ≡ i = length-take-le i (values r) s.within in
      omega arith

  module _ {count : ℕ} (q : count ≡ length (values r)) where
    pub space_room : i < count → at + 21 ≤ length out
    space_room h = let a = few-values r in let t = taken in let p = s.so_far in let l = length-kept p in omega arith

    pub space_more : {v n₁ : ℕ} {o₁ : List ℕ} → i < count → v ≡ get_or (values r) i 0 → Put out at (32 ∷ decimal v) o₁ n₁ → Spacing r out₀ at₀ o₁ n₁ (i + 1)
    unfolding spaced
    space_more {v} h g p =
        let k : i < length (values r) = omega arith in
        record {
          room = s.room;
          within = omega arith;
          long = length-kept p ∙ s.long;
          so_far = as_bytes (rw (add-one i, take-suc (values r) i 0 k, ← g, spaced-append) (simp append-nil)) (then s.so_far p);
        }

    pub space_end : count ≤ i → Put out₀ at₀ (spaced (values r)) out at
    space_end h =
        let z : take i (values r) ≡ values r = take_all i (values r) (omega arith) in
        rw z at s.so_far

module _ (line : List ℕ) (r : Refusal) {x y : ℕ} (room : 105 ≤ length line) (q : y ≡ number r) (z : x ≡ y) {o₁ : List ℕ} {n₁ : ℕ} (e₁ : o₁ ≡ put_at line 0 (decimal x)) (f₁ : n₁ ≡ put_end line 0 (decimal x)) where
  start-number : Put line 0 (decimal (number r)) o₁ n₁
  start-number = let d = decimal-length x in rw (z, q) at (did (decimal x) e₁ f₁ (omega arith))

  pub values-room : n₁ + 84 ≤ length o₁
  values-room = let d = decimal-length (number r) in let p = start-number in let l = length-kept p in omega arith

  pub refusal_put : {o₂ o₃ : List ℕ} {n₂ n₃ : ℕ} → Put o₁ n₁ (spaced (values r)) o₂ n₂ → o₃ ≡ put_at o₂ n₂ (10 ∷ []) → n₃ ≡ put_end o₂ n₂ (10 ∷ []) → Put line 0 (refused_with (number r) (values r)) o₃ n₃
  unfolding refused_with
  refusal_put p e f =
      let d = decimal-length (number r) in
      let a = few-values r in
      let b = spaced-length (values r) in
      and_put (10 ∷ []) (then start-number p) e f (simp length-append (omega arith))

-- ---- the line

module _ {line after : List ℕ} {n : ℕ} {u : Update} where
  pub accepted-line : {s : Surplus} → u ≡ Ok s → Put line 0 (accepted (shannon_count s.capacity)) after n → after ≡ splice line 0 (line_of (told u))
  unfolding line_of
  accepted-line e p = rw e p.bytes

  pub accepted-length : {s : Surplus} → u ≡ Ok s → Put line 0 (accepted (shannon_count s.capacity)) after n → n ≡ length (line_of (told u))
  unfolding line_of
  accepted-length e p = rw e (p.end ∙ zero-add _)

  pub refused-line : {r : Refusal} → u ≡ Err r → Put line 0 (refused_with (number r) (values r)) after n → after ≡ splice line 0 (line_of (told u))
  unfolding line_of
  refused-line e p = rw e p.bytes

  pub refused-length : {r : Refusal} → u ≡ Err r → Put line 0 (refused_with (number r) (values r)) after n → n ≡ length (line_of (told u))
  unfolding line_of
  refused-length e p = rw e (p.end ∙ zero-add _)
