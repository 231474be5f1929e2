-- Laws of specs/LittleEndian.antt: `le` and `to_le` are inverse, and one law for each way out of the functions that read and make numbers.
use Rattle.std.proofs.Common.{w32, ◌≡◌, ℕ, zero, suc, ◌+◌, ◌-◌, ◌*◌, ◌/◌, ◌%◌, ◌^◌, ◌<◌, ◌≤◌, List, [], ◌∷◌, ◌++◌, length, get_or, take, drop, sym, refl, ap, ◌∙◌, ap₂, mul_assoc, mul_comm, one-mul, pow-suc, zero-add, add-one, arith, length-drop, length-take-le, drop-cons, drop-drop, take-add, le-leb}
use native.Mathlib.Nat.{pow-zero, div-div-eq-div-mul}
use borrow.Author.Tests.{lt-leb}
use lib.ListN.{get_or-eq_default}
use Rattle.std.specs.Int.{byte_at, byte_worth, bytes_low_first, sum_through, from_le_bytes, to_le_bytes}
use Rattle.std.proofs.Math.Seq.{take-suc}
use Rattle.arithmetic.specs.LittleEndian.{le, to_le, AllBytes, num_at, u32_at, u64_at}

pub length-to_le : (w n : ℕ) → length (to_le w n) ≡ w
unfolding to_le
length-to_le zero n = refl
length-to_le (suc w) n = ap suc (length-to_le w (n / 256))

pub le-to_le : (w n : ℕ) → n < 256 ^ w → le (to_le w n) ≡ n
unfolding le to_le
le-to_le zero n h = omega arith
le-to_le (suc w) n h = omega (arith, le-to_le w (n / 256) (omega arith))

pub to_le-le : (s : List ℕ) → AllBytes s → to_le (length s) (le s) ≡ s
unfolding le to_le
to_le-le [] h = refl
to_le-le (b ∷ s) h =
    let hb : b < 256 = h 0 in
    let q : (b + 256 * le s) / 256 ≡ le s = omega arith in
    let r : (b + 256 * le s) % 256 ≡ b = omega arith in
    ap₂ ◌∷◌ r (ap (to_le (length s)) q ∙ to_le-le s (λ i. h (suc i)))

pub le_lt : (s : List ℕ) → AllBytes s → le s < 256 ^ length s
unfolding le
le_lt [] h = omega arith
le_lt (b ∷ s) h = omega (arith, h 0, le_lt s (λ i. h (suc i)), pow-suc 256 (length s))

pub bytes-to_le : (w n : ℕ) → AllBytes (to_le w n)
unfolding to_le
bytes-to_le zero n i = omega arith
bytes-to_le (suc w) n zero = omega arith
bytes-to_le (suc w) n (suc i) = bytes-to_le w (n / 256) i

-- of a number and of its low part the low bytes are the same
pub low-bytes : (w x y : ℕ) → to_le w (x + 256 ^ w * y) ≡ to_le w x
unfolding to_le
low-bytes zero x y = refl
low-bytes (suc w) x y =
    let p : 256 ^ suc w * y ≡ 256 * (256 ^ w * y) = ap (λ (n : ℕ). n * y) (pow-suc 256 w ∙ mul_comm (256 ^ w) 256) ∙ mul_assoc 256 (256 ^ w) y in
    ap₂ ◌∷◌ (omega arith) (ap (to_le w) (omega arith) ∙ low-bytes w (x / 256) y)

-- four bytes hold a number modulo 2^32
pub wrapped : (n : ℕ) → to_le 4 (n % 2 ^ 32) ≡ to_le 4 n
wrapped n =
    let e : n % 2 ^ 32 + 256 ^ 4 * (n / 2 ^ 32) ≡ n = omega arith in
    sym (low-bytes 4 (n % 2 ^ 32) (n / 2 ^ 32)) ∙ ap (to_le 4) e

-- ---- numbers at a place

pub byte_past : (s : List ℕ) (at : ℕ) → length s ≤ at → 0 ≡ get_or s at 0
byte_past s at h = sym (get_or-eq_default s 0 h)

pub num_none : (k : ℕ) (s : List ℕ) (at : ℕ) → length s < at + k → 0 ≡ num_at k s at
unfolding num_at
num_none k s at h = simp (lt-leb _ _ h)

pub num_some : (k : ℕ) (s : List ℕ) (at : ℕ) → at + k ≤ length s → num_at k s at ≡ le (take k (drop at s))
unfolding num_at
num_some k s at h = simp (le-leb _ _ h)

-- one byte more
pub take_more : (k : ℕ) (s : List ℕ) (at : ℕ) → at < length s → take (suc k) (drop at s) ≡ get_or s at 0 ∷ take k (drop (at + 1) s)
take_more k s at h = rw (add-one, drop-cons s at 0)

pub four : (s : List ℕ) (at : ℕ) → at + 4 ≤ length s
    → take 4 (drop at s) ≡ get_or s at 0 ∷ get_or s (at + 1) 0 ∷ get_or s (at + 2) 0 ∷ get_or s (at + 3) 0 ∷ []
four s at h =
    let h₀ : at < length s = omega arith in
    let h₁ : at + 1 < length s = omega arith in
    let h₂ : at + 1 + 1 < length s = omega arith in
    let h₃ : at + 1 + 1 + 1 < length s = omega arith in
    let e₂ : at + 1 + 1 ≡ at + 2 = omega arith in
    let e₃ : at + 1 + 1 + 1 ≡ at + 3 = omega arith in
    take_more 3 s at h₀
    ∙ ap (λ (l : List ℕ). get_or s at 0 ∷ l) (take_more 2 s (at + 1) h₁
    ∙ ap (λ (l : List ℕ). get_or s (at + 1) 0 ∷ l) (take_more 1 s (at + 1 + 1) h₂
    ∙ ap (λ (l : List ℕ). get_or s (at + 1 + 1) 0 ∷ l) (take_more 0 s (at + 1 + 1 + 1) h₃)))
    ∙ rw (e₃, e₂)

-- what u32_at and u32_of have at hand: too few bytes, or a place too far; then four bytes
pub u32_short : (s : List ℕ) (at : ℕ) → length s < 4 → 0 ≡ u32_at s at
u32_short s at h = num_none 4 s at (omega arith)

pub u32_far : (s : List ℕ) (at : ℕ) → length s - 4 < at → 0 ≡ u32_at s at
u32_far s at h = num_none 4 s at (omega arith)

pub u32_past : (s : List ℕ) (i : ℕ) → length s / 4 ≤ i → 0 ≡ u32_at s (4 * i)
u32_past s i h = num_none 4 s (4 * i) (omega arith)

-- ---- a number in two halves

pub le-append : (xs ys : List ℕ) → le (xs ++ ys) ≡ le xs + 256 ^ length xs * le ys
unfolding le
le-append [] ys = simp (pow-zero, one-mul, zero-add)
le-append (x ∷ xs) ys =
    let e : 256 ^ suc (length xs) * le ys ≡ 256 * (256 ^ length xs * le ys) =
    ap (λ (p : ℕ). p * le ys) (pow-suc 256 (length xs) ∙ mul_comm (256 ^ length xs) 256) ∙ mul_assoc 256 (256 ^ length xs) (le ys) in
    ap (λ (n : ℕ). x + 256 * n) (le-append xs ys) ∙ omega (arith, e)

pub u64_short : (s : List ℕ) (at : ℕ) → length s < 8 → 0 ≡ u64_at s at
u64_short s at h = num_none 8 s at (omega arith)

pub u64_far : (s : List ℕ) (at : ℕ) → length s - 8 < at → 0 ≡ u64_at s at
u64_far s at h = num_none 8 s at (omega arith)

pub u64_is : (s : List ℕ) (at : ℕ) {a b : ℕ} → 8 ≤ length s → at ≤ length s - 8 → a ≡ u32_at s at → b ≡ u32_at s (at + 4) → a + 4294967296 * b ≡ u64_at s at
u64_is s at h k ea eb =
    let h₀ : at + 8 ≤ length s = omega arith in
    let h₄ : at + 4 ≤ length s = omega arith in
    let h₈ : at + 4 + 4 ≤ length s = omega arith in
    rw (ea, eb)
    (sym
    (num_some 8 s at h₀
    ∙ ap le (take-add 4 4 (drop at s) ∙ ap (λ (l : List ℕ). take 4 (drop at s) ++ take 4 l) (drop-drop 4 at s))
    ∙ le-append (take 4 (drop at s)) (take 4 (drop (at + 4) s))
    ∙ ap (λ (n : ℕ). le (take 4 (drop at s)) + 256 ^ n * le (take 4 (drop (at + 4) s))) (length-take-le 4 (drop at s) (simp length-drop (omega arith)))
    ∙ ap₂ (λ (a b : ℕ). a + 4294967296 * b) (sym (num_some 4 s at h₄)) (sym (num_some 4 s (at + 4) h₈))))

-- ---- the library's words for bytes

-- its bytes of a number, from byte i on
low_first : (i w n : ℕ) → bytes_low_first i w n ≡ to_le w (n / 256 ^ i)
unfolding to_le
low_first i zero n = refl
low_first zero (suc w) n = ap₂ ◌∷◌ (omega arith) (low_first 1 w n ∙ ap (to_le w) (omega arith))
low_first (suc i) (suc w) n = ap (λ (l : List ℕ). n / 256 ^ suc i % 256 ∷ l) (low_first (suc (suc i)) w n ∙ ap (to_le w) (next (suc i)))
  where
    next : (j : ℕ) → n / 256 ^ suc j ≡ n / 256 ^ j / 256
    next j = ap (λ (m : ℕ). n / m) (pow-suc 256 j) ∙ sym (div-div-eq-div-mul n (256 ^ j) 256)

pub bytes-of : (w n : ℕ) {r : List ℕ} → r ≡ bytes_low_first 0 w n → r ≡ to_le w n
bytes-of w n e = e ∙ low_first 0 w n ∙ ap (to_le w) (omega arith)

-- its number of the first k + 1 bytes
sum-le : (s : List ℕ) (k : ℕ) → k < length s → sum_through (λ (i : ℕ). byte_worth i (get_or s i 0)) k ≡ le (take (suc k) s)
unfolding le
sum-le [] zero h = omega arith
sum-le (b ∷ s) zero h = omega arith
sum-le s (suc k) h =
    rw (take-suc s (suc k) 0 h)
    (ap (λ (n : ℕ). n + get_or s (suc k) 0 * 256 ^ suc k) (sum-le s k (omega arith))
    ∙ sym (le-append (take (suc k) s) (get_or s (suc k) 0 ∷ []) ∙ rw (length-take-le (suc k) s (omega arith)) (omega arith)))

pub number-of : (s : List ℕ) (k : ℕ) {r : ℕ} → k < length s → r ≡ sum_through (λ (i : ℕ). byte_worth i (get_or s i 0)) k → r ≡ le (take (suc k) s)
number-of s k h e = e ∙ sum-le s k h

pub u32_is : (s : List ℕ) (at : ℕ) {r : ℕ} → at + 4 ≤ length s
    → r ≡ from_le_bytes w32 (get_or s at 0 ∷ get_or s (at + 1) 0 ∷ get_or s (at + 2) 0 ∷ get_or s (at + 3) 0 ∷ []) → r ≡ u32_at s at
unfolding le
u32_is s at n e = e ∙ sym (num_some 4 s at n ∙ ap le (four s at n) ∙ omega arith)
