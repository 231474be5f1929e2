-- The header of a dynvec or a table by index, as code tests it: definitions over specs/Layout.antt, and their laws.
use mathlib.Core.Path.{◌≡◌, refl, sym, ap, ◌∙◌}
use Prim.Native.Nat.{ℕ, zero, suc, ◌+◌, ◌*◌, ◌/◌, ◌≤◌, ◌<◌}
use mathlib.Core.List.{List}
use mathlib.Core.Bool.{Bool, true, false, ◌&&◌, and-false, and-eq-true_iff, false≢true}
use native.Mathlib.Decide.{dec_lt}
use native.Mathlib.Omega.{arith}
use borrow.Author.Tests.{lt-ltb, le-ltb, ltb-true, eqb-true}
use lib.ListN.{length}
use lib.Dec.{leb, ltb, eqb}
use Rattle.molecule.specs.Layout.{word, span, start}

-- p holds of each number below n
unfoldable pub up_to : (ℕ → Bool) → ℕ → Bool
up_to p zero = true
up_to p (suc n) = up_to p n && p n

-- no item ends before it starts
unfoldable pub in_order : List ℕ → ℕ → ℕ → Bool
in_order s n i = leb (start s n i) (start s n (i + 1))

-- the header of n items fits, the size is right, the first item follows the header, and the items are in order
unfoldable pub offsets_ok : List ℕ → ℕ → Bool
offsets_ok s n = ltb n (length s / 4) && eqb (word s 0) (length s) && eqb (start s n 0) (4 + 4 * n) && up_to (in_order s n) n

-- ---- all numbers below n

-- one number of which p does not hold settles it
pub up_stop : (p : ℕ → Bool) (i n : ℕ) → i < n → p i ≡ false → up_to p n ≡ false
unfolding up_to
up_stop p i zero h e = absurd (omega arith)
up_stop p i (suc n) h e =
    elim (dec_lt i n) [
      | yes l ↦ rw (up_stop p i n l e)
      | no l ↦ let q : n ≡ i = omega arith in rw (q, e) (and-false (up_to p i))
    ]

pub up_all : (p : ℕ → Bool) (n : ℕ) → up_to p n ≡ true → (i : ℕ) → i < n → p i ≡ true
up_all p n h i l = by (p i) refl
  where
    by : (b : Bool) → p i ≡ b → p i ≡ true
    by true e = e
    by false e = absurd (false≢true (sym (up_stop p i n l e) ∙ h))

pub up_from : (p : ℕ → Bool) (n : ℕ) → ((i : ℕ) → i < n → p i ≡ true) → up_to p n ≡ true
unfolding up_to
up_from p zero h = refl
up_from p (suc n) h = rw (up_from p n (λ i l. h i (omega arith)), h n (omega arith))

-- ---- where items start

pub start_in : (s : List ℕ) (n i : ℕ) {r : ℕ} → i < n → r ≡ word s (i + 1) → r ≡ start s n i
unfolding start
start_in s n i h e = e ∙ simp (lt-ltb i n h)

pub start-out : (s : List ℕ) (n i : ℕ) → n ≤ i → length s ≡ start s n i
unfolding start
start-out s n i h = simp (le-ltb i n h)

-- the parts of the test
pub record Offsets (s : List ℕ) (n : ℕ) : Type 0 where
  pub room : n < length s / 4
  pub size : word s 0 ≡ length s
  pub first : start s n 0 ≡ 4 + 4 * n
  pub order : up_to (in_order s n) n ≡ true

pub offsets-parts : (s : List ℕ) (n : ℕ) → offsets_ok s n ≡ true → Offsets s n
unfolding offsets_ok
offsets-parts s n h =
    let a = (and-eq-true_iff (ltb n (length s / 4) && eqb (word s 0) (length s) && eqb (start s n 0) (4 + 4 * n)) (up_to (in_order s n) n)).0 h in
    let b = (and-eq-true_iff (ltb n (length s / 4) && eqb (word s 0) (length s)) (eqb (start s n 0) (4 + 4 * n))).0 a.0 in
    let c = (and-eq-true_iff (ltb n (length s / 4)) (eqb (word s 0) (length s))).0 b.0 in
    record { room = ltb-true _ _ c.0; size = eqb-true _ _ c.1; first = eqb-true _ _ b.1; order = a.1 }

-- a header of items says in its first offset how many there are
pub first_offset : (s : List ℕ) (m : ℕ) → offsets_ok s (suc m) ≡ true → word s 1 ≡ 4 + 4 * suc m
first_offset s m h = start_in s (suc m) 0 (omega arith) refl ∙ (offsets-parts s (suc m) h).first

-- ---- spans

pub span-length : {A : Type 0} (f : ℕ → A) (i k : ℕ) → length (span f i k) ≡ k
unfolding span
span-length f i zero = refl
span-length f i (suc k) = ap suc (span-length f (suc i) k)
