-- Laws of specs/Layout.antt, one for each way out of the function that computes it.
use mathlib.Core.Path.{◌≡◌, sym, ap, ◌∙◌}
use Prim.Native.Nat.{ℕ, zero, suc, ◌+◌, ◌-◌, ◌*◌, ◌/◌, ◌≤◌, ◌<◌, min}
use mathlib.Core.List.{List, []}
use mathlib.Core.Bool.{cond}
use mathlib.Core.Logic.{◌⊎◌, inl, inr, ⊎_elim}
use native.Mathlib.Nat.{mul-le-mul, suc-mul}
use native.Mathlib.Omega.{arith}
use borrow.Author.Tests.{lt-ltb, le-ltb}
use mir.Syntax.{w32, w64}
use mir.Val.{Fits}
use lib.Dec.{ltb}
use lib.ListN.{length, take, drop, length-take, length-drop, drop_of_length-le}
use lib.Seq.{take_all, take-nil}
use Rattle.arithmetic.specs.LittleEndian.{AllBytes}
use Rattle.molecule.proofs.Offsets.{start-out}
use Rattle.molecule.proofs.ItemsLaws.{bytes_take, bytes_drop}
use Rattle.molecule.specs.Layout.{part, part_start, inside, word, start, field_of, field_start, item_count, item_of, item_start, fix_count, fix_item, fix_start, content, content_start, entry_of, entry_start}

-- ---- parts

le_or_lt : (a b : ℕ) → (a ≤ b) ⊎ (b < a)
le_or_lt zero b = inl (omega arith)
le_or_lt (suc a) zero = inr (omega arith)
le_or_lt (suc a) (suc b) = ⊎_elim (λ p. inl (omega arith)) (λ q. inr (omega arith)) (le_or_lt a b)

-- a count past the end takes all there is
take_clamp : (k m : ℕ) (l : List ℕ) → (m < k → length l ≤ m) → m ≤ k → take m l ≡ take k l
take_clamp k m l h le = by (le_or_lt k m)
  where
    by : (k ≤ m) ⊎ (m < k) → take m l ≡ take k l
    by (inl p) = let e : m ≡ k = omega arith in rw e
    by (inr p) = let hm : length l ≤ m = h p in take_all m l hm ∙ sym (take_all k l (omega arith))

-- nothing stands from an end on
pub part_none : (s : List ℕ) (from to : ℕ) → min to (length s) ≤ from → part s from to ≡ []
unfolding part
part_none s from to h = by (le_or_lt (length s) from)
  where
    by : (length s ≤ from) ⊎ (from < length s) → take (to - from) (drop from s) ≡ []
    by (inl q) = ap (take (to - from)) (drop_of_length-le s q) ∙ take-nil (to - from)
    by (inr q) = let y : to - from ≡ 0 = omega arith in ap (λ (n : ℕ). take n (drop from s)) y

module _ (s : List ℕ) (from to : ℕ) {b e : ℕ} (he : e ≡ min to (length s)) (hb : b ≡ min from e) where
  -- the end and the start clamped
  pub part-is : take (e - b) (drop b s) ≡ part s from to
  unfolding part
  part-is = by (le_or_lt from e)
    where
      by : (from ≤ e) ⊎ (e < from) → take (e - b) (drop b s) ≡ take (to - from) (drop from s)
      by (inl p) =
          let z : b ≡ from = omega arith in
          ap (λ (n : ℕ). take (e - n) (drop n s)) z
          ∙ take_clamp (to - from) (e - from) (drop from s) (λ q. omega (arith, length-drop from s)) (omega arith)
      by (inr p) =
          let z : e - b ≡ 0 = omega arith in
          ap (λ (n : ℕ). take n (drop b s)) z ∙ sym (part_none s from to (omega arith))

  pub part-place : (p : ℕ × ℕ) → (p.0, b + p.1) ≡ inside p (part_start s from to)
  unfolding inside part_start
  part-place p =
      let w : b + p.1 ≡ p.1 + min from (min to (length s)) = omega arith in
      ap {B = ℕ × ℕ} (λ (n : ℕ). (p.0, n)) w

-- the bytes of a part
pub part-empty : (s : List ℕ) → part s 0 0 ≡ []
part-empty s = part_none s 0 0 (omega arith)

pub part_short : (s : List ℕ) (from to : ℕ) → length (part s from to) ≤ length s
unfolding part
part_short s from to = omega (arith, length-take (to - from) (drop from s), length-drop from s)

pub bytes-part : (s : List ℕ) (from to : ℕ) → AllBytes s → AllBytes (part s from to)
unfolding part
bytes-part s from to b = bytes_take (to - from) (drop from s) (bytes_drop from s b)

-- a part of a part
pub inside-twice : (p : ℕ × ℕ) (a b : ℕ) {q r : ℕ × ℕ} → q ≡ inside p a → r ≡ inside q b → r ≡ inside p (a + b)
unfolding inside
inside-twice p a b e f =
    let w : p.1 + a + b ≡ p.1 + (a + b) = omega arith in
    f ∙ ap (λ (q : ℕ × ℕ). inside q b) e ∙ ap {B = ℕ × ℕ} (λ (n : ℕ). (p.0, n)) w

-- ---- items

-- a and b are what `start` gave, f a part between them and q its place
module _ (s : List ℕ) (n i : ℕ) {a b : ℕ} (ea : a ≡ start s n i) (eb : b ≡ start s n (i + 1)) where
  pub field_is : {f : List ℕ} → f ≡ part s a b → f ≡ field_of s n i
  unfolding field_of
  field_is h = rw (← ea, ← eb) h

  pub field_place : (p : ℕ × ℕ) {q : ℕ × ℕ} → q ≡ inside p (part_start s a b) → q ≡ inside p (field_start s n i)
  unfolding field_start
  field_place p h = rw (← ea, ← eb) h

pub field_out-place : (s : List ℕ) (n i : ℕ) → n ≤ i → (p : ℕ × ℕ) {q : ℕ × ℕ} → q ≡ inside p (part_start s (length s) (length s)) → q ≡ inside p (field_start s n i)
field_out-place s n i h p e = field_place s n i (start-out s n i h) (start-out s n (i + 1) (omega arith)) p e

pub bytes_field : (s : List ℕ) (n i : ℕ) → AllBytes s → AllBytes (field_of s n i)
unfolding field_of
bytes_field s n i b = bytes-part s (start s n i) (start s n (i + 1)) b

-- nothing has no fields
pub no_field : (n i : ℕ) → field_of [] n i ≡ []
unfolding field_of
no_field n i = part_none [] (start [] n i) (start [] n (i + 1)) (omega arith)

-- no more than the bytes have numbers
pub item-count-within : (s : List ℕ) → item_count s ≤ length s / 4
unfolding item_count
item-count-within s = omega arith

-- n is what `item_count` gave
module _ (s : List ℕ) (i : ℕ) {n : ℕ} (e : n ≡ item_count s) where
  pub item-is : {f : List ℕ} → f ≡ field_of s n i → f ≡ item_of s i
  unfolding item_of
  item-is h = rw (← e) h

-- past the count there is no item
pub item_past : (s : List ℕ) (i : ℕ) → item_count s ≤ i → item_of s i ≡ []
unfolding item_of field_of
item_past s i h =
    let a : length s ≡ start s (item_count s) i = start-out s (item_count s) i h in
    part_none s (start s (item_count s) i) (start s (item_count s) (i + 1)) (omega arith)

-- ---- fixvecs

-- the product of two u32, with room for more
mul32 : (a b : ℕ) → a < 4294967296 → b < 4294967296 → a * b ≤ 18446744065119617025
mul32 a b ha hb = mul-le-mul {n₂ = 4294967295} {m₂ = 4294967295} (omega arith) (omega arith)

module _ (a b : ℕ) (ha : Fits w32 a) where
  pub mul_fits : Fits w32 b → Fits w64 (a * b)
  mul_fits hb = omega (arith, mul32 a b (omega arith) (omega arith))

  pub past_fits : Fits w32 b → Fits w64 (4 + a * b)
  past_fits hb = omega (arith, mul32 a b (omega arith) (omega arith))

  -- b is below a u32
  pub mul_below : (n : ℕ) → Fits w32 n → b < n → Fits w64 (a * b)
  mul_below n hn h = omega (arith, mul32 a b (omega arith) (omega arith))

  pub past_below : (n : ℕ) → Fits w32 n → b < n → Fits w64 (4 + a * b)
  past_below n hn h = omega (arith, mul32 a b (omega arith) (omega arith))

  pub end_below : (n : ℕ) → Fits w32 n → b < n → Fits w64 (4 + a * b + a)
  end_below n hn h = omega (arith, mul32 a b (omega arith) (omega arith))

-- n is what `word` gave
pub fix_count-is : (s : List ℕ) {n : ℕ} → n ≡ word s 0 → {r : ℕ} → r ≡ min n (length s) → r ≡ fix_count s
unfolding fix_count
fix_count-is s e h = rw (← e) h

-- no more than the bytes, and than the first word
module _ (s : List ℕ) where
  pub fix_count-within : fix_count s ≤ length s
  unfolding fix_count
  fix_count-within = omega arith

  pub fix_count_said : fix_count s ≤ word s 0
  unfolding fix_count
  fix_count_said = omega arith

  -- where there are more bytes than items the count is what the first word says
  pub fix_count-word : word s 0 ≤ length s → fix_count s ≡ word s 0
  unfolding fix_count
  fix_count-word h = omega arith

  pub fix_count-below : fix_count s < length s → fix_count s ≡ word s 0
  unfolding fix_count
  fix_count-below h = omega arith

-- n is what `word` gave
module _ (s : List ℕ) (k i : ℕ) {n : ℕ} (e : n ≡ word s 0) where
  pub fix_out : {f : List ℕ} → n ≤ i → f ≡ part s 0 0 → f ≡ fix_item s k i
  unfolding fix_item
  fix_out h g = g ∙ part_none s 0 0 (omega arith) ∙ rw (← e) (simp (le-ltb _ _ h))

  pub fix_in : {f : List ℕ} → i < n → f ≡ part s (4 + k * i) (4 + k * i + k) → f ≡ fix_item s k i
  unfolding fix_item
  fix_in h g = g ∙ rw (← e) (simp (lt-ltb _ _ h))

  pub fix_out-place : (p : ℕ × ℕ) {q : ℕ × ℕ} → n ≤ i → q ≡ inside p (part_start s 0 0) → q ≡ inside p (fix_start s k i)
  unfolding fix_start part_start
  fix_out-place p h g = let z : min 0 (min 0 (length s)) ≡ 0 = omega arith in g ∙ rw (← e) (simp (le-ltb _ _ h, z))

-- past the count there is no item
pub fix_past : (s : List ℕ) (k i : ℕ) → fix_count s ≤ i → fix_item s k i ≡ []
unfolding fix_item fix_count
fix_past s k i h = by (le_or_lt (word s 0) i)
  where
    out : (j : ℕ) → length s ≤ i → part s (4 + j * i) (4 + j * i + j) ≡ []
    out zero l = part_none s (4 + 0 * i) (4 + 0 * i + 0) (omega arith)
    out (suc j) l = part_none s (4 + suc j * i) (4 + suc j * i + suc j) (omega (arith, suc-mul j i))

    by : (word s 0 ≤ i) ⊎ (i < word s 0) → cond (ltb i (word s 0)) (part s (4 + k * i) (4 + k * i + k)) [] ≡ []
    by (inl p) = simp (le-ltb i (word s 0) p)
    by (inr p) = simp (lt-ltb i (word s 0) p) (out k (omega arith))

-- ---- bytes

-- x is item i
module _ (s : List ℕ) (i : ℕ) {x : List ℕ} (e : x ≡ item_of s i) where
  pub entry_place : (p : ℕ × ℕ) {q r : ℕ × ℕ} → q ≡ inside p (item_start s i) → r ≡ inside q (content_start x) → r ≡ inside p (entry_start s i)
  unfolding entry_start
  entry_place p g h = inside-twice p (item_start s i) (content_start (item_of s i)) g (rw e at h)

-- past the count there is no entry
pub entry_past : (s : List ℕ) (i : ℕ) → item_count s ≤ i → entry_of s i ≡ []
unfolding entry_of content
entry_past s i h = ap (λ (x : List ℕ). part x 4 (length x)) (item_past s i h) ∙ part_none [] 4 0 (omega arith)
