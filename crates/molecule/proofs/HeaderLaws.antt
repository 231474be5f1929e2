-- The header by index is the header of the schema: `split` has a result exactly where `offsets_ok` holds, and then it is the items. So the tests
-- by index are those of `readable`, one law for each kind of type.
use mathlib.Core.Path.{◌≡◌, refl, sym, ap, ap₂, ◌∙◌, subst}
use Prim.Native.Nat.{ℕ, zero, suc, ◌+◌, ◌-◌, ◌*◌, ◌/◌, ◌%◌, ◌^◌, ◌≤◌, ◌<◌, min}
use mathlib.Core.List.{List, [], ◌∷◌}
use mathlib.Core.Bool.{Bool, true, false, cond, ◌&&◌, and-true, and-false, and_assoc, and-eq-true_iff, false≢true}
use mathlib.Core.Option.{Option, none, some, map, map-eq-some_iff}
use mathlib.Core.Logic.{◌≢◌}
use native.Mathlib.Nat.{mul_comm, suc-mul, mul-le-mul_right}
use native.Mathlib.Decide.{dec_lt}
use native.Mathlib.Omega.{arith}
use borrow.Author.Tests.{le-leb, lt-ltb, le-ltb, eq-eqb, ne_eqb, leb-true, eqb-true, eqb-false}
use mir.Facts.{yes_leb, no_leb, yes_eqb, no_eqb}
use lib.ListN.{length, take, drop, length-drop}
use lib.Seq.{drop-drop, take_all}
use lib.Dec.{T, leb, eqb, ltb, leb→le}
use Rattle.arithmetic.specs.LittleEndian.{le, u32_at}
use Rattle.arithmetic.proofs.LittleEndianLaws.{num_none, num_some}
use Rattle.molecule.specs.Partial.{only}
use Rattle.molecule.specs.Items.{cuts, words, items, split}
use Rattle.molecule.specs.Molecule.{Ty, fixvec, dynvec, table, Fields, end, ◌&◌, size, readable}
use Rattle.molecule.proofs.Valid.{fixed}
use Rattle.molecule.specs.Layout.{part, word, span, splits_into, has_items, start, field_of, item_count, item_of, items_of, fix_count}
use Rattle.molecule.proofs.PartialLaws.{only_yes, only_no, only-some, pick_yes, pick_no}
use Rattle.molecule.proofs.ReadableLaws.{holds, every, all_readable, readable-table, readable-dynvec, readable-fixvec}
pub use Rattle.molecule.proofs.ReadableLaws.{readable-option as option_is}
use Rattle.molecule.proofs.Offsets.{up_to, in_order, offsets_ok, up_all, up_from, start_in, start-out, offsets-parts, first_offset, span-length}

-- the i-th number, where its bytes are there
pub word-is : (s : List ℕ) (i : ℕ) → 4 * i + 4 ≤ length s → le (take 4 (drop (4 * i) s)) ≡ word s i
unfolding word
word-is s i h = sym (num_some 4 s (4 * i) h)

-- ---- the cuts

module _ (s : List ℕ) (n : ℕ) (room : 4 + 4 * n ≤ length s) where
  abbrev Ordered : ℕ → Type 0
  Ordered k = (j : ℕ) → k ≤ j → j < n → start s n j ≤ start s n (j + 1)

  start-end : (k : ℕ) → k + 1 ≡ n → start s n (k + 1) ≡ length s
  start-end k e = sym (start-out s n (k + 1) (omega arith))

  -- nothing starts past the end
  start-within : (d k : ℕ) → k + d ≡ n → Ordered k → start s n k ≤ length s
  start-within zero k e h = let z : length s ≡ start s n k = start-out s n k (omega arith) in omega arith
  start-within (suc d) k e h =
      let a : start s n k ≤ start s n (k + 1) = h k (omega arith) (omega arith) in
      let b : start s n (k + 1) ≤ length s = start-within d (k + 1) (omega arith) (λ j p q. h j (omega arith) q) in
      omega arith

  next-is : (k : ℕ) → k + 1 < n → le (take 4 (drop (8 + 4 * k) s)) ≡ start s n (k + 1)
  next-is k h =
      let z : 8 + 4 * k ≡ 4 * (k + 1 + 1) = omega arith in
      ap (λ (a : ℕ). le (take 4 (drop a s))) z ∙ word-is s (k + 1 + 1) (omega arith) ∙ start_in s n (k + 1) h refl

  abbrev cut : ℕ → ℕ → Option (List (List ℕ))
  cut k m = cuts (start s n k) (words m (drop (8 + 4 * k) s)) (drop (start s n k) s)

  -- one cut further
  cut_on : (k m : ℕ) → k + 1 < n → (p : ℕ) → p ≡ start s n (k + 1) → start s n k ≤ p → p ≤ length s
      → cut k (suc m) ≡ map (λ xs. field_of s n k ∷ xs) (cut (k + 1) m)
  unfolding cuts words field_of part
  cut_on k m h p e low high =
      let o : ℕ = start s n k in
      let a : o + (p - o) ≡ p = omega arith in
      let b : p - o ≤ length (drop o s) = omega (arith, length-drop o s) in
      let z : 8 + 4 * k + 4 ≡ 8 + 4 * (k + 1) = omega arith in
      ap (λ (q : ℕ). cuts o (q ∷ words m (drop 4 (drop (8 + 4 * k) s))) (drop o s)) (next-is k h ∙ sym e)
      ∙ only_yes _ _ (yes_leb low)
      ∙ only_yes _ _ (yes_leb b)
      ∙ ap₂ (λ (r t : List ℕ). map (λ xs. take (p - o) (drop o s) ∷ xs) (cuts p (words m r) t))
      (drop-drop 4 (8 + 4 * k) s ∙ ap (λ (j : ℕ). drop j s) z)
      (drop-drop (p - o) o s ∙ ap (λ (j : ℕ). drop j s) a)
      ∙ ap (λ (q : ℕ). map (λ xs. take (q - o) (drop o s) ∷ xs) (cuts q (words m (drop (8 + 4 * (k + 1)) s)) (drop q s))) e

  cut_all : (m k : ℕ) → k + suc m ≡ n → Ordered k → cut k m ≡ some (span (field_of s n) k (suc m))
  unfolding cuts words span field_of part
  cut_all zero k e h =
      let z : start s n (k + 1) ≡ length s = start-end k (omega arith) in
      let w : start s n k ≤ length s = start-within 1 k (omega arith) h in
      ap {B = Option (List (List ℕ))} (λ (x : List ℕ). some (x ∷ []))
      (sym (ap (λ (t : ℕ). take (t - start s n k) (drop (start s n k) s)) z ∙ take_all (length s - start s n k) (drop (start s n k) s) (omega (arith, length-drop (start s n k) s))))
  cut_all (suc m) k e h =
      let f : Ordered (k + 1) = λ j p q. h j (omega arith) q in
      let y : suc k ≡ k + 1 = omega arith in
      cut_on k m (omega arith) (start s n (k + 1)) refl (h k (omega arith) (omega arith)) (start-within (suc m) (k + 1) (omega arith) f)
      ∙ ap (map (λ xs. field_of s n k ∷ xs)) (cut_all m (k + 1) (omega arith) f)
      ∙ ap (λ (j : ℕ). some (field_of s n k ∷ span (field_of s n) j (suc m))) (sym y)

  cut_ordered : (m k : ℕ) → k + suc m ≡ n → start s n k ≤ length s → (xs : List (List ℕ)) → cut k m ≡ some xs → Ordered k
  unfolding cuts words
  cut_ordered zero k e w xs c j p q =
      let z : start s n (k + 1) ≡ length s = start-end k (omega arith) in
      let y : k ≡ j = omega arith in
      subst (λ (i : ℕ). start s n i ≤ start s n (i + 1)) y (omega arith)
  cut_ordered (suc m) k e w xs c j p q =
      let t = only-some _ _ c in
      let u = only-some _ _ t.1 in
      let nx : le (take 4 (drop (8 + 4 * k) s)) ≡ start s n (k + 1) = next-is k (omega arith) in
      let low₀ : start s n k ≤ le (take 4 (drop (8 + 4 * k) s)) = leb→le _ _ t.0 in
      let low : start s n k ≤ start s n (k + 1) = omega arith in
      let b : le (take 4 (drop (8 + 4 * k) s)) - start s n k ≤ length (drop (start s n k) s) = leb→le _ _ u.0 in
      let high : start s n (k + 1) ≤ length s = omega (arith, length-drop (start s n k) s) in
      let v = (map-eq-some_iff _ _).0 (sym (cut_on k m (omega arith) (start s n (k + 1)) refl low high) ∙ c) in
      elim (dec_lt k j) [
        | yes l ↦ cut_ordered m (k + 1) (omega arith) high v.0 v.1 j (omega arith) q
        | no l ↦ let y : k ≡ j = omega arith in subst (λ (i : ℕ). start s n i ≤ start s n (i + 1)) y low
      ]

-- the header of at least one item
module _ (s : List ℕ) (m : ℕ) (room : 4 + 4 * suc m ≤ length s) (first : start s (suc m) 0 ≡ 4 + 4 * suc m) where
  abbrev n : ℕ
  n = suc m

  cuts_are : cut s n room 0 m ≡ cond (up_to (in_order s n) n) (some (span (field_of s n) 0 n)) none
  cuts_are = by (up_to (in_order s n) n) refl
    where
      none_of : (o : Option (List (List ℕ))) → ((xs : List (List ℕ)) → o ≡ some xs → ⊥) → o ≡ none
      none_of none h = refl
      none_of (some xs) h = absurd (h xs refl)

      by : (b : Bool) → up_to (in_order s n) n ≡ b → cut s n room 0 m ≡ cond b (some (span (field_of s n) 0 n)) none
      by true e = cut_all s n room m 0 (omega arith) (λ j p q. leb-true (start s n j) (start s n (j + 1)) (unfold in_order in up_all (in_order s n) n e j q))
      by false e =
          none_of (cut s n room 0 m)
          (λ xs c. false≢true
          (sym e ∙ up_from (in_order s n) n (λ i l. unfold in_order in le-leb (start s n i) (start s n (i + 1)) (cut_ordered s n room m 0 (omega arith) (omega arith) xs c i (omega arith) l))))

-- ---- the whole header

items-none : (h : ℕ) (s : List ℕ) → (8 ≤ h → h % 4 ≡ 0 → h ≤ length s → ⊥) → items h s ≡ none
unfolding items
items-none h s f = a (leb 8 h) refl
  where
    rest : Option (List (List ℕ))
    rest = cuts h (words (h / 4 - 2) (drop 8 s)) (drop h s)

    c : (b : Bool) → leb h (length s) ≡ b → 8 ≤ h → h % 4 ≡ 0 → only b rest ≡ none
    c true e p q = absurd (f p q (leb-true h (length s) e))
    c false e p q = only_no false rest tt

    b : (x : Bool) → eqb (h % 4) 0 ≡ x → 8 ≤ h → only x (only (leb h (length s)) rest) ≡ none
    b true e p = only_yes true _ tt ∙ c (leb h (length s)) refl p (eqb-true (h % 4) 0 e)
    b false e p = only_no false _ tt

    a : (x : Bool) → leb 8 h ≡ x → only x (only (eqb (h % 4) 0) (only (leb h (length s)) rest)) ≡ none
    a true e = only_yes true _ tt ∙ b (eqb (h % 4) 0) refl (leb-true 8 h e)
    a false e = only_no false _ tt

items-some : (h : ℕ) (s : List ℕ) → 8 ≤ h → h % 4 ≡ 0 → h ≤ length s → items h s ≡ cuts h (words (h / 4 - 2) (drop 8 s)) (drop h s)
unfolding items
items-some h s p q r = only_yes _ _ (yes_leb p) ∙ only_yes _ _ (yes_eqb q) ∙ only_yes _ _ (yes_leb r)

abbrev Whole : List ℕ → Type 0
Whole s = split s ≡ cond (offsets_ok s (item_count s)) (some (items_of s)) none

both-none : (s : List ℕ) → split s ≡ none → offsets_ok s (item_count s) ≡ false → Whole s
both-none s a b = a ∙ rw b

short : (s : List ℕ) → length s < 4 → Whole s
unfolding split offsets_ok
short s h = both-none s (only_no _ _ (no_leb h)) (rw (le-ltb (item_count s) (length s / 4) (omega arith)))

other_size : (s : List ℕ) → 4 ≤ length s → word s 0 ≢ length s → Whole s
unfolding split offsets_ok
other_size s four h =
    let z : le (take 4 s) ≢ length s = λ e. h (sym (word-is s 0 (omega arith)) ∙ e) in
    both-none s (only_yes _ _ (yes_leb four) ∙ only_no _ _ (no_eqb z)) (simp (ne_eqb (word s 0) (length s) h, and-false))

-- a size alone has no items
count_none : (s : List ℕ) → length s ≡ 4 → item_count s ≡ 0
unfolding item_count word
count_none s h = let z : 0 ≡ u32_at s (4 * 1) = num_none 4 s (4 * 1) (omega arith) in omega arith

no_item : (s : List ℕ) → length s ≡ 4 → word s 0 ≡ length s → Whole s
unfolding split offsets_ok start up_to span
no_item s h w =
    let c : item_count s ≡ 0 = count_none s h in
    let four : 4 ≤ length s = omega arith in
    let z : le (take 4 s) ≡ length s = word-is s 0 (omega arith) ∙ w in
    only_yes _ _ (yes_leb four) ∙ only_yes _ _ (yes_eqb z) ∙ pick_yes _ _ _ (yes_eqb h)
    ∙ rw (c, lt-ltb 0 (length s / 4) (omega arith), eq-eqb (word s 0) (length s) w, eq-eqb (length s) 4 h)

module _ (s : List ℕ) (four : 4 ≤ length s) (w : word s 0 ≡ length s) (more : length s ≢ 4) where
  h : ℕ
  h = le (take 4 (drop 4 s))

  to_items : split s ≡ items h s
  unfolding split h
  to_items =
      let z : le (take 4 s) ≡ length s = word-is s 0 (omega arith) ∙ w in
      only_yes _ _ (yes_leb four) ∙ only_yes _ _ (yes_eqb z) ∙ pick_no _ _ _ (no_eqb more)

  count-is : word s 1 ≤ length s → item_count s ≡ word s 1 / 4 - 1
  unfolding item_count
  count-is l = omega arith

  first-is : 8 ≤ length s → word s 1 ≡ h
  unfolding h
  first-is l = sym (word-is s 1 (omega arith))

  -- a right header says where its first item is
  bad : (8 ≤ h → h % 4 ≡ 0 → h ≤ length s → ⊥) → offsets_ok s (item_count s) ≡ false
  unfolding offsets_ok
  bad f = by (offsets_ok s (item_count s)) refl
    where
      at : (n : ℕ) → n ≡ item_count s → n < length s / 4 → start s n 0 ≡ 4 + 4 * n → ⊥
      at zero e p q = let z : length s ≡ start s 0 0 = start-out s 0 0 (omega arith) in more (omega arith)
      at (suc n) e p q =
          let z : word s 1 ≡ start s (suc n) 0 = start_in s (suc n) 0 (omega arith) refl in
          let l : 8 ≤ length s = omega arith in
          let y : word s 1 ≡ h = first-is l in
          f (omega arith) (omega arith) (omega arith)

      by : (b : Bool) → offsets_ok s (item_count s) ≡ b → offsets_ok s (item_count s) ≡ false
      by false e = e
      by true e = let o = offsets-parts s (item_count s) e in absurd (at (item_count s) refl o.room o.first)

  good : (m : ℕ) → h ≡ 8 + 4 * m → h ≤ length s → Whole s
  unfolding offsets_ok item_of
  good m e l =
      let k : word s 1 ≡ h = first-is (omega arith) in
      let c : item_count s ≡ suc m = count-is (omega arith) ∙ omega arith in
      let room : 4 + 4 * suc m ≤ length s = omega arith in
      let f : start s (suc m) 0 ≡ 4 + 4 * suc m = sym (start_in s (suc m) 0 (omega arith) refl) ∙ k ∙ omega arith in
      let g : start s (suc m) 0 ≡ h = f ∙ omega arith in
      let d : h / 4 - 2 ≡ m = omega arith in
      to_items
      ∙ items-some h s (omega arith) (omega arith) l
      ∙ ap₂ (λ (a b : ℕ). cuts a (words b (drop 8 s)) (drop a s)) (sym g) d
      ∙ cuts_are s m room f
      ∙ tests (lt-ltb (suc m) (length s / 4) (omega arith)) (eq-eqb (word s 0) (length s) w) (eq-eqb (start s (suc m) 0) (4 + 4 * suc m) f)
      ∙ ap (λ (n : ℕ). cond (offsets_ok s n) (some (span (field_of s n) 0 n)) none) (sym c)
    where
      tests : ltb (suc m) (length s / 4) ≡ true → eqb (word s 0) (length s) ≡ true → eqb (start s (suc m) 0) (4 + 4 * suc m) ≡ true
          → cond (up_to (in_order s (suc m)) (suc m)) (some (span (field_of s (suc m)) 0 (suc m))) none
          ≡ cond (ltb (suc m) (length s / 4) && eqb (word s 0) (length s) && eqb (start s (suc m) 0) (4 + 4 * suc m) && up_to (in_order s (suc m)) (suc m)) (some (span (field_of s (suc m)) 0 (suc m))) none
      tests a b d = rw (a, b, d)

  rest-is : Whole s
  rest-is = by (leb 8 h && eqb (h % 4) 0 && leb h (length s)) refl
    where
      by : (b : Bool) → leb 8 h && eqb (h % 4) 0 && leb h (length s) ≡ b → Whole s
      by true e =
          let a = (and-eq-true_iff (leb 8 h && eqb (h % 4) 0) (leb h (length s))).0 e in
          let b = (and-eq-true_iff (leb 8 h) (eqb (h % 4) 0)).0 a.0 in
          let p : 8 ≤ h = leb-true 8 h b.0 in
          let q : h % 4 ≡ 0 = eqb-true (h % 4) 0 b.1 in
          let r : h ≤ length s = leb-true h (length s) a.1 in
          good (h / 4 - 2) (omega arith) r
      by false e =
          let f : 8 ≤ h → h % 4 ≡ 0 → h ≤ length s → ⊥ = λ p q r. false≢true (sym e ∙ rw (le-leb 8 h p, eq-eqb (h % 4) 0 q, le-leb h (length s) r)) in
          both-none s (to_items ∙ items-none h s f) (bad f)

-- the law of the header
pub split-is : (s : List ℕ) → split s ≡ cond (offsets_ok s (item_count s)) (some (items_of s)) none
split-is s =
    elim (dec_lt (length s) 4) [
      | yes l ↦ short s l
      | no l ↦ size (omega arith) (eqb (word s 0) (length s)) refl
    ]
  where
    four_is : (four : 4 ≤ length s) → word s 0 ≡ length s → (b : Bool) → eqb (length s) 4 ≡ b → Whole s
    four_is four w true e = no_item s (eqb-true (length s) 4 e) w
    four_is four w false e = rest-is s four w (eqb-false (length s) 4 e)

    size : (four : 4 ≤ length s) (b : Bool) → eqb (word s 0) (length s) ≡ b → Whole s
    size four true e = four_is four (eqb-true (word s 0) (length s) e) (eqb (length s) 4) refl
    size four false e = other_size s four (eqb-false (word s 0) (length s) e)

-- ---- the header with n items

-- the count is the one that a right header has
count_right : (s : List ℕ) (n : ℕ) → offsets_ok s n ≡ true → item_count s ≡ n
unfolding item_count
count_right s zero h =
    let o = offsets-parts s 0 h in
    let z : length s ≡ start s 0 0 = start-out s 0 0 (omega arith) in
    let four : length s ≡ 4 = omega (arith, o.first) in
    count_none s four
count_right s (suc m) h =
    let o = offsets-parts s (suc m) h in
    let w : word s 1 ≡ 4 + 4 * suc m = first_offset s m h in
    omega (arith, o.room)

pub offsets-has : (s : List ℕ) (n : ℕ) → offsets_ok s n ≡ has_items s n
unfolding has_items splits_into item_of
offsets-has s n = sym (ap (λ (o : Option (List (List ℕ))). splits_into o n) (split-is s) ∙ by (offsets_ok s (item_count s)) refl (offsets_ok s n) refl)
  where
    by : (b : Bool) → offsets_ok s (item_count s) ≡ b → (c : Bool) → offsets_ok s n ≡ c → splits_into (cond b (some (items_of s)) none) n ≡ c
    by true e true f = eq-eqb _ _ (span-length (item_of s) 0 (item_count s) ∙ count_right s n f)
    by true e false f =
        ne_eqb _ _ (λ q. false≢true (sym f ∙ ap (offsets_ok s) (sym q ∙ span-length (item_of s) 0 (item_count s)) ∙ e))
    by false e true f = sym e ∙ ap (offsets_ok s) (count_right s n f) ∙ f
    by false e false f = refl

pub split_n : (s : List ℕ) (n : ℕ) → has_items s n ≡ true → split s ≡ some (span (field_of s n) 0 n)
unfolding item_of
split_n s n h =
    let k : offsets_ok s n ≡ true = offsets-has s n ∙ h in
    let c : item_count s ≡ n = count_right s n k in
    split-is s ∙ ap (λ (m : ℕ). cond (offsets_ok s m) (some (span (field_of s m) 0 m)) none) c ∙ rw k

-- ---- readable by index

-- how many fields there are
unfoldable pub count : Fields → ℕ
count end = 0
count (t & ts) = suc (count ts)

other_length : (ts : Fields) (xs : List (List ℕ)) → length xs ≢ count ts → all_readable ts xs ≡ false
unfolding all_readable count
other_length end [] h = absurd (h refl)
other_length end (x ∷ xs) h = refl
other_length (t & ts) [] h = refl
other_length (t & ts) (x ∷ xs) h = ap (λ (b : Bool). readable t x && b) (other_length ts xs (λ e. h (ap suc e))) ∙ and-false (readable t x)

pub table-readable : (ts : Fields) (s : List ℕ)
    → readable (table ts) s ≡ (has_items s (count ts) && all_readable ts (span (field_of s (count ts)) 0 (count ts)))
table-readable ts s = readable-table ts s ∙ by (has_items s n) refl
  where
    n : ℕ
    n = count ts

    none_or : (o : Option (List (List ℕ))) → splits_into o n ≡ false → holds o (all_readable ts) ≡ false
    none_or none e = unfold holds in refl
    none_or (some xs) e = unfold holds splits_into in other_length ts xs (eqb-false _ _ e)

    by : (b : Bool) → has_items s n ≡ b → holds (split s) (all_readable ts) ≡ (b && all_readable ts (span (field_of s n) 0 n))
    by true e = unfold holds in ap (λ (o : Option (List (List ℕ))). holds o (all_readable ts)) (split_n s n e)
    by false e = none_or (split s) (unfold has_items in e)

every_snoc : (p : List ℕ → Bool) (f : ℕ → List ℕ) (i k : ℕ) → every p (span f i (suc k)) ≡ (every p (span f i k) && p (f (i + k)))
unfolding every span
every_snoc p f i zero = let z : i ≡ i + 0 = omega arith in and-true (p (f i)) ∙ ap (λ (j : ℕ). p (f j)) z
every_snoc p f i (suc k) =
    let z : suc i + k ≡ i + suc k = omega arith in
    ap (λ (b : Bool). p (f i) && b) (every_snoc p f (suc i) k ∙ ap (λ (j : ℕ). every p (span f (suc i) k) && p (f j)) z)
    ∙ sym (and_assoc (p (f i)) (every p (span f (suc i) k)) (p (f (i + suc k))))

every_up : (p : List ℕ → Bool) (f : ℕ → List ℕ) (n : ℕ) → every p (span f 0 n) ≡ up_to (λ i. p (f i)) n
unfolding up_to every span
every_up p f zero = refl
every_up p f (suc n) =
    let z : 0 + n ≡ n = omega arith in
    every_snoc p f 0 n ∙ ap₂ ◌&&◌ (every_up p f n) (ap (λ (j : ℕ). p (f j)) z)

pub dynvec-readable : (t : Ty) (s : List ℕ) → readable (dynvec t) s ≡ (has_items s (item_count s) && up_to (λ i. readable t (item_of s i)) (item_count s))
unfolding holds
dynvec-readable t s =
    readable-dynvec t s
    ∙ ap (λ (o : Option (List (List ℕ))). holds o (every (readable t))) (split-is s)
    ∙ holds-cond (offsets_ok s (item_count s))
    ∙ ap₂ ◌&&◌ (offsets-has s (item_count s)) (every_up (readable t) (item_of s) (item_count s))
  where
    holds-cond : (b : Bool) → holds (cond b (some (items_of s)) none) (every (readable t)) ≡ (b && every (readable t) (items_of s))
    holds-cond true = refl
    holds-cond false = refl

-- by the count that the first word says
pub fixvec-says : (t : Ty) → T (fixed t) → (s : List ℕ)
    → readable (fixvec t) s ≡ (ltb (length s) (2 ^ 32) && leb 4 (length s) && eqb (length s) (4 + size t * word s 0))
fixvec-says t ok s = readable-fixvec t ok s ∙ by (leb 4 (length s)) refl
  where
    by : (b : Bool) → leb 4 (length s) ≡ b
        → (ltb (length s) (2 ^ 32) && b && eqb (length s) (4 + le (take 4 s) * size t)) ≡ (ltb (length s) (2 ^ 32) && b && eqb (length s) (4 + size t * word s 0))
    by true e =
        let four : 4 ≤ length s = leb-true 4 (length s) e in
        ap (λ (m : ℕ). ltb (length s) (2 ^ 32) && true && eqb (length s) (4 + m))
        (ap (λ (w : ℕ). w * size t) (word-is s 0 (omega arith)) ∙ mul_comm (word s 0) (size t))
    by false e = simp and-false

-- the bound on the count changes no answer: a count that is cut off is wrong with and without it
within_same : (k w l : ℕ) → eqb l (4 + k * w) ≡ eqb l (4 + k * min w l)
within_same zero w l = ap (eqb l) (omega arith)
within_same (suc k) w l =
    elim (dec_lt l w) [
      | yes p ↦
          let m : min w l ≡ l = omega arith in
          let far : l ≢ 4 + suc k * w = λ q. omega (arith, suc-mul k w) in
          let past : l ≢ 4 + suc k * l = λ q. omega (arith, suc-mul k l) in
          ne_eqb _ _ far ∙ sym (rw m (ne_eqb _ _ past))
      | no p ↦ let m : min w l ≡ w = omega arith in rw m
    ]

pub fixvec-readable : (t : Ty) → T (fixed t) → (s : List ℕ)
    → readable (fixvec t) s ≡ (ltb (length s) (2 ^ 32) && leb 4 (length s) && eqb (length s) (4 + size t * fix_count s))
unfolding fix_count
fixvec-readable t ok s = fixvec-says t ok s ∙ ap (λ (b : Bool). ltb (length s) (2 ^ 32) && leb 4 (length s) && b) (within_same (size t) (word s 0) (length s))

-- of items that have bytes a fixvec that is read has as many as its first word says
pub fixvec-count : (t : Ty) → T (fixed t) → 1 ≤ size t → (s : List ℕ) → readable (fixvec t) s ≡ true → fix_count s ≡ word s 0
unfolding fix_count
fixvec-count t ok one s h =
    let a = (and-eq-true_iff (ltb (length s) (2 ^ 32) && leb 4 (length s)) (eqb (length s) (4 + size t * word s 0))).0 (sym (fixvec-says t ok s) ∙ h) in
    let e : length s ≡ 4 + size t * word s 0 = eqb-true _ _ a.1 in
    omega (arith, mul-le-mul_right (word s 0) one)

-- a table of two fields, in the tests that code makes
pub pair_is : (a b : Ty) (s : List ℕ) → readable (table (a & b & end)) s ≡ (has_items s 2 && readable a (field_of s 2 0) && readable b (field_of s 2 1))
unfolding count all_readable span
pair_is a b s = table-readable (a & b & end) s ∙ simp (and-true, and_assoc)
