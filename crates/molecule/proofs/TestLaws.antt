-- One law for each way out of the functions that test a header, a fixvec or the items of a dynvec.
use mathlib.Core.Path.{◌≡◌, refl, sym, ap, ◌∙◌}
use Prim.Native.Nat.{ℕ, zero, suc, ◌+◌, ◌-◌, ◌*◌, ◌/◌, ◌^◌, ◌≤◌, ◌<◌}
use mathlib.Core.List.{List}
use mathlib.Core.Bool.{Bool, true, false, not, ◌&&◌, and-false}
use native.Mathlib.Numerals.{add-one}
use native.Mathlib.Omega.{arith}
use borrow.Author.Tests.{le-leb, leb-true, lt-leb, lt-ltb, eq-eqb, not-true, not-false}
use lib.Dec.{T, leb, ltb, eqb}
use lib.ListN.{length}
use Rattle.std.proofs.lemmas.Bool.Decides.{nat_tests}
use Rattle.molecule.specs.Molecule.{Ty, byte, array, fixvec, dynvec, size, readable}
use Rattle.molecule.proofs.Valid.{fixed}
use Rattle.molecule.specs.Layout.{part, word, start, has_header, has_items, item_count, item_of}
use Rattle.molecule.proofs.Offsets.{up_to, in_order, offsets_ok, up_stop, up_all, offsets-parts, start-out}
use Rattle.molecule.proofs.LayoutLaws.{part_none, part-empty, field_is, item-is}
use Rattle.molecule.proofs.HeaderLaws.{offsets-has, dynvec-readable, fixvec-says, fixvec-readable}

-- two tests of which each holds where the other does
pub both_ways : (b c : Bool) → (b ≡ true → c ≡ true) → (c ≡ true → b ≡ true) → b ≡ c
both_ways true c f g = sym (f refl)
both_ways false true f g = g refl
both_ways false false f g = refl

-- ---- a header of n items

module _ (s : List ℕ) (n : ℕ) where
  pub header_is : {w a : ℕ} → n < length s / 4 → w ≡ word s 0 → w ≡ length s → a ≡ start s n 0 → a ≡ 4 + 4 * n → true ≡ has_header s n
  unfolding has_header
  header_is l ew hw ea ha = sym (simp (lt-ltb n (length s / 4) l, ← ew, eq-eqb _ _ hw, ← ea, eq-eqb _ _ ha))

  -- the items of a header are in order
  has-order : has_items s n ≡ (has_header s n && up_to (in_order s n) n)
  unfolding offsets_ok has_header
  has-order = sym (offsets-has s n)

  pub items-header : {r : Bool} → r ≡ has_header s n → not r ≡ true → false ≡ has_items s n
  items-header e q = sym (has-order ∙ simp (sym e ∙ not-true _ q))

-- the first i items are in order, and the next one starts at `from`
pub record Ordered (s : List ℕ) (n i from : ℕ) : Type 0 where
  pub head : has_header s n ≡ true
  pub within : i ≤ n
  pub here : from ≡ start s n i
  pub all : up_to (in_order s n) i ≡ true

pub ordered_none : (s : List ℕ) (n : ℕ) {a : ℕ} {r : Bool} → r ≡ has_header s n → not r ≡ false → a ≡ start s n 0 → Ordered s n 0 a
unfolding up_to
ordered_none s n e q ea = record { head = sym e ∙ not-false _ q; within = omega arith; here = ea; all = refl }

module _ {s : List ℕ} {n i from : ℕ} (o : Ordered s n i from) where
  pub ordered_more : {to : ℕ} → i < n → to ≡ start s n (i + 1) → from ≤ to → Ordered s n (i + 1) to
  unfolding up_to in_order
  ordered_more {to} l e h =
      let k : start s n i ≤ start s n (i + 1) = rw (← e, ← o.here) h in
      record {
        head = o.head;
        within = omega arith;
        here = e;
        all = rw (add-one, o.all) (le-leb (start s n i) (start s n (i + 1)) k);
      }

  pub ordered_stop : {to : ℕ} → i < n → to ≡ start s n (i + 1) → to < from → false ≡ has_items s n
  unfolding in_order
  ordered_stop l e h =
      let k : start s n (i + 1) < start s n i = rw (← e, ← o.here) h in
      sym (has-order s n ∙ simp (up_stop (in_order s n) i n l (lt-leb (start s n i) (start s n (i + 1)) k), and-false))

  pub ordered_end : n ≤ i → true ≡ has_items s n
  ordered_end l = let q : i ≡ n = omega arith in sym (has-order s n ∙ simp (o.head, rw q at o.all))

-- ---- a fixvec of items of k bytes

module _ (s : List ℕ) (k : ℕ) where
  bytes_fixed : T (fixed (array byte k))
  unfolding fixed
  bytes_fixed = tt

  bytes-size : size (array byte k) ≡ k
  unfolding size
  bytes-size = omega arith

  pub fix_says : readable (fixvec (array byte k)) s ≡ (leb (length s) 4294967295 && leb 4 (length s) && eqb (length s) (4 + k * word s 0))
  fix_says = fixvec-says (array byte k) bytes_fixed s ∙ rw (bytes-size, short) refl
    where
      short : ltb (length s) (2 ^ 32) ≡ leb (length s) 4294967295
      short = grind (arith, nat_tests)

  pub fix_short : length s < 4 → false ≡ readable (fixvec (array byte k)) s
  fix_short h = sym (fix_says ∙ simp (lt-leb 4 (length s) h, and-false))

-- any items of k bytes are as good as an array of k bytes
pub fix_as : (t : Ty) → T (fixed t) → (k : ℕ) → size t ≡ k → (s : List ℕ) {r : Bool} → r ≡ readable (fixvec (array byte k)) s → r ≡ readable (fixvec t) s
fix_as t f k e s h = h ∙ fixvec-readable (array byte k) (bytes_fixed s k) s ∙ rw (bytes-size s k, ← e) (sym (fixvec-readable t f s))

pub bytes_are : (s : List ℕ) {r : Bool} → r ≡ readable (fixvec (array byte 1)) s → r ≡ readable (fixvec byte) s
unfolding fixed size
bytes_are s h = fix_as byte tt 1 refl s h

-- ---- the items of a dynvec: the first i of n are read as t

unfoldable pub item_is : Ty → List ℕ → ℕ → Bool
item_is t s i = readable t (item_of s i)

pub record Reading (t : Ty) (s : List ℕ) (n i : ℕ) : Type 0 where
  pub count : n ≡ item_count s
  pub head : has_items s n ≡ true
  pub within : i ≤ n
  pub all : up_to (item_is t s) i ≡ true

module _ (t : Ty) (s : List ℕ) {n : ℕ} {r : Bool} (e : n ≡ item_count s) (h : r ≡ has_items s n) where
  pub reading_no : not r ≡ true → false ≡ readable (dynvec t) s
  reading_no q = sym (dynvec-readable t s ∙ rw (← e) (simp (sym h ∙ not-true _ q)))

  pub reading_none : not r ≡ false → Reading t s n 0
  unfolding up_to
  reading_none q = record { count = e; head = sym h ∙ not-false _ q; within = omega arith; all = refl }

module _ {t : Ty} {s : List ℕ} {n i : ℕ} (g : Reading t s n i) where
  module _ {f : List ℕ} {r : Bool} (l : i < n) (e : f ≡ item_of s i) (h : r ≡ readable t f) where
    pub reading_more : not r ≡ false → Reading t s n (i + 1)
    unfolding up_to item_is
    reading_more q = record { count = g.count; head = g.head; within = omega arith; all = rw (add-one, g.all, ← e) (sym h ∙ not-false _ q) }

    pub reading_stop : not r ≡ true → false ≡ readable (dynvec t) s
    unfolding item_is
    reading_stop q =
        let x : readable t (item_of s i) ≡ false = rw (← e) (sym h ∙ not-true _ q) in
        sym (dynvec-readable t s ∙ rw (← g.count) (simp (up_stop (λ j. readable t (item_of s j)) i n l x, and-false)))

  pub reading_end : n ≤ i → true ≡ readable (dynvec t) s
  unfolding item_is
  reading_end l =
      let q : i ≡ n = omega arith in
      sym (dynvec-readable t s ∙ rw (← g.count) (simp (g.head, rw q at g.all)))

-- ---- both at once: the first i of n are in order and are read as t, and the next one starts at `from`

pub record Walked (t : Ty) (s : List ℕ) (n i from : ℕ) : Type 0 where
  pub count : n ≡ item_count s
  pub order : Ordered s n i from
  pub all : up_to (item_is t s) i ≡ true

-- where the items are not in order nothing is read
disordered : (t : Ty) (s : List ℕ) {n : ℕ} → n ≡ item_count s → false ≡ has_items s n → false ≡ readable (dynvec t) s
disordered t s e h = sym (dynvec-readable t s ∙ rw (← e) (simp (sym h)))

module _ (t : Ty) (s : List ℕ) {n : ℕ} {r : Bool} (e : n ≡ item_count s) (h : r ≡ has_header s n) where
  pub walked_no : not r ≡ true → false ≡ readable (dynvec t) s
  walked_no q = disordered t s e (items-header s n h q)

  pub walked_none : {a : ℕ} → not r ≡ false → a ≡ start s n 0 → Walked t s n 0 a
  unfolding up_to
  walked_none q ea = record { count = e; order = ordered_none s n h q ea; all = refl }

-- nothing starts past the end
starts_within : (s : List ℕ) (n : ℕ) → has_items s n ≡ true → (d i : ℕ) → i + d ≡ n → start s n i ≤ length s
unfolding in_order
starts_within s n h zero i e = let z : length s ≡ start s n i = start-out s n i (omega arith) in omega arith
starts_within s n h (suc d) i e =
    let o = offsets-parts s n (offsets-has s n ∙ h) in
    let a : start s n i ≤ start s n (i + 1) = leb-true _ _ (up_all (in_order s n) n o.order i (omega arith)) in
    let b : start s n (i + 1) ≤ length s = starts_within s n h d (i + 1) (omega arith) in
    omega arith

no_items : (s : List ℕ) (n i : ℕ) → i ≤ n → length s < start s n i → false ≡ has_items s n
no_items s n i l h = by (has_items s n) refl
  where
    by : (b : Bool) → has_items s n ≡ b → false ≡ b
    by true q = let w : start s n i ≤ length s = starts_within s n q (n - i) i (omega arith) in absurd (omega arith)
    by false q = refl

module _ {t : Ty} {s : List ℕ} {n i from : ℕ} (g : Walked t s n i from) where
  pub walked_falls : {to : ℕ} → i < n → to ≡ start s n (i + 1) → to < from → false ≡ readable (dynvec t) s
  walked_falls l e h = disordered t s g.count (ordered_stop g.order l e h)

  pub walked_past : {to : ℕ} → i < n → to ≡ start s n (i + 1) → length s < to → false ≡ readable (dynvec t) s
  walked_past l e h = disordered t s g.count (no_items s n (i + 1) (omega arith) (rw e at h))

  module _ {to : ℕ} {f : List ℕ} {r : Bool} (l : i < n) (e : to ≡ start s n (i + 1)) (k : f ≡ part s from to) (h : r ≡ readable t f) where
    this : f ≡ item_of s i
    this = item-is s i g.count (field_is s n i g.order.here e k)

    pub walked_more : from ≤ to → not r ≡ false → Walked t s n (i + 1) to
    unfolding up_to item_is
    walked_more m q = record { count = g.count; order = ordered_more g.order l e m; all = rw (add-one, g.all, ← this) (sym h ∙ not-false _ q) }

    pub walked_stop : not r ≡ true → false ≡ readable (dynvec t) s
    unfolding item_is
    walked_stop q =
        let x : readable t (item_of s i) ≡ false = rw (← this) (sym h ∙ not-true _ q) in
        sym (dynvec-readable t s ∙ rw (← g.count) (simp (up_stop (λ j. readable t (item_of s j)) i n l x, and-false)))

  -- an item of no bytes, tested as such
  module _ {to : ℕ} {f : List ℕ} {r : Bool} (l : i < n) (e : to ≡ start s n (i + 1)) (z : to ≡ from) (k : f ≡ part s 0 0) (h : r ≡ readable t f) where
    empty : f ≡ part s from to
    empty = k ∙ part-empty s ∙ sym (part_none s from to (omega arith))

    pub walked_empty : r ≡ true → Walked t s n (i + 1) to
    walked_empty q = walked_more l e empty h (omega arith) (ap not q)

    pub walked_empty-stop : r ≡ false → false ≡ readable (dynvec t) s
    walked_empty-stop q = walked_stop l e empty h (ap not q)

  pub walked_end : n ≤ i → true ≡ readable (dynvec t) s
  unfolding item_is
  walked_end l =
      let q : i ≡ n = omega (arith, g.order.within) in
      sym (dynvec-readable t s ∙ rw (← g.count) (simp (sym (ordered_end g.order l), rw q at g.all)))
