-- The lists of a base transaction are in their forms.
use mathlib.Core.Path.{◌≡◌, refl, sym, ap, ap₂, ◌∙◌, subst}
use Prim.Native.Nat.{ℕ, zero, suc, ◌+◌, ◌-◌, ◌^◌, ◌≤◌, ◌<◌}
use mathlib.Core.Bool.{Bool, true, false, cond, ◌&&◌, and-eq-true_iff}
use mathlib.Core.List.{List, [], ◌∷◌, ◌++◌, flatten}
use native.Mathlib.Omega.{arith}
use borrow.Author.Tests.{lt-ltb, ltb-true, leb-true, eqb-true}
use lib.Dec.{ltb, leb}
use lib.ListN.{length, take, drop, replicate, length-append}
use lib.Seq.{length-take-le}
use Rattle.arithmetic.specs.LittleEndian.{le, to_le, num_at, AllBytes, u32_at}
use Rattle.arithmetic.proofs.LittleEndianLaws.{length-to_le, le_lt}
use Rattle.molecule.specs.Partial.{All}
use Rattle.molecule.specs.Items.{join, unwords, offsets}
use Rattle.molecule.specs.Layout.{word, span, field_of, has_items, item_of, item_count, items_of, fix_items}
use Rattle.molecule.specs.Molecule.{Ty, fixvec, dynvec, option, end, ◌&◌, readable}
use Rattle.molecule.proofs.Valid.{fixed, all_fixed}
use Rattle.molecule.proofs.ItemsLaws.{bytes_take}
use Rattle.molecule.proofs.Offsets.{up_all, span-length}
use Rattle.molecule.proofs.ChunksLaws.{Long}
use Rattle.molecule.proofs.HeaderLaws.{count, dynvec-readable, table-readable}
use Rattle.molecule.proofs.ReadableLaws.{every, all_readable, readable_fixed, by_length, of-option}
use Rattle.lists.proofs.SpanLaws.{span-drop}
use Rattle.transaction.specs.Ckb.{Byte32, Bytes, OutPoint, CellDep, CellInput, CellOutput, Transaction, TokenCell, TokenCells}
use Rattle.transaction.specs.Tx.{tx_at, raw_field, witnesses_of, first_of}
use Rattle.transaction.proofs.FieldLaws.{bytes_raw, no_raw}
use Rattle.transaction.proofs.ListLaws.{hash-size, input-size, point-size}
use Rattle.transaction_writer.specs.Written.{in_form}
use Rattle.transaction_writer.proofs.RewriteLaws.{lists_in_form}
use Rattle.error.specs.Outcome.{fine}
use Rattle.lists.specs.Lists.{is_empty}
use Rattle.error.proofs.Passed.{never, fine_inj, bound-fine}
use Rattle.udt_cells.specs.Pick.{Pick, plus_cell, enough_or, pick_from, pick_typed}
use Rattle.list_writer.specs.ListWriter.{bytes_item, item_or, items_after_first, if_any, if_positive}
use Rattle.list_writer.proofs.AgainLaws.{items-long}
use Rattle.cell_deps.proofs.LongLaws.{no_items_lem}
use Rattle.base_inputs.specs.BaseInputs.{picked_input, picked}
use Rattle.base_lists.specs.BaseLists.{placeholder, witness_list}
use Rattle.base_theorems.proofs.PackedLaws.{item-readable}

-- ---- the present transaction, which may be none

nothing_raw : (s : List ℕ) (i : ℕ) → s ≡ [] → raw_field s i ≡ []
nothing_raw s i e = ap (λ (x : List ℕ). raw_field x i) e ∙ no_raw i

no_count : item_count [] ≡ 0
unfolding item_count word num_at
no_count = refl

-- a number of four bytes is below 2^32
word_low : (s : List ℕ) → AllBytes s → u32_at s 0 < 2 ^ 32
unfolding num_at
word_low s b = by (leb 4 (length s)) refl
  where
    by : (c : Bool) → leb (0 + 4) (length s) ≡ c → cond c (le (take 4 s)) 0 < 2 ^ 32
    by true e =
        let h : 4 ≤ length s = leb-true 4 (length s) e in
        let p : le (take 4 s) < 256 ^ 4 = subst (λ (n : ℕ). le (take 4 s) < 256 ^ n) (length-take-le 4 s h) (le_lt (take 4 s) (bytes_take 4 s b)) in
        omega arith
    by false e = omega arith

-- each item of a readable list is readable
dyn_item : (t : Ty) (s : List ℕ) → readable (dynvec t) s ≡ true → (i : ℕ) → i < item_count s → readable t (item_of s i) ≡ true
dyn_item t s h = up_all (λ (i : ℕ). readable t (item_of s i)) (item_count s) ((and-eq-true_iff (has_items s (item_count s)) _).0 (sym (dynvec-readable t s) ∙ h)).1

-- what a readable transaction, or none, has
pub record Present (s : List ℕ) : Type 0 where
  pub header_deps : Long 32 (fix_items 32 (raw_field s 2))
  pub inputs : Long 44 (fix_items 44 (raw_field s 3))
  pub outputs : (i : ℕ) → i < item_count (raw_field s 4) → readable CellOutput (item_of (raw_field s 4) i) ≡ true
  pub outputs_data : (i : ℕ) → i < item_count (raw_field s 5) → readable Bytes (item_of (raw_field s 5) i) ≡ true

module _ (s : List ℕ) (h : readable (option Transaction) s ≡ true) where
  none-present : s ≡ [] → Present s
  none-present e =
      let no : (i j : ℕ) → j < item_count (raw_field s i) → ⊥ = λ i j k. (let z : item_count (raw_field s i) ≡ 0 = ap item_count (nothing_raw s i e) ∙ no_count in omega arith) in
      record {
        header_deps = rw (nothing_raw s 2 e, no_items_lem 32) tt;
        inputs = rw (nothing_raw s 3 e, no_items_lem 44) tt;
        outputs = λ i k. absurd (no 4 i k);
        outputs_data = λ i k. absurd (no 5 i k);
      }

  some-present : (length s ≡ 0 → ⊥) → Present s
  unfolding in_form fixed all_fixed
  some-present n =
      let form = lists_in_form s (of-option Transaction s n h) in
      let f = (and-eq-true_iff _ (readable (dynvec Bytes) (witnesses_of s))).0 form in
      let g = (and-eq-true_iff _ (readable (dynvec Bytes) (raw_field s 5))).0 f.0 in
      let k = (and-eq-true_iff _ (readable (dynvec CellOutput) (raw_field s 4))).0 g.0 in
      let i = (and-eq-true_iff _ (readable (fixvec CellInput) (raw_field s 3))).0 k.0 in
      let j = (and-eq-true_iff (readable (fixvec CellDep) (raw_field s 1)) (readable (fixvec Byte32) (raw_field s 2))).0 i.0 in
      record {
        header_deps = rw hash-size at (items-long Byte32 tt (omega (arith, hash-size)) (raw_field s 2) j.1);
        inputs = rw input-size at (items-long CellInput tt (omega (arith, input-size)) (raw_field s 3) i.1);
        outputs = dyn_item CellOutput (raw_field s 4) k.1;
        outputs_data = dyn_item Bytes (raw_field s 5) g.1;
      }

  pub present : Present s
  present = by_length s none-present some-present

  pub version_low : AllBytes s → (tx_at s).version < 2 ^ 32
  version_low b = word_low (raw_field s 0) (bytes_raw s 0 b)

-- ---- lists

pub every_append : (p : List ℕ → Bool) (xs ys : List (List ℕ)) → every p xs ≡ true → every p ys ≡ true → every p (xs ++ ys) ≡ true
unfolding every
every_append p [] ys a b = b
every_append p (x ∷ xs) ys a b =
    let c = (and-eq-true_iff (p x) (every p xs)).0 a in
    ap₂ ◌&&◌ c.0 (every_append p xs ys c.1 b)

pub every_span : (p : List ℕ → Bool) (f : ℕ → List ℕ) (i k : ℕ) → ((j : ℕ) → i ≤ j → j < i + k → p (f j) ≡ true) → every p (span f i k) ≡ true
unfolding every span
every_span p f i zero h = refl
every_span p f i (suc k) h = ap₂ ◌&&◌ (h i (omega arith) (omega arith)) (every_span p f (suc i) k (λ j a b. h j (omega arith) (omega arith)))

long-span : (n : ℕ) (f : ℕ → List ℕ) (i k : ℕ) → ((j : ℕ) → j < i + k → length (f j) ≡ n) → Long n (span f i k)
unfolding span
long-span n f i zero h = tt
long-span n f i (suc k) h = (h i (omega arith), long-span n f (suc i) k (λ j a. h j (omega arith)))

-- items within the list are its items
or_within : (s : List ℕ) (i k : ℕ) → k ≤ item_count s - i → span (item_or s) i k ≡ span (item_of s) i k
unfolding span item_or
or_within s i zero h = refl
or_within s i (suc k) h = ap₂ ◌∷◌ (rw (lt-ltb i (item_count s) (omega arith))) (or_within s (suc i) k (omega arith))

pub later-is : (s : List ℕ) (k : ℕ) → k ≡ length (items_of s) - 1 → items_after_first s k ≡ drop 1 (items_of s)
unfolding items_after_first
later-is s k e =
    let n : length (items_of s) ≡ item_count s = span-length (item_of s) 0 (item_count s) in
    let m : k ≡ item_count s - 1 = omega arith in
    or_within s 1 k (omega arith) ∙ ap (span (item_of s) 1) m ∙ sym (span-drop (item_of s) 1 0 (item_count s))

or_readable : (s : List ℕ) → ((i : ℕ) → i < item_count s → readable Bytes (item_of s i) ≡ true) → (i : ℕ) → readable Bytes (item_or s i) ≡ true
unfolding item_or
or_readable s h i = by (ltb i (item_count s)) refl
  where
    by : (b : Bool) → ltb i (item_count s) ≡ b → readable Bytes (cond b (item_of s i) (bytes_item [])) ≡ true
    by true e = h i (ltb-true i (item_count s) e)
    by false e = item-readable [] (omega arith)

pub later-outputs : (s : List ℕ) (k : ℕ) → k ≡ length (items_of s) - 1 → ((i : ℕ) → i < item_count s → readable CellOutput (item_of s i) ≡ true) → every (readable CellOutput) (items_after_first s k) ≡ true
unfolding items_after_first
later-outputs s k e h =
    let n : length (items_of s) ≡ item_count s = span-length (item_of s) 0 (item_count s) in
    ap (every (readable CellOutput)) (or_within s 1 k (omega arith)) ∙ every_span (readable CellOutput) (item_of s) 1 k (λ j a b. h j (omega arith))

pub later_data : (s : List ℕ) (k : ℕ) → ((i : ℕ) → i < item_count s → readable Bytes (item_of s i) ≡ true) → every (readable Bytes) (items_after_first s k) ≡ true
unfolding items_after_first
later_data s k h = every_span (readable Bytes) (item_or s) 1 k (λ j a b. or_readable s h j)

pub all_right : (P : List ℕ → Type 0) (xs ys : List (List ℕ)) → All P (xs ++ ys) → All P ys
all_right P [] ys h = h
all_right P (x ∷ xs) ys h = all_right P xs ys h.1

-- a last item, if there is one
pub last_every : (p : List ℕ → Bool) (n : ℕ) (x : List ℕ) → (length x < 2 ^ 32 → p x ≡ true) → All (λ (y : List ℕ). length y < 2 ^ 32) (if_any (if_positive n x)) → every p (if_any (if_positive n x)) ≡ true
unfolding if_any if_positive every
last_every p zero x h a = refl
last_every p (suc n) [] h a = refl
last_every p (suc n) (b ∷ s) h a = ap (λ (c : Bool). c && true) (h a.0)

-- ---- witnesses

mark_readable : readable Bytes placeholder ≡ true
unfolding placeholder
mark_readable = item-readable (join (bytes_item (replicate 65 0) ∷ [] ∷ [] ∷ [])) (let e : length (join (bytes_item (replicate 65 0) ∷ [] ∷ [] ∷ [])) ≡ 85 = unfold bytes_item in unfold join in unfold unwords in unfold offsets in unfold flatten in unfold to_le in refl in omega arith)

every_same : (p : List ℕ → Bool) (n : ℕ) (x : List ℕ) → p x ≡ true → every p (replicate n x) ≡ true
unfolding every
every_same p zero x h = refl
every_same p (suc n) x h = ap₂ ◌&&◌ h (every_same p n x h)

pub witnesses-readable : (m k : ℕ) → every (readable Bytes) (witness_list m k) ≡ true
unfolding witness_list every
witnesses-readable zero k = ap (λ (b : Bool). b && true) mark_readable
witnesses-readable (suc n) zero = ap (λ (b : Bool). b && true) mark_readable
witnesses-readable (suc n) (suc k) =
    ap₂ ◌&&◌ mark_readable (every_append (readable Bytes) (replicate n (bytes_item [])) (placeholder ∷ []) (every_same (readable Bytes) n (bytes_item []) (item-readable [] (omega arith))) (ap (λ (b : Bool). b && true) mark_readable))

-- ---- picked inputs

point-long : (s : List ℕ) → readable TokenCell s ≡ true → length (first_of s) ≡ 36
unfolding first_of count all_readable span fixed all_fixed
point-long s h =
    let a = ((and-eq-true_iff (has_items s 2) _).0 (sym (table-readable (OutPoint & Bytes & end) s) ∙ h)).1 in
    let b = ((and-eq-true_iff (readable OutPoint (field_of s 2 0)) _).0 a).0 in
    eqb-true _ _ (rw point-size at (sym (readable_fixed OutPoint tt (field_of s 2 0)) ∙ b))

input-long : (cells : List ℕ) (i : ℕ) → readable TokenCells cells ≡ true → i < item_count cells → length (picked cells i) ≡ 44
unfolding picked picked_input
input-long cells i h k =
    length-append (to_le 8 0) (first_of (item_of cells i)) ∙ ap₂ ◌+◌ (length-to_le 8 0) (point-long (item_of cells i) (dyn_item TokenCell cells h i k))

-- no more cells are taken than there are
taken-within : (wanted taken total : ℕ) (cells : List (List ℕ)) (p : Pick) → pick_from wanted taken total cells ≡ fine p → p.taken ≤ taken + length cells
unfolding pick_from enough_or
taken-within wanted taken total [] p e = by (leb wanted total) refl
  where
    by : (b : Bool) → leb wanted total ≡ b → p.taken ≤ taken + 0
    by true f = let q : record { taken = taken; change = total - wanted } ≡ p = fine_inj (rw f at e) in let t : taken ≡ p.taken = ap (λ (x : Pick). x.taken) q in omega arith
    by false f = absurd (never 9 [] p (rw f at e))
taken-within wanted taken total (cell ∷ cells) p e = by (leb wanted total) refl (λ sum g. taken-within wanted (taken + 1) sum cells p g)
  where
    by : (b : Bool) → leb wanted total ≡ b → ((sum : ℕ) → pick_from wanted (taken + 1) sum cells ≡ fine p → p.taken ≤ taken + 1 + length cells) → p.taken ≤ taken + suc (length cells)
    by true f later = let q : record { taken = taken; change = total - wanted } ≡ p = fine_inj (rw f at e) in let t : taken ≡ p.taken = ap (λ (x : Pick). x.taken) q in omega arith
    by false f later =
        let (sum, s, g) = bound-fine (plus_cell total cell) (λ sum. pick_from wanted (taken + 1) sum cells) p (rw f at e) in
        omega (arith, later sum g)

pub typed-within : (udt : List ℕ) (wanted : ℕ) (cells : List (List ℕ)) (p : Pick) → pick_typed udt wanted cells ≡ fine p → p.taken ≤ length cells
unfolding pick_typed
typed-within udt wanted cells p e = by (is_empty udt) refl
  where
    by : (b : Bool) → is_empty udt ≡ b → p.taken ≤ length cells
    by true f = let q : record { taken = 0; change = 0 } ≡ p = fine_inj (rw f at e) in let t : 0 ≡ p.taken = ap (λ (x : Pick). x.taken) q in omega arith
    by false f = let h : p.taken ≤ 0 + length cells = taken-within wanted 0 0 cells p (rw f at e) in omega arith

pub picked-long : (udt cells : List ℕ) (wanted : ℕ) (p : Pick) → readable TokenCells cells ≡ true → pick_typed udt wanted (items_of cells) ≡ fine p → Long 44 (span (picked cells) 0 p.taken)
picked-long udt cells wanted p h e =
    let n : length (items_of cells) ≡ item_count cells = span-length (item_of cells) 0 (item_count cells) in
    let t : p.taken ≤ length (items_of cells) = typed-within udt wanted (items_of cells) p e in
    long-span 44 (picked cells) 0 p.taken (λ j k. input-long cells j h (omega arith))
