-- Laws of specs/Tx.antt, one for each way out of the accessor that computes it.
use mathlib.Core.Path.{◌≡◌, ap, ◌∙◌}
use Prim.Native.Nat.{ℕ, ◌+◌, ◌^◌, ◌<◌}
use native.Mathlib.Omega.{arith}
use mir.Syntax.{w64}
use mir.Val.{Fits}
use mathlib.Core.List.{List, []}
use lib.ListN.{get_or}
use Rattle.arithmetic.specs.LittleEndian.{AllBytes, u32_at, u64_at}
use Rattle.units.specs.declared.Shannons.{Shannons}
use Rattle.units.specs.Units.{in_shannons, shannon_count}
use Rattle.molecule.specs.Layout.{part, inside, field_of, field_start, item_count, item_of, item_start, fix_count, fix_item, fix_start, content, content_start, entry_of, entry_start}
use Rattle.molecule.proofs.LayoutLaws.{inside-twice, bytes_field, no_field}
use Rattle.transaction.specs.Tx.{raw_field, raw_start, witnesses_of, args_of, capacity_of, lock_of, type_of, previous_output_of, first_of, data_of}

-- ---- a field of the raw transaction

module _ (s : List ℕ) (i : ℕ) {raw : List ℕ} (e : raw ≡ field_of s 2 0) where
  pub raw_field_lem : {f : List ℕ} → f ≡ field_of raw 6 i → f ≡ raw_field s i
  unfolding raw_field
  raw_field_lem h = rw (← e) h

  pub raw_place : (p : ℕ × ℕ) {q r : ℕ × ℕ} → q ≡ inside p (field_start s 2 0) → r ≡ inside q (field_start raw 6 i) → r ≡ inside p (raw_start s i)
  unfolding raw_start
  raw_place p g h = inside-twice p _ _ g (rw e at h)

pub bytes_raw : (s : List ℕ) (i : ℕ) → AllBytes s → AllBytes (raw_field s i)
unfolding raw_field
bytes_raw s i b = bytes_field (field_of s 2 0) 6 i (bytes_field s 2 0 b)

-- nothing has no fields
pub no_raw : (i : ℕ) → raw_field [] i ≡ []
unfolding raw_field
no_raw i = ap (λ (f : List ℕ). field_of f 6 i) (no_field 2 0) ∙ no_field 6 i

-- ---- a number or an item of a list g, which f is

module _ (g : List ℕ) {f : List ℕ} (e : f ≡ g) where
  pub u32_of : {r : ℕ} → r ≡ u32_at f 0 → r ≡ u32_at g 0
  u32_of h = rw e at h

  pub fix_count-of : {r : ℕ} → r ≡ fix_count f → r ≡ fix_count g
  fix_count-of h = rw e at h

  pub count_of : {r : ℕ} → r ≡ item_count f → r ≡ item_count g
  count_of h = rw e at h

  pub fix_item-of : (k j : ℕ) {x : List ℕ} → x ≡ fix_item f k j → x ≡ fix_item g k j
  fix_item-of k j h = rw e at h

  pub item-of : (j : ℕ) {x : List ℕ} → x ≡ item_of f j → x ≡ item_of g j
  item-of j h = rw e at h

  pub entry-of : (j : ℕ) {x : List ℕ} → x ≡ entry_of f j → x ≡ entry_of g j
  entry-of j h = rw e at h

  module _ (p : ℕ × ℕ) (a : ℕ) {q r : ℕ × ℕ} (d : q ≡ inside p a) where
    pub fix_item-place : (k j : ℕ) → r ≡ inside q (fix_start f k j) → r ≡ inside p (a + fix_start g k j)
    fix_item-place k j h = inside-twice p _ _ d (rw e at h)

    pub item-of-place : (j : ℕ) → r ≡ inside q (item_start f j) → r ≡ inside p (a + item_start g j)
    item-of-place j h = inside-twice p _ _ d (rw e at h)

    pub entry-of-place : (j : ℕ) → r ≡ inside q (entry_start f j) → r ≡ inside p (a + entry_start g j)
    entry-of-place j h = inside-twice p _ _ d (rw e at h)

-- a byte of the list, and what it holds as a fixvec of bytes
module _ (g : List ℕ) {f : List ℕ} (e : f ≡ g) where
  pub byte_of : {r : ℕ} → r ≡ get_or f 0 0 → r ≡ get_or g 0 0
  byte_of h = rw e at h

  pub content-place : (p : ℕ × ℕ) (a : ℕ) {q r : ℕ × ℕ} → q ≡ inside p a → r ≡ inside q (content_start f) → r ≡ inside p (a + content_start g)
  content-place p a d h = inside-twice p _ _ d (rw e at h)

pub witnesses_are : (s : List ℕ) {f : List ℕ} → f ≡ field_of s 2 1 → f ≡ witnesses_of s
unfolding witnesses_of
witnesses_are s h = h

-- ---- a script

module _ (s : List ℕ) where
  pub args_are : {f x : List ℕ} → f ≡ field_of s 3 2 → x ≡ content f → x ≡ args_of s
  unfolding args_of
  args_are e h = rw e at h

  -- ---- an output

  pub capacity-below : {x : ℕ} {r : Shannons} → Fits w64 x → r ≡ in_shannons x → shannon_count r < 2 ^ 64
  capacity-below {x} {r} h e = let k : shannon_count r ≡ x = ap shannon_count e in omega (arith, h.fits)

  pub capacity-is : {f : List ℕ} {x y : ℕ} {r : Shannons} → f ≡ field_of s 3 0 → x ≡ u64_at f 0 → y ≡ x → r ≡ in_shannons y → r ≡ in_shannons (capacity_of s)
  unfolding capacity_of
  capacity-is e g k h = h ∙ ap in_shannons (k ∙ rw e at g)

  pub lock-is : {f : List ℕ} → f ≡ field_of s 3 1 → f ≡ lock_of s
  unfolding lock_of
  lock-is h = h

  pub type-is : {f : List ℕ} → f ≡ field_of s 3 2 → f ≡ type_of s
  unfolding type_of
  type-is h = h

  -- ---- parts of sized items

  pub previous_is : {f : List ℕ} → f ≡ part s 8 44 → f ≡ previous_output_of s
  unfolding previous_output_of
  previous_is h = h

  -- ---- a record, a token cell

  pub first-is : {f : List ℕ} → f ≡ field_of s 2 0 → f ≡ first_of s
  unfolding first_of
  first-is h = h

  pub data_is : {f x : List ℕ} → f ≡ field_of s 2 1 → x ≡ content f → x ≡ data_of s
  unfolding data_of
  data_is e h = rw e at h
