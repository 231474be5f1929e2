-- A string that stands at a place of another: what is read at the place is read of the string.
use mathlib.Core.Path.{◌≡◌, refl, sym, ap, ◌∙◌}
use Prim.Native.Nat.{ℕ, ◌+◌, ◌-◌, ◌*◌, ◌≤◌, ◌<◌}
use mathlib.Core.List.{List, [], ◌++◌, append_assoc, append-nil}
use native.Mathlib.Omega.{arith}
use lib.ListN.{length, take, drop, length-take, length-drop, take-append-drop, length-append}
use lib.Seq.{take-append_seam, take-append-le, drop-append-le, drop-drop}
use Rattle.arithmetic.specs.LittleEndian.{le, u32_at}
use Rattle.arithmetic.proofs.LittleEndianLaws.{num_some}
use Rattle.molecule.specs.Layout.{part, part_start, word, start, field_of, field_start}
use Rattle.molecule.proofs.Offsets.{start_in}
use Rattle.molecule.proofs.HeaderLaws.{word-is}
use Rattle.reader.specs.Places.{table_at, table_start, fixvec_at, fixvec_start, field_at}

pub record Stands (f s : List ℕ) (at : ℕ) : Type 0 where
  pub rest : List ℕ
  pub there : drop at s ≡ f ++ rest

pub stands-whole : (s : List ℕ) → Stands s s 0
stands-whole s = record { rest = []; there = sym (append-nil s) }

module _ (f s : List ℕ) (at : ℕ) (h : Stands f s at) (four : 4 ≤ length f) where
  pub stands-room : at + length f ≤ length s
  stands-room = omega (arith, length-drop at s, ap length h.there, length-append f h.rest)

  pub stands-number : u32_at s at ≡ word f 0
  stands-number =
      let room : at + 4 ≤ length s = omega (arith, stands-room) in
      num_some 4 s at room ∙ ap (λ (l : List ℕ). le (take 4 l)) h.there ∙ ap le (take-append-le 4 f h.rest four) ∙ word-is f 0 (omega arith)

  stands-part : (k : ℕ) → k ≡ length f → part s at (at + k) ≡ f
  unfolding part
  stands-part k e =
      let z : at + k - at ≡ length f = omega arith in
      ap (λ (n : ℕ). take n (drop at s)) z ∙ ap (take (length f)) h.there ∙ take-append_seam f h.rest

  stands-start : (k : ℕ) → k ≡ length f → part_start s at (at + k) ≡ at
  unfolding part_start
  stands-start k e = omega (arith, stands-room)

  -- a table or dynvec
  module _ (w : word f 0 ≡ length f) where
    pub stands-table : table_at s at ≡ f
    unfolding table_at
    stands-table = stands-part _ (stands-number ∙ w)

    pub stands-table-start : table_start s at ≡ at
    unfolding table_start
    stands-table-start = stands-start _ (stands-number ∙ w)

  -- a fixvec
  module _ (k : ℕ) (w : length f ≡ 4 + k * word f 0) where
    pub stands-fixvec : fixvec_at s at k ≡ f
    unfolding fixvec_at
    stands-fixvec = stands-part _ (ap (λ (n : ℕ). 4 + k * n) stands-number ∙ sym w)

    pub stands-fixvec-start : fixvec_start s at k ≡ at
    unfolding fixvec_start
    stands-fixvec-start = stands-start _ (ap (λ (n : ℕ). 4 + k * n) stands-number ∙ sym w)

-- a part of f
stands_in : (f s : List ℕ) (at a b : ℕ) → Stands f s at → a ≤ length f → Stands (part f a b) s (at + a)
unfolding part
stands_in f s at a b h l =
    let x : List ℕ = drop a f in
    record {
      rest = drop (b - a) x ++ h.rest;
      there =
          sym (drop-drop a at s)
          ∙ ap (drop a) h.there
          ∙ drop-append-le a f h.rest l
          ∙ ap (λ (l : List ℕ). l ++ h.rest) (sym (take-append-drop (b - a) x))
          ∙ append_assoc (take (b - a) x) (drop (b - a) x) h.rest;
    }

-- a field of a table
module _ (t s : List ℕ) (at : ℕ) (h : Stands t s at) (four : 4 ≤ length t) (w : word t 0 ≡ length t) (n i : ℕ) (l : i < n) (some : 4 ≤ length (field_of t n i)) where
  first : (a b : ℕ) → 4 ≤ length (part t a b) → (a + 4 ≤ length t) × (a + 4 ≤ b)
  unfolding part
  first a b k = (omega (arith, length-take (b - a) (drop a t), length-drop a t), omega (arith, length-take (b - a) (drop a t), length-drop a t))

  begins : (start t n i + 4 ≤ length t) × (field_start t n i ≡ start t n i)
  unfolding field_of field_start part_start
  begins = let e = first (start t n i) (start t n (i + 1)) some in (e.0, omega (arith, e.0, e.1))

  pub field_at_lem : field_at s at i ≡ at + field_start t n i
  unfolding field_at
  field_at_lem =
      let e : word t (i + 1) ≡ start t n i = start_in t n i l refl in
      rw (stands-table t s at h four w) (omega (arith, begins.0, begins.1, stands-room t s at h four))

  pub field_stands : Stands (field_of t n i) s (at + field_start t n i)
  unfolding field_of
  field_stands =
      rw begins.1 (stands_in t s at (start t n i) (start t n (i + 1)) h (omega (arith, begins.0)))
