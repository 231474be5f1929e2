-- Items of a case file: what the functions that find them answer.
use Rattle.std.proofs.Common.{◌≡◌, refl, sym, ℕ, zero, suc, ◌+◌, ◌-◌, ◌/◌, ◌%◌, ◌≤◌, ◌<◌, Bool, true, false, List, [], ◌∷◌, arith, length, get_or}
use Rattle.std.specs.Prelude.{◌↔◌, IsTrue, EachIndex, slice_index}
use Rattle.std.proofs.Math.Option.{Option, none, some}
use borrow.Author.Tests.{le-leb, lt-leb, eq-eqb, eqb-true}
use lib.Dec.{leb, eqb}
use lib.ListN.{length-take, length-drop, drop_of_length-le}
use lib.Seq.{take-nil}
use Rattle.arithmetic.specs.LittleEndian.{u32_at}
use Rattle.molecule.specs.Partial.{only, pick}
use Rattle.molecule.specs.Layout.{part}
use Rattle.molecule.proofs.TestLaws.{both_ways}
use Rattle.case_file.specs.CaseFile.{kind_at, length_at, body_end, item_end, body_at, all_zero, item_at}

-- ---- words

pub kind_is : (s : List ℕ) (at : ℕ) → u32_at s at / 268435456 ≡ kind_at s at
unfolding kind_at
kind_is s at = refl

pub length-is : (s : List ℕ) (at : ℕ) → u32_at s at % 268435456 ≡ length_at s at
unfolding length_at
length-is s at = refl

-- ---- bodies

part_past : (s : List ℕ) (from to : ℕ) → length s ≤ from → part s from to ≡ []
unfolding part
part_past s from to h = rw (drop_of_length-le s h) (take-nil (to - from))

pub body_past : (s : List ℕ) (at : ℕ) → length s < at → body_at s at ≡ []
body_past s at h = part_past s (at + 4) (body_end s at) (omega arith)

-- ---- padding

zeros-each : (s : List ℕ) → all_zero s ≡ true → (k : ℕ) → k < length s → get_or s k 0 ≡ 0
unfolding all_zero pick
zeros-each [] e k h = absurd (omega arith)
zeros-each (b ∷ s) e zero h = first (eqb b 0) refl e
  where
    first : (t : Bool) → eqb b 0 ≡ t → pick t (all_zero s) false ≡ true → b ≡ 0
    first true g e = eqb-true b 0 g
    first false g e = cc
zeros-each (b ∷ s) e (suc k) h = zeros-each s (rest (eqb b 0) e) k (omega arith)
  where
    rest : (t : Bool) → pick t (all_zero s) false ≡ true → all_zero s ≡ true
    rest true e = e
    rest false e = cc

each-zeros : (s : List ℕ) → ((k : ℕ) → k < length s → get_or s k 0 ≡ 0) → all_zero s ≡ true
unfolding all_zero pick
each-zeros [] h = refl
each-zeros (b ∷ s) h = rw (eq-eqb b 0 (h 0 (omega arith))) (each-zeros s (λ k l. h (suc k) (omega arith)))

pub zeros-is : (s : List ℕ) (b : Bool) → (IsTrue b ↔ EachIndex s (λ k. slice_index s k ≡ 0)) → b ≡ all_zero s
zeros-is s b h = both_ways b (all_zero s) (λ e. each-zeros s (h.0 e)) (λ e. h.1 (zeros-each s e))

-- ---- whether an item is there

only_none : {A : Type 0} (b : Bool) → ◌≡◌ {A = Option A} (only b none) none
unfolding only
only_none true = refl
only_none false = refl

module _ (s : List ℕ) (kind at : ℕ) where
  pub no_word : length s < at + 4 → item_at s kind at ≡ none
  unfolding item_at only
  no_word h = rw (lt-leb (at + 4) (length s) h)

  pub no_kind : eqb (kind_at s at) kind ≡ false → item_at s kind at ≡ none
  unfolding item_at only
  no_kind h = rw h (only_none (leb (at + 4) (length s)))

  pub no_room : length s < item_end s at → item_at s kind at ≡ none
  unfolding item_at only
  no_room h = rw (lt-leb (item_end s at) (length s) h, only_none (eqb (kind_at s at) kind)) (only_none (leb (at + 4) (length s)))

  pub no_zeros : all_zero (part s (body_end s at) (item_end s at)) ≡ false → item_at s kind at ≡ none
  unfolding item_at only
  no_zeros h = rw (h, only_none (leb (item_end s at) (length s)), only_none (eqb (kind_at s at) kind)) (only_none (leb (at + 4) (length s)))

  pub item_found_lem : at + 4 ≤ length s → eqb (kind_at s at) kind ≡ true → item_end s at ≤ length s → all_zero (part s (body_end s at) (item_end s at)) ≡ true
      → item_at s kind at ≡ some (record { got = body_at s at; next = item_end s at })
  unfolding item_at only
  item_found_lem h₁ h₂ h₃ h₄ = rw (le-leb (at + 4) (length s) h₁, h₂, le-leb (item_end s at) (length s) h₃, h₄)
