-- A script and an output, which code tests by the words of their header: what each is in these words. Both have three fields.
use mathlib.Core.Path.{◌≡◌, refl, sym, ap, ap₂, ◌∙◌}
use Prim.Native.Nat.{ℕ, ◌-◌, ◌/◌, ◌≤◌, ◌<◌}
use mathlib.Core.List.{List}
use mathlib.Core.Bool.{Bool, true, ◌&&◌, false≢true}
use native.Mathlib.Decide.{dec_lt}
use native.Mathlib.Omega.{arith}
use borrow.Author.Tests.{eq-eqb, leb-true}
use lib.Dec.{eqb, leb}
use Rattle.std.proofs.lemmas.Bool.Decides.{nat_tests}
use lib.ListN.{length, drop, length-drop}
use lib.Seq.{length-take-le}
use Rattle.molecule.specs.Molecule.{readable, option}
use Rattle.molecule.specs.Layout.{part, word, start, has_items, field_of}
use Rattle.molecule.proofs.Offsets.{in_order, up_all, start_in, start-out, offsets-parts}
use Rattle.molecule.proofs.HeaderLaws.{offsets-has}
use Rattle.molecule.proofs.LayoutLaws.{part_none}
use Rattle.molecule.proofs.TestLaws.{both_ways, header_is, ordered_none, ordered_more, ordered_end, bytes_are, fix_short}
use Rattle.transaction.specs.Ckb.{Bytes, Script, CellOutput}
use Rattle.transaction.proofs.TableLaws.{script_is, output_is}

-- ---- a table of three fields

pub record Three (s : List ℕ) : Type 0 where
  pub room : 16 ≤ length s
  pub whole : word s 0 ≡ length s
  pub first : word s 1 ≡ 16
  pub second : 16 ≤ word s 2
  pub third : word s 2 ≤ word s 3
  pub last : word s 3 ≤ length s

length_part : (s : List ℕ) (a b : ℕ) → a ≤ b → b ≤ length s → length (part s a b) ≡ b - a
unfolding part
length_part s a b h l = length-take-le (b - a) (drop a s) (rw (length-drop a s) (omega arith))

module _ (s : List ℕ) where
  start_0 : start s 3 0 ≡ word s 1
  start_0 = sym (start_in s 3 0 (omega arith) refl)

  start_1 : start s 3 1 ≡ word s 2
  start_1 = sym (start_in s 3 1 (omega arith) refl)

  start_2 : start s 3 2 ≡ word s 3
  start_2 = sym (start_in s 3 2 (omega arith) refl)

  start_3 : start s 3 3 ≡ length s
  start_3 = sym (start-out s 3 3 (omega arith))

  field_0 : field_of s 3 0 ≡ part s (word s 1) (word s 2)
  unfolding field_of
  field_0 = ap₂ (part s) start_0 start_1

  field_1 : field_of s 3 1 ≡ part s (word s 2) (word s 3)
  unfolding field_of
  field_1 = ap₂ (part s) start_1 start_2

  field_2 : field_of s 3 2 ≡ part s (word s 3) (length s)
  unfolding field_of
  field_2 = ap₂ (part s) start_2 start_3

  three_are : has_items s 3 ≡ true → Three s
  unfolding in_order
  three_are h =
      let o = offsets-parts s 3 (offsets-has s 3 ∙ h) in
      let r : 3 < length s / 4 = o.room in
      let a : start s 3 0 ≤ start s 3 1 = leb-true _ _ (up_all (in_order s 3) 3 o.order 0 (omega arith)) in
      let b : start s 3 1 ≤ start s 3 2 = leb-true _ _ (up_all (in_order s 3) 3 o.order 1 (omega arith)) in
      let c : start s 3 2 ≤ start s 3 3 = leb-true _ _ (up_all (in_order s 3) 3 o.order 2 (omega arith)) in
      let f : start s 3 0 ≡ 16 = o.first in
      record {
        room = omega arith;
        whole = o.size;
        first = sym start_0 ∙ f;
        second = omega (arith, start_0, start_1);
        third = omega (arith, start_1, start_2);
        last = omega (arith, start_2, start_3);
      }

  three_have : Three s → has_items s 3 ≡ true
  three_have t =
      let g : 16 ≤ length s = t.room in
      let r : 3 < length s / 4 = omega arith in
      let p : start s 3 0 ≤ word s 2 = omega (arith, start_0, t.first, t.second) in
      sym (ordered_end (ordered_more (ordered_more (ordered_more (ordered_none s 3 (header_is s 3 r refl t.whole refl (start_0 ∙ t.first)) refl refl) (omega arith) (sym start_1) p) (omega arith) (sym start_2) t.third) (omega arith) (sym start_3) t.last) (omega arith))

  length_0 : Three s → length (field_of s 3 0) ≡ word s 2 - word s 1
  length_0 t = ap length field_0 ∙ length_part s (word s 1) (word s 2) (omega (arith, t.first, t.second)) (omega (arith, t.third, t.last))

  length_1 : Three s → length (field_of s 3 1) ≡ word s 3 - word s 2
  length_1 t = ap length field_1 ∙ length_part s (word s 2) (word s 3) t.third t.last

-- ---- a script

bytes-long : (f : List ℕ) → readable Bytes f ≡ true → 4 ≤ length f
bytes-long f h =
    elim (dec_lt (length f) 4) [
      | yes l ↦ absurd (false≢true (bytes_are f (fix_short f 1 l) ∙ h))
      | no l ↦ omega arith
    ]

abbrev script_words : List ℕ → Bool
script_words s = leb 53 (length s) && eqb (word s 0) (length s) && eqb (word s 1) 16 && eqb (word s 2) 48 && eqb (word s 3) 49 && readable Bytes (part s 49 (length s))

module _ (s : List ℕ) where
  script_tested : readable Script s ≡ true → script_words s ≡ true
  script_tested h =
      let a : (has_items s 3 && eqb (length (field_of s 3 0)) 32 && eqb (length (field_of s 3 1)) 1 && readable Bytes (field_of s 3 2)) ≡ true = sym (script_is s) ∙ h in
      let b : (has_items s 3 ≡ true) × (length (field_of s 3 0) ≡ 32) × (length (field_of s 3 1) ≡ 1) × (readable Bytes (field_of s 3 2) ≡ true) = grind (arith, nat_tests) in
      let t = three_are s b.0 in
      let w2 : word s 2 ≡ 48 = omega (arith, length_0 s t, t.first, t.second) in
      let w3 : word s 3 ≡ 49 = omega (arith, length_1 s t, w2, t.third) in
      let f2 : field_of s 3 2 ≡ part s 49 (length s) = field_2 s ∙ ap (λ (a : ℕ). part s a (length s)) w3 in
      let y : 4 ≤ length s - word s 3 = rw (← length_part s (word s 3) (length s) t.last (omega arith), ← field_2 s) (bytes-long (field_of s 3 2) b.3) in
      let r : readable Bytes (part s 49 (length s)) ≡ true = rw f2 at b.3 in
      grind (arith, nat_tests)

  script_built : script_words s ≡ true → readable Script s ≡ true
  script_built h =
      let b : (53 ≤ length s) × (word s 0 ≡ length s) × (word s 1 ≡ 16) × (word s 2 ≡ 48) × (word s 3 ≡ 49) × (readable Bytes (part s 49 (length s)) ≡ true) = grind (arith, nat_tests) in
      let t : Three s = record { room = omega arith; whole = b.1; first = b.2; second = omega arith; third = omega arith; last = omega arith } in
      let l0 : length (field_of s 3 0) ≡ 32 = omega (arith, length_0 s t) in
      let l1 : length (field_of s 3 1) ≡ 1 = omega (arith, length_1 s t) in
      let f2 : field_of s 3 2 ≡ part s 49 (length s) = field_2 s ∙ ap (λ (a : ℕ). part s a (length s)) b.4 in
      script_is s ∙ simp (three_have s t, eq-eqb _ _ l0, eq-eqb _ _ l1, f2, b.5)

  pub script-by_words : readable Script s ≡ script_words s
  script-by_words = both_ways _ _ script_tested script_built

-- ---- an output

abbrev output_words : List ℕ → Bool
output_words s =
    leb 24 (length s) && eqb (word s 0) (length s) && eqb (word s 1) 16 && eqb (word s 2) 24 && leb (word s 3) (length s)
    && readable Script (part s 24 (word s 3))
    && readable (option Script) (part s (word s 3) (length s))

module _ (s : List ℕ) where
  output_tested : readable CellOutput s ≡ true → output_words s ≡ true
  output_tested h =
      let a : (has_items s 3 && eqb (length (field_of s 3 0)) 8 && readable Script (field_of s 3 1) && readable (option Script) (field_of s 3 2)) ≡ true = sym (output_is s) ∙ h in
      let b : (has_items s 3 ≡ true) × (length (field_of s 3 0) ≡ 8) × (readable Script (field_of s 3 1) ≡ true) × (readable (option Script) (field_of s 3 2) ≡ true) = grind (arith, nat_tests) in
      let t = three_are s b.0 in
      let w2 : word s 2 ≡ 24 = omega (arith, length_0 s t, t.first, t.second) in
      let r : readable Script (part s 24 (word s 3)) ≡ true = rw (field_1 s, w2) at b.2 in
      let q : readable (option Script) (part s (word s 3) (length s)) ≡ true = rw (field_2 s) at b.3 in
      let l : 24 ≤ length s = omega (arith, w2, t.third, t.last) in
      grind (arith, nat_tests, t.whole, t.first, t.last)

  output_built : output_words s ≡ true → readable CellOutput s ≡ true
  output_built h =
      let b : (24 ≤ length s) × (word s 0 ≡ length s) × (word s 1 ≡ 16) × (word s 2 ≡ 24) × (word s 3 ≤ length s) × (readable Script (part s 24 (word s 3)) ≡ true) × (readable (option Script) (part s (word s 3) (length s)) ≡ true) = grind (arith, nat_tests) in
      let n : 53 ≤ length (part s 24 (word s 3)) = let k = sym (script-by_words (part s 24 (word s 3))) ∙ b.5 in grind (arith, nat_tests) in
      let low : 24 ≤ word s 3 = elim (dec_lt (word s 3) 24) [
        | yes m ↦ let z : length (part s 24 (word s 3)) ≡ 0 = ap length (part_none s 24 (word s 3) (omega arith)) in omega arith
        | no m ↦ omega arith
      ] in
      let t : Three s = record { room = omega arith; whole = b.1; first = b.2; second = omega arith; third = omega arith; last = b.4 } in
      let l0 : length (field_of s 3 0) ≡ 8 = omega (arith, length_0 s t) in
      let f1 : field_of s 3 1 ≡ part s 24 (word s 3) = field_1 s ∙ ap (λ (a : ℕ). part s a (word s 3)) b.3 in
      output_is s ∙ simp (three_have s t, eq-eqb _ _ l0, f1, field_2 s, b.5, b.6)

  pub output-by_words : readable CellOutput s ≡ output_words s
  output-by_words = both_ways _ _ output_tested output_built
