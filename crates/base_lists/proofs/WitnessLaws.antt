-- The witnesses of a base transaction, sized and written.
use mathlib.Core.Path.{◌≡◌, refl, sym, ap, ap₂, ◌∙◌}
use Prim.Native.Nat.{ℕ, zero, suc, min}
use mathlib.Core.List.{List, [], ◌∷◌, ◌++◌, flatten, append-nil}
use native.Mathlib.Omega.{arith}
use borrow.Author.Tests.{le-ltb}
use Rattle.std.specs.Prelude.{Some, None}
use Rattle.std.proofs.lemmas.Bool.Decides.{nat_tests}
use lib.ListN.{length, replicate}
use Rattle.arithmetic.specs.LittleEndian.{to_le, num_at}
use Rattle.molecule.specs.Items.{join, unwords, offsets}
use Rattle.molecule.specs.Layout.{span, word, item_count}
use Rattle.list_writer.specs.ListWriter.{bytes_item, item_or, items_after_first, if_any, put_list, put_list_end}
use Rattle.list_writer.specs.Around.{around, list_size}
use Rattle.list_writer.proofs.HeadLaws.{around-length}
use Rattle.base_lists.specs.BaseLists.{placeholder, witness_list}
use Rattle.base_lists.specs.Parts.{between}

-- the constant of the code
pub mark_bytes : 85 ∷ 0 ∷ 0 ∷ 0 ∷ 85 ∷ 0 ∷ 0 ∷ 0 ∷ 16 ∷ 0 ∷ 0 ∷ 0 ∷ 85 ∷ 0 ∷ 0 ∷ 0 ∷ 85 ∷ 0 ∷ 0 ∷ 0 ∷ 65 ∷ 0 ∷ 0 ∷ 0 ∷ replicate 65 0 ≡ placeholder
unfolding placeholder bytes_item join unwords offsets flatten to_le
mark_bytes = refl

-- with its length before it
mark_length : length placeholder ≡ 89
unfolding placeholder bytes_item join unwords offsets flatten to_le
mark_length = refl

-- ---- the list: empty witnesses are the later items of no bytes

empty-item : (i : ℕ) → item_or [] i ≡ bytes_item []
unfolding item_or
empty-item i =
    let e : item_count [] ≡ 0 = unfold item_count in unfold word in unfold num_at in refl in
    rw (e, le-ltb i 0 (omega arith))

empty-items : (b n : ℕ) → span (item_or []) b n ≡ replicate n (bytes_item [])
unfolding span
empty-items b zero = refl
empty-items b (suc n) = ap₂ ◌∷◌ (empty-item b) (empty-items (suc b) n)

mark_any : if_any placeholder ≡ placeholder ∷ []
unfolding if_any placeholder bytes_item join unwords offsets flatten to_le
mark_any = refl

two_marks : (n : ℕ) → join (placeholder ∷ replicate n (bytes_item []) ++ (placeholder ∷ [])) ≡ around placeholder [] n placeholder
unfolding around items_after_first
two_marks n = ap₂ (λ (xs ys : List (List ℕ)). join (placeholder ∷ xs ++ ys)) (sym (empty-items 1 n)) (sym mark_any)

between_none : (n : ℕ) → between n 0 ≡ None
unfolding between
between_none n = grind (arith, nat_tests)

between_some : (n q : ℕ) → between (suc n) (suc q) ≡ Some n
unfolding between
between_some n q = grind (arith, nat_tests)

one_mark : (m q : ℕ) → None ≡ between m q → join (witness_list m q) ≡ around placeholder [] 0 []
unfolding witness_list around items_after_first if_any span
one_mark zero q h = refl
one_mark (suc n) zero h = refl
one_mark (suc n) (suc q) h = cc (between_some n q)

second_mark : (m q k : ℕ) → Some k ≡ between m q → join (witness_list m q) ≡ around placeholder [] k placeholder
unfolding witness_list
second_mark zero q k h = let e : between zero q ≡ None = unfold between in refl in cc
second_mark (suc n) zero k h = cc (between_none (suc n))
second_mark (suc n) (suc q) k h = let e : n ≡ k = cc (between_some n q) in rw e (two_marks k)

-- ---- sized and written

module _ (m q : ℕ) where
  abbrev whole : List ℕ
  whole = join (witness_list m q)

  module _ (h : None ≡ between m q) where
    pub one_cap : {r : ℕ} → r ≡ min (list_size 89 [] 0 0) 133117 → r ≡ min (length whole) 133117
    one_cap e =
        e ∙ ap (λ (n : ℕ). min n 133117)
        (sym (ap length (one_mark m q h) ∙ around-length placeholder [] 0 [] ∙ ap (λ (n : ℕ). list_size n [] 0 0) mark_length))

    module _ (out : List ℕ) (at : ℕ) {mark : List ℕ} (em : mark ≡ placeholder) where
      one : around (mark ++ []) [] 0 [] ≡ whole
      one = ap (λ (l : List ℕ). around l [] 0 []) (append-nil mark ∙ em) ∙ sym (one_mark m q h)

      pub one_put : {after : List ℕ} → after ≡ put_list out at (around (mark ++ []) [] 0 []) → after ≡ put_list out at whole
      one_put e = e ∙ ap (put_list out at) one

      pub one_end : {next : ℕ} → next ≡ put_list_end out at (around (mark ++ []) [] 0 []) → next ≡ put_list_end out at whole
      one_end e = e ∙ ap (put_list_end out at) one

  module _ {k : ℕ} (h : Some k ≡ between m q) where
    pub two_cap : {r : ℕ} → r ≡ min (list_size 89 [] k 89) 133117 → r ≡ min (length whole) 133117
    two_cap e =
        e ∙ ap (λ (n : ℕ). min n 133117)
        (sym (ap length (second_mark m q k h) ∙ around-length placeholder [] k placeholder ∙ ap (λ (n : ℕ). list_size n [] k n) mark_length))

    module _ (out : List ℕ) (at : ℕ) {mark : List ℕ} (em : mark ≡ placeholder) where
      two : around (mark ++ []) [] k (mark ++ []) ≡ whole
      two = ap (λ (l : List ℕ). around l [] k l) (append-nil mark ∙ em) ∙ sym (second_mark m q k h)

      pub two_put : {after : List ℕ} → after ≡ put_list out at (around (mark ++ []) [] k (mark ++ [])) → after ≡ put_list out at whole
      two_put e = e ∙ ap (put_list out at) two

      pub two-end : {next : ℕ} → next ≡ put_list_end out at (around (mark ++ []) [] k (mark ++ [])) → next ≡ put_list_end out at whole
      two-end e = e ∙ ap (put_list_end out at) two
