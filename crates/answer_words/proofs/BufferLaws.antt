-- Bytes at the start of a lent buffer, and the verdict line: one law for each way out.
use Rattle.std.proofs.Common.{Result, Ok, Err}
use mathlib.Core.Path.{◌≡◌, refl, sym, ap, ap₂, ◌∙◌}
use Prim.Native.Nat.{ℕ, ◌≤◌, ◌<◌}
use mathlib.Core.Bool.{Bool, true, false, and-false}
use mathlib.Core.List.{List, []}
use native.Mathlib.Nat.{zero-add}
use native.Mathlib.Omega.{arith}
use borrow.Author.Tests.{le-leb, lt-leb, le-ltb, lt-ltb, ltb-false}
use lib.ListN.{length, take, drop}
use lib.Seq.{take_at}
use lib.Dec.{ltb}
use Rattle.error.specs.declared.Refusal.{Refusal}
use Rattle.error.specs.Refusal.{number, values}
use Rattle.molecule.specs.Molecule.{readable}
use Rattle.molecule.specs.Write.{splice, put_at, put_end}
use Rattle.molecule.proofs.WriteLaws.{put_yes, end_yes, splice_zero}
use Rattle.transaction.specs.Ckb.{Transaction}
use Rattle.transaction_lists.specs.Lists.{list_in, item_in}
use Rattle.transaction_lists.specs.Found.{count_found}
use Rattle.transaction_lists.proofs.ListLaws.{none-beyond}
use Rattle.error.specs.Outcome.{Outcome, fine, refused, told, answer_by, check, check_with, ◌>>=◌, ◌>>◌}
use Rattle.error.proofs.Passed.{is_true, never, fine_inj, check-fine}
use Rattle.transaction_writer.specs.Written.{fits, in_room, written}
use Rattle.words.specs.Words.{in_words, writing}
use Rattle.words.proofs.WordLaws.{wrote}
use Rattle.answer_words.specs.Answers.{count_words}
use Rattle.answer_words.specs.Buffers.{item_found}

-- ---- bytes

module _ (s out : List ℕ) where
  no_fit : fits (length s) (length out) ≡ false → (told (Err Refusal.BufferTooShort), out) ≡ written (fine s) out
  unfolding in_room answer_by check check_with ◌>>=◌ ◌>>◌ number values
  no_fit f = rw f

  pub first-long : 133116 < length s → (told (Err Refusal.BufferTooShort), out) ≡ written (fine s) out
  unfolding fits
  first-long h = no_fit (rw (lt-leb _ _ h))

  pub first_short : length out < length s → (told (Err Refusal.BufferTooShort), out) ≡ written (fine s) out
  unfolding fits
  first_short h = no_fit (simp (lt-leb _ _ h, and-false))

  pub first_put : {after : List ℕ} {n : ℕ} → length s ≤ 133116 → length s ≤ length out → after ≡ put_at out 0 s → n ≡ put_end out 0 s → (told (Ok n), after) ≡ written (fine s) out
  unfolding in_room answer_by check check_with ◌>>=◌ ◌>>◌
  first_put a b e f = rw fit (ap₂ (λ (k : ℕ) (l : List ℕ). (fine k, l)) (f ∙ end_yes out 0 s (omega arith) ∙ zero-add _) (e ∙ put_yes out 0 s (omega arith) ∙ splice_zero out s))
    where
      fit : fits (length s) (length out) ≡ true
      fit = unfold fits in rw (le-leb _ _ a, le-leb _ _ b)

-- ---- an item

-- a refusal of another answer
abbrev again : Outcome ℕ → Outcome (List ℕ)
again (fine n) = fine []
again (refused n l) = refused n l

module _ (tx : List ℕ) (list i : ℕ) where
  -- where there is no number of items, there is no item, for the same reason
  uncounted : (n : ℕ) (l : List ℕ) → count_found tx list ≡ refused n l → item_found tx list i ≡ refused n l
  unfolding count_found item_found check check_with ◌>>◌
  uncounted n l e = by (readable Transaction tx) refl (ltb list 6) refl
    where
      by : (b : Bool) → readable Transaction tx ≡ b → (c : Bool) → ltb list 6 ≡ c → item_found tx list i ≡ refused n l
      by false eb c ec = rw eb (ap again (rw eb at e))
      by true eb false ec = rw (eb, none-beyond tx list (ltb-false list 6 ec), le-ltb i 0 (omega arith)) (ap again (rw (eb, ec) at e))
      by true eb true ec = absurd (never n l (length (list_in tx list)) (sym (rw (eb, ec) at e)))

  module _ (out : List ℕ) {x : Result ℕ Refusal} (e : told x ≡ count_found tx list) where
    pub item_uncounted : {why : Refusal} → x ≡ Err why → (told (Err why), out) ≡ written (item_found tx list i) out
    unfolding in_room answer_by check check_with ◌>>=◌ ◌>>◌
    item_uncounted {why} ex = rw (uncounted (number why) (values why) (rw ex at (sym e)))

    module _ {n : ℕ} (ex : x ≡ Ok n) where
      counted : fine n ≡ count_found tx list
      counted = rw ex at e

      reads : readable Transaction tx ≡ true
      unfolding count_found
      reads = is_true _ (check-fine 1 (readable Transaction tx) _ n (sym counted)).0

      is-count : length (list_in tx list) ≡ n
      unfolding count_found
      is-count =
          let e₁ = (check-fine 1 (readable Transaction tx) _ n (sym counted)).1 in
          fine_inj (check-fine 3 (ltb list 6) _ n e₁).1

      pub item-none : n ≤ i → (told (Err Refusal.LentBytesUnreadable), out) ≡ written (item_found tx list i) out
      unfolding item_found in_room answer_by check check_with ◌>>=◌ ◌>>◌ number values
      item-none k = rw (reads, is-count, le-ltb i n k)

      pub item_put : {s after : List ℕ} {o : Outcome ℕ} → i < n → s ≡ item_in tx list i → (o, after) ≡ written (fine s) out → (o, after) ≡ written (item_found tx list i) out
      unfolding item_found in_room answer_by check check_with ◌>>=◌ ◌>>◌
      item_put k es h = h ∙ rw (es, reads, is-count, lt-ltb i n k)

-- ---- the verdict line

pub line-told : (line zeros out words : List ℕ) {made after : List ℕ} {n : ℕ} {o : Outcome ℕ} {r : ℕ × List ℕ} → made ≡ splice zeros 0 line → n ≡ length line
    → (o, after) ≡ written (fine (take n made)) out → r ≡ in_words count_words o words → (r, after) ≡ writing count_words (written (fine line) out) words
line-told line zeros out words {n = n} e f h k =
    wrote count_words _ words (h ∙ rw (e, splice_zero zeros line, take_at line (drop (length line) zeros) n (sym f))) k
