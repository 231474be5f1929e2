-- The data of a base transaction's outputs, sized and written.
use Rattle.std.proofs.Common.{nat_eq}
use mathlib.Core.Path.{◌≡◌, refl, sym, ap, ap₂, ◌∙◌}
use Prim.Native.Nat.{ℕ, min}
use mathlib.Core.Bool.{Bool, true, false, cond}
use mathlib.Core.List.{List, [], ◌∷◌, ◌++◌, append-nil}
use borrow.Author.Tests.{eqb-true, eqb-false}
use lib.ListN.{length, get_or, length-append}
use Rattle.arithmetic.specs.LittleEndian.{to_le}
use Rattle.std.specs.Int.{w128, to_le_bytes}
use Rattle.arithmetic.proofs.LittleEndianLaws.{length-to_le, bytes-of}
use Rattle.molecule.specs.Items.{join}
use Rattle.units.specs.declared.Tokens.{Tokens}
use Rattle.units.specs.Units.{token_count}
use Rattle.list_writer.specs.ListWriter.{bytes_item, if_positive, put_list, put_list_end}
use Rattle.list_writer.specs.Around.{around, list_size}
use Rattle.list_writer.proofs.HeadLaws.{positive, around-length}
use Rattle.std.specs.Prelude.{Option, Some, None, is_some}
use Rattle.base_lists.specs.BaseLists.{amount_item, data_list}
use Rattle.base_lists.specs.Parts.{tokens_of}

-- ---- an entry

pub amount-bytes : (t : Tokens) {b : List ℕ} → b ≡ to_le_bytes w128 t.0
    → 16 ∷ 0 ∷ 0 ∷ 0 ∷ get_or b 0 0 ∷ get_or b 1 0 ∷ get_or b 2 0 ∷ get_or b 3 0 ∷ get_or b 4 0 ∷ get_or b 5 0 ∷ get_or b 6 0 ∷ get_or b 7 0
    ∷ get_or b 8 0 ∷ get_or b 9 0 ∷ get_or b 10 0 ∷ get_or b 11 0 ∷ get_or b 12 0 ∷ get_or b 13 0 ∷ get_or b 14 0 ∷ get_or b 15 0 ∷ [] ≡ amount_item (token_count t)
unfolding bytes_item to_le
amount-bytes t e = let k = bytes-of 16 t.0 e in rw k refl

amount-length : (n : ℕ) → length (amount_item n) ≡ 20
unfolding bytes_item
amount-length n = simp (length-append, length-to_le)

empty-bytes : 0 ∷ 0 ∷ 0 ∷ 0 ∷ [] ≡ bytes_item []
unfolding bytes_item to_le
empty-bytes = refl

abbrev first_item : Bool → ℕ → List ℕ
first_item typed n = cond typed (amount_item n) (bytes_item [])

first-length : (typed : Bool) (n : ℕ) → length (first_item typed n) ≡ cond typed 20 4
first-length true n = amount-length n
first-length false n = ap length (sym empty-bytes)

-- ---- the change's entry

abbrev last_item : ℕ → List ℕ
last_item n = if_positive n (amount_item n)

module _ (t : Tokens) {r : Bool} (e : r ≡ nat_eq t.0 0) where
  no_change : r ≡ true → last_item (token_count t) ≡ []
  unfolding if_positive
  no_change h = let z : t.0 ≡ 0 = eqb-true _ _ (sym e ∙ h) in rw z refl

  some-change : r ≡ false → last_item (token_count t) ≡ amount_item (token_count t)
  some-change h = positive (token_count t) (amount_item (token_count t)) (eqb-false _ _ (sym e ∙ h))

  pub len_none : r ≡ true → 0 ≡ length (last_item (token_count t))
  len_none h = ap length (sym (no_change h))

  pub len_some : r ≡ false → 20 ≡ length (last_item (token_count t))
  len_some h = sym (ap length (some-change h) ∙ amount-length (token_count t))

  module _ (first present : List ℕ) (k : ℕ) (out : List ℕ) (at : ℕ) where
    abbrev behind : List ℕ
    behind = around first present k (last_item (token_count t))

    alone : r ≡ true → around (first ++ []) present k [] ≡ behind
    alone h = ap₂ (λ (a z : List ℕ). around a present k z) (append-nil first) (sym (no_change h))

    pub behind_put : {after : List ℕ} → r ≡ true → after ≡ put_list out at (around (first ++ []) present k []) → after ≡ put_list out at behind
    behind_put h p = p ∙ ap (put_list out at) (alone h)

    pub behind-end : {next : ℕ} → r ≡ true → next ≡ put_list_end out at (around (first ++ []) present k []) → next ≡ put_list_end out at behind
    behind-end h p = p ∙ ap (put_list_end out at) (alone h)

    module _ (h : r ≡ false) {last : List ℕ} (el : last ≡ amount_item (token_count t)) where
      more : around (first ++ []) present k (last ++ []) ≡ behind
      more = ap₂ (λ (a l : List ℕ). around a present k l) (append-nil first) (append-nil last ∙ el ∙ sym (some-change h))

      pub more_put : {after : List ℕ} → after ≡ put_list out at (around (first ++ []) present k (last ++ [])) → after ≡ put_list out at behind
      more_put p = p ∙ ap (put_list out at) more

      pub more-end : {next : ℕ} → next ≡ put_list_end out at (around (first ++ []) present k (last ++ [])) → next ≡ put_list_end out at behind
      more-end p = p ∙ ap (put_list_end out at) more

-- ---- the list

module _ (typed : Bool) (n : ℕ) (present : List ℕ) (k c : ℕ) where
  data_around : join (data_list typed n present k c) ≡ around (first_item typed n) present k (last_item c)
  unfolding data_list around
  data_around = refl

  data_length : length (join (data_list typed n present k c)) ≡ list_size (length (first_item typed n)) present k (length (last_item c))
  data_length = ap length data_around ∙ around-length (first_item typed n) present k (last_item c)

  pub data_cap : {f l r : ℕ} → f ≡ cond typed 20 4 → l ≡ length (last_item c) → r ≡ min (list_size f present k l) 133117
      → r ≡ min (length (join (data_list typed n present k c))) 133117
  data_cap ef el er =
      er ∙ ap₂ (λ (f l : ℕ). min (list_size f present k l) 133117) (ef ∙ sym (first-length typed n)) el ∙ ap (λ (m : ℕ). min m 133117) (sym data_length)

-- of the tokens, if there are any
module _ (o : Option Tokens) (present : List ℕ) (k c : ℕ) (out : List ℕ) (at : ℕ) where
  abbrev all : List ℕ
  all = join (data_list (is_some o) (tokens_of o) present k c)

  from_first : {first : List ℕ} → first ≡ first_item (is_some o) (tokens_of o) → around first present k (last_item c) ≡ all
  from_first e = ap (λ (l : List ℕ). around l present k (last_item c)) e ∙ sym (data_around (is_some o) (tokens_of o) present k c)

  module _ (h : o ≡ None) where
    untyped : around (0 ∷ 0 ∷ 0 ∷ 0 ∷ []) present k (last_item c) ≡ all
    untyped = from_first (rw h empty-bytes)

    pub untyped_put : {after : List ℕ} → after ≡ put_list out at (around (0 ∷ 0 ∷ 0 ∷ 0 ∷ []) present k (last_item c)) → after ≡ put_list out at all
    untyped_put p = p ∙ ap (put_list out at) untyped

    pub untyped-end : {next : ℕ} → next ≡ put_list_end out at (around (0 ∷ 0 ∷ 0 ∷ 0 ∷ []) present k (last_item c)) → next ≡ put_list_end out at all
    untyped-end p = p ∙ ap (put_list_end out at) untyped

  module _ {t : Tokens} (h : o ≡ Some t) {first : List ℕ} (e : first ≡ amount_item (token_count t)) where
    with_amount : around first present k (last_item c) ≡ all
    with_amount = from_first (e ∙ rw h refl)

    pub typed_put : {after : List ℕ} → after ≡ put_list out at (around first present k (last_item c)) → after ≡ put_list out at all
    typed_put p = p ∙ ap (put_list out at) with_amount

    pub typed-end : {next : ℕ} → next ≡ put_list_end out at (around first present k (last_item c)) → next ≡ put_list_end out at all
    typed-end p = p ∙ ap (put_list_end out at) with_amount
