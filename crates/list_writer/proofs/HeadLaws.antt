-- The header of a list from the lengths of its items; a list is its header and its items.
use mathlib.Core.Path.{◌≡◌, refl, sym, ap, ap₂, ◌∙◌}
use Prim.Native.Nat.{ℕ, zero, suc, ◌+◌, ◌*◌, ◌≤◌, min}
use mathlib.Core.List.{List, [], ◌∷◌, ◌++◌, flatten, append_assoc, append-nil}
use native.Mathlib.Omega.{arith}
use lib.ListN.{length, length-append}
use Rattle.arithmetic.specs.LittleEndian.{to_le}
use Rattle.arithmetic.proofs.LittleEndianLaws.{length-to_le}
use Rattle.molecule.specs.Items.{join, unwords, offsets, header}
use Rattle.molecule.specs.Write.{splice, put_at, put_end, Put}
use Rattle.molecule.proofs.ItemsLaws.{length-join, unwords_length}
use Rattle.molecule.proofs.Offsets.{span-length}
use Rattle.molecule.proofs.WriteLaws.{did, then, as_bytes, none, length-kept, put_yes, end_yes}
use Rattle.list_writer.specs.ListWriter.{item_or, items_after_first, if_any, if_positive}
use Rattle.list_writer.specs.Around.{around, head_size, list_size, offset_words, head_of, Room}
use Rattle.list_writer.proofs.SpanLaws.{flatten_append, offsets-append, unwords-append}

-- ---- the place of a last item, if there is one

pub positive : (n : ℕ) (xs : List ℕ) → (n ≡ 0 → ⊥) → if_positive n xs ≡ xs
unfolding if_positive
positive zero xs h = absurd (h refl)
positive (suc n) xs h = refl

pub nothing : (out : List ℕ) (at : ℕ) → at ≤ length out → splice out at [] ≡ out
nothing out at h = sym (none out at h).bytes

pub none-positive : (n : ℕ) (xs : List ℕ) → n ≡ 0 → if_positive n xs ≡ []
unfolding if_positive
none-positive n xs h = rw h

pub ruleset place = (positive, none-positive, nothing, put_yes, end_yes, length-to_le)

-- ---- a header

two_words : (x y : ℕ) → unwords (x ∷ y ∷ []) ≡ to_le 4 x ++ to_le 4 y
unfolding unwords
two_words x y = ap (λ (l : List ℕ). to_le 4 x ++ l) (append-nil (to_le 4 y))

module _ (first : ℕ) (s : List ℕ) (k last : ℕ) {size w : ℕ} (ew : w ≡ min (4 * last) 4) (es : size ≡ min (length (flatten (items_after_first s k))) 133117) where
  head_runs : length (flatten (items_after_first s k)) ≡ size
      → to_le 4 (8 + 4 * k + w + first + size + last) ++ to_le 4 (8 + 4 * k + w) ++ offset_words (8 + 4 * k + w + first) (items_after_first s k) ++ if_positive last (to_le 4 (8 + 4 * k + w + first + size))
      ≡ head_of first s k last
  unfolding head_of
  head_runs e = rw (ew, e)

  pub put_head_lem : {out o₁ o₂ o₃ : List ℕ} {at n₁ n₂ n₃ : ℕ} → Room out at (list_size first s k last)
      → o₁ ≡ put_at out at (unwords ((8 + 4 * k + w + first + size + last) ∷ (8 + 4 * k + w) ∷ []))
      → n₁ ≡ put_end out at (unwords ((8 + 4 * k + w + first + size + last) ∷ (8 + 4 * k + w) ∷ []))
      → Put o₁ n₁ (offset_words (8 + 4 * k + w + first) (items_after_first s k)) o₂ n₂
      → Put o₂ n₂ (if_positive last (to_le 4 (8 + 4 * k + w + first + size))) o₃ n₃
      → Put out at (head_of first s k last) o₃ n₃
  put_head_lem {at = at} h d f q r =
      let room = h.0 in
      let p = as_bytes (two_words _ _) (did (unwords ((8 + 4 * k + w + first + size + last) ∷ (8 + 4 * k + w) ∷ [])) d f (omega (arith, unwords_length ((8 + 4 * k + w + first + size + last) ∷ (8 + 4 * k + w) ∷ [])))) in
      as_bytes (head_runs (omega (arith, h.1))) (then (then p q) r)

-- ---- a list is its header and its items

any_bytes : (last : List ℕ) → flatten (if_any last) ≡ last
unfolding if_any flatten
any_bytes [] = refl
any_bytes (b ∷ l) = append-nil (b ∷ l)

any_place : (n : ℕ) (last : List ℕ) → unwords (offsets n (if_any last)) ≡ if_positive (length last) (to_le 4 n)
unfolding if_any if_positive unwords offsets
any_place n [] = refl
any_place n (b ∷ l) = append-nil (to_le 4 n)

any_head : (k : ℕ) (last : List ℕ) → head_size k (length last) ≡ header (suc (k + length (if_any last)))
unfolding if_any
any_head k [] = omega arith
any_head k (b ∷ l) = omega arith

pub later-length : (s : List ℕ) (k : ℕ) → length (items_after_first s k) ≡ k
unfolding items_after_first
later-length s k = span-length (item_or s) 1 k

join_runs : (h n : ℕ) (first : List ℕ) (ys : List (List ℕ)) → h ≡ header (suc (length ys)) → n ≡ h + length first + length (flatten ys)
    → (to_le 4 n ++ (to_le 4 h ++ unwords (offsets (h + length first) ys))) ++ (first ++ flatten ys) ≡ join (first ∷ ys)
unfolding join unwords offsets flatten
join_runs h n first ys eh en =
    let e : n ≡ header (suc (length ys)) + length (first ++ flatten ys) = omega (arith, length-append first (flatten ys)) in
    rw (e, eh)

regroup : (a b c d e f g : List ℕ) → a ++ b ++ c ++ d ++ (e ++ f ++ g) ≡ (a ++ (b ++ (c ++ d))) ++ (e ++ (f ++ g))
regroup a b c d e f g = simp append_assoc

places_any : (o : ℕ) (xs : List (List ℕ)) (last : List ℕ)
    → offset_words o xs ++ if_positive (length last) (to_le 4 (o + length (flatten xs))) ≡ unwords (offsets o (xs ++ if_any last))
unfolding offset_words
places_any o xs last =
    ap (λ (l : List ℕ). unwords (offsets o xs) ++ l) (sym (any_place (o + length (flatten xs)) last))
    ∙ sym (ap unwords (offsets-append o xs (if_any last)) ∙ unwords-append (offsets o xs) (offsets (o + length (flatten xs)) (if_any last)))

module _ (first s : List ℕ) (k : ℕ) (last : List ℕ) where
  rest-bytes : flatten (items_after_first s k) ++ last ≡ flatten (items_after_first s k ++ if_any last)
  rest-bytes = ap (λ (l : List ℕ). flatten (items_after_first s k) ++ l) (sym (any_bytes last)) ∙ sym (flatten_append (items_after_first s k) (if_any last))

  rest-count : head_size k (length last) ≡ header (suc (length (items_after_first s k ++ if_any last)))
  rest-count = omega (arith, any_head k last, length-append (items_after_first s k) (if_any last), later-length s k)

  around_runs : head_of (length first) s k (length last) ++ (first ++ flatten (items_after_first s k) ++ last) ≡ around first s k last
  unfolding head_of around
  around_runs =
      let h : ℕ = head_size k (length last) in
      let o : ℕ = h + length first in
      let en : list_size (length first) s k (length last) ≡ h + length first + length (flatten (items_after_first s k ++ if_any last)) =
      omega (arith, ap length rest-bytes, length-append (flatten (items_after_first s k)) last) in
      regroup (to_le 4 (list_size (length first) s k (length last))) (to_le 4 h) (offset_words o (items_after_first s k)) (if_positive (length last) (to_le 4 (o + length (flatten (items_after_first s k)))))
      first (flatten (items_after_first s k)) last
      ∙ ap₂ (λ (p q : List ℕ). (to_le 4 (list_size (length first) s k (length last)) ++ (to_le 4 h ++ p)) ++ (first ++ q)) (places_any o (items_after_first s k) last) rest-bytes
      ∙ join_runs h _ first (items_after_first s k ++ if_any last) rest-count en

  pub around-length : length (around first s k last) ≡ list_size (length first) s k (length last)
  unfolding around flatten
  around-length =
      length-join (first ∷ items_after_first s k ++ if_any last)
      ∙ omega (arith, rest-count, length-append first (flatten (items_after_first s k ++ if_any last)), ap length rest-bytes, length-append (flatten (items_after_first s k)) last)

pub put_around : (first s : List ℕ) (k : ℕ) (last : List ℕ) {out o₁ o₂ o₃ o₄ : List ℕ} {at n₁ n₂ n₃ n₄ f l : ℕ}
    → Room out at (list_size (length first) s k (length last)) → f ≡ min (length first) 133117 → l ≡ min (length last) 133117
    → Put out at (head_of f s k l) o₁ n₁ → n₁ ≡ at + head_size k l → o₂ ≡ put_at o₁ n₁ first → n₂ ≡ put_end o₁ n₁ first
    → Put o₂ n₂ (flatten (items_after_first s k)) o₃ n₃ → o₄ ≡ put_at o₃ n₃ last → n₄ ≡ put_end o₃ n₃ last
    → Put out at (around first s k last) o₄ n₄
put_around first s k last {f = f} {l = l} h ef el p v d₁ e₁ q d₂ e₂ =
    let room = h.0 in
    let low = h.1 in
    let fe : f ≡ length first = omega arith in
    let le : l ≡ length last = omega arith in
    let a = length-kept p in
    let p₁ = did first d₁ e₁ (omega arith) in
    let b = length-kept p₁ in
    let c = length-kept q in
    let x = p₁.end in
    let y = q.end in
    let p₂ = did last d₂ e₂ (omega arith) in
    as_bytes (around_runs first s k last) (then (rw (fe, le) at p) (then (then p₁ q) p₂))
