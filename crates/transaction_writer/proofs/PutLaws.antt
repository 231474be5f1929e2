-- What the functions of this crate put, one after the other, is what the definitions say: one law for each function.
use mathlib.Core.Path.{◌≡◌, refl, ap, ◌∙◌}
use mathlib.Core.Bool.{true}
use borrow.Author.Tests.{le-leb}
use Prim.Native.Nat.{ℕ, ◌+◌, ◌≤◌}
use mathlib.Core.List.{List, [], ◌∷◌, ◌++◌, flatten, append_assoc, append-nil}
use native.Mathlib.Omega.{arith}
use lib.ListN.{length, length-append}
use Rattle.arithmetic.specs.LittleEndian.{to_le}
use Rattle.arithmetic.proofs.LittleEndianLaws.{length-to_le}
use Rattle.molecule.specs.Items.{join, unwords, offsets}
use Rattle.molecule.specs.Write.{put_at, put_end, Put}
use Rattle.molecule.proofs.ItemsLaws.{length-join, unwords_length}
use Rattle.molecule.proofs.WriteLaws.{did, and_put, as_bytes}
use Rattle.list_writer.proofs.SpanLaws.{unwords-append}
use Rattle.transaction_writer.specs.declared.{TxFields.TxFields, Sizes.Sizes}
use Rattle.transaction_writer.specs.Written.{raw_bytes, tx_bytes, tx_head, fits, put_head, head_end, tx_size}
use Rattle.transaction_writer.specs.TxFields.{fields_bytes, sizes_of, tx_len}

-- ---- the head

regroup : (p q r s w : List ℕ) → p ++ q ++ r ++ s ++ w ≡ p ++ (q ++ r ++ s) ++ w
regroup p q r s w = simp append_assoc

module _ (v a b c d e f : ℕ) where
  pub head_length : length (tx_head v a b c d e f) ≡ 44
  unfolding tx_head
  head_length = simp (length-append, unwords_length) refl

  module _ (out : List ℕ) (low : 44 + a + b + c + d + e + f ≤ 133116) (room : 44 + a + b + c + d + e + f ≤ length out) where
    fit : fits (44 + a + b + c + d + e + f) (length out) ≡ true
    unfolding fits
    fit = rw (le-leb _ _ low, le-leb _ _ room)

    -- what a call that puts the head did, where there was room
    pub head_did : {o₁ : List ℕ} {n₁ : ℕ} → o₁ ≡ put_head out v a b c d e f → n₁ ≡ head_end out a b c d e f → Put out 0 (tx_head v a b c d e f) o₁ n₁
    unfolding put_head head_end
    head_did p q =
        let l = head_length in
        record { bytes = p ∙ rw fit; end = q ∙ rw (fit, l); room = omega arith }

  -- the eleven numbers
  head_words : unwords ((12 + (32 + a + b + c + d + e) + f) ∷ 12 ∷ (12 + (32 + a + b + c + d + e)) ∷ (32 + a + b + c + d + e) ∷ 28 ∷ 32 ∷ (32 + a)
      ∷ (32 + a + b) ∷ (32 + a + b + c) ∷ (32 + a + b + c + d) ∷ v ∷ []) ≡ tx_head v a b c d e f
  unfolding tx_head
  head_words =
      let raw : ℕ = 32 + a + b + c + d + e in
      let xs : List ℕ = (12 + raw + f) ∷ 12 ∷ (12 + raw) ∷ [] in
      let ys : List ℕ = raw ∷ 28 ∷ 32 ∷ (32 + a) ∷ [] in
      let zs : List ℕ = (32 + a + b) ∷ (32 + a + b + c) ∷ (32 + a + b + c + d) ∷ v ∷ [] in
      unwords-append (xs ++ ys) zs ∙ ap (λ (l : List ℕ). l ++ unwords zs) (unwords-append xs ys)

  module _ {out o : List ℕ} {n : ℕ} (h : (44 ≤ length out) × (44 + a + b + c + d + e + f ≤ 133116)) where
    pub put_headers : o ≡ put_at out 0 (unwords ((12 + (32 + a + b + c + d + e) + f) ∷ 12 ∷ (12 + (32 + a + b + c + d + e)) ∷ (32 + a + b + c + d + e) ∷ 28 ∷ 32 ∷ (32 + a)
        ∷ (32 + a + b) ∷ (32 + a + b + c) ∷ (32 + a + b + c + d) ∷ v ∷ []))
        → n ≡ put_end out 0 (unwords ((12 + (32 + a + b + c + d + e) + f) ∷ 12 ∷ (12 + (32 + a + b + c + d + e)) ∷ (32 + a + b + c + d + e) ∷ 28 ∷ 32 ∷ (32 + a)
        ∷ (32 + a + b) ∷ (32 + a + b + c) ∷ (32 + a + b + c + d) ∷ v ∷ []))
        → Put out 0 (tx_head v a b c d e f) o n
    put_headers p q =
        let room = h.0 in
        did (tx_head v a b c d e f) (rw head_words at p) (rw head_words at q) (omega (arith, head_length))

-- ---- the raw transaction: a table of six fields, of which the first has four bytes

abbrev pub raw_size : List ℕ → List ℕ → List ℕ → List ℕ → List ℕ → ℕ
raw_size a b c d e = 32 + length a + length b + length c + length d + length e

module _ (v : ℕ) (a b c d e : List ℕ) where
  six_length : length (flatten (to_le 4 v ∷ a ∷ b ∷ c ∷ d ∷ e ∷ [])) ≡ 4 + length a + length b + length c + length d + length e
  unfolding flatten
  six_length = simp (length-append, length-to_le) (omega arith)

  pub raw_length : length (raw_bytes v a b c d e) ≡ raw_size a b c d e
  unfolding raw_bytes
  raw_length = length-join _ ∙ omega (arith, six_length)

  raw_runs : unwords ((raw_size a b c d e) ∷ 28 ∷ 32 ∷ (32 + length a) ∷ [])
      ++ unwords ((32 + length a + length b) ∷ (32 + length a + length b + length c) ∷ (32 + length a + length b + length c + length d) ∷ v ∷ [])
      ++ flatten (a ∷ b ∷ c ∷ d ∷ e ∷ [])
      ≡ raw_bytes v a b c d e
  unfolding raw_bytes join unwords offsets flatten
  raw_runs =
      let n : 28 + length (flatten (to_le 4 v ∷ a ∷ b ∷ c ∷ d ∷ e ∷ [])) ≡ raw_size a b c d e = omega (arith, six_length) in
      rw (n, length-to_le 4 v) (simp (append_assoc, append-nil))

  -- and the transaction: the raw one and the witnesses
  module _ (w : List ℕ) where
    pub tx_length : length (tx_bytes v a b c d e w) ≡ tx_size a b c d e w
    unfolding tx_bytes flatten
    tx_length = length-join _ ∙ simp (length-append, raw_length) (omega arith)

    tx_runs : unwords ((tx_size a b c d e w) ∷ 12 ∷ (12 + raw_size a b c d e) ∷ []) ++ raw_bytes v a b c d e ++ w ≡ tx_bytes v a b c d e w
    unfolding tx_bytes join unwords offsets flatten
    tx_runs =
        let n : 12 + length (flatten (raw_bytes v a b c d e ∷ w ∷ [])) ≡ tx_size a b c d e w =
        unfold flatten in simp (length-append, raw_length) (omega arith) in
        rw (n, raw_length) (simp (append_assoc, append-nil))

    -- the head, and then the lists
    pub head_runs : tx_head v (length a) (length b) (length c) (length d) (length e) (length w) ++ flatten (a ∷ b ∷ c ∷ d ∷ e ∷ []) ++ w ≡ tx_bytes v a b c d e w
    unfolding tx_head
    head_runs =
        let n : 12 + raw_size a b c d e + length w ≡ tx_size a b c d e w = omega arith in
        let front : List ℕ = unwords (tx_size a b c d e w ∷ 12 ∷ (12 + raw_size a b c d e) ∷ []) in
        rw n (regroup front _ _ (flatten (a ∷ b ∷ c ∷ d ∷ e ∷ [])) w ∙ ap (λ (x : List ℕ). front ++ x ++ w) raw_runs ∙ tx_runs)

module _ (f : TxFields) where
  fields_runs : tx_head f.version (length f.deps.now) (length f.headers.now) (length f.inputs.now) (length f.outputs.now) (length f.datas.now) (length f.witnesses.now)
      ++ (f.deps.now ++ (f.headers.now ++ (f.inputs.now ++ (f.outputs.now ++ (f.datas.now ++ (f.witnesses.now ++ []))))))
      ≡ fields_bytes f
  unfolding flatten
  fields_runs = rw (← head_runs f.version f.deps.now f.headers.now f.inputs.now f.outputs.now f.datas.now f.witnesses.now) (simp (append_assoc, append-nil))

  pub put_fields : {z : Sizes} {out o₁ o₂ : List ℕ} {n₁ n₂ : ℕ} → z ≡ sizes_of f → (tx_len (sizes_of f) ≤ length out) × (tx_len (sizes_of f) ≤ 133116)
      → o₁ ≡ put_head out f.version z.deps z.headers z.inputs z.outputs z.datas z.witnesses → n₁ ≡ head_end out z.deps z.headers z.inputs z.outputs z.datas z.witnesses
      → o₂ ≡ put_at o₁ n₁ (f.deps.now ++ (f.headers.now ++ (f.inputs.now ++ (f.outputs.now ++ (f.datas.now ++ (f.witnesses.now ++ []))))))
      → n₂ ≡ put_end o₁ n₁ (f.deps.now ++ (f.headers.now ++ (f.inputs.now ++ (f.outputs.now ++ (f.datas.now ++ (f.witnesses.now ++ []))))))
      → Put out 0 (fields_bytes f) o₂ n₂
  put_fields {out = out} ez h eh nh d k =
      let l = head_length f.version (length f.deps.now) (length f.headers.now) (length f.inputs.now) (length f.outputs.now) (length f.datas.now) (length f.witnesses.now) in
      let p = head_did f.version (length f.deps.now) (length f.headers.now) (length f.inputs.now) (length f.outputs.now) (length f.datas.now) (length f.witnesses.now) out h.1 h.0 (rw ez at eh) (rw ez at nh) in
      as_bytes fields_runs (and_put _ p d k (simp length-append (omega (arith, l, h.0))))
