-- What the functions put, one after the other, is the list of the records: one law for each way out.
use mathlib.Core.Path.{◌≡◌, refl, sym, ap, ◌∙◌}
use Rattle.std.proofs.Common.{true, false}
use Prim.Native.Nat.{ℕ, zero, suc, ◌+◌, ◌-◌, ◌*◌, ◌^◌, ◌≤◌, ◌<◌}
use mathlib.Core.List.{List, [], ◌∷◌, ◌++◌, flatten, append_assoc, append-nil}
use native.Mathlib.Omega.{arith}
use lib.Dec.{eqb}
use lib.ListN.{length, length-append}
use Rattle.arithmetic.specs.LittleEndian.{to_le}
use Rattle.arithmetic.proofs.LittleEndianLaws.{length-to_le}
use Rattle.molecule.specs.Partial.{pick}
use Rattle.molecule.specs.Items.{join, unwords, offsets, header}
use Rattle.molecule.specs.Write.{put_at, put_end, Put}
use Rattle.molecule.proofs.ItemsLaws.{length-join, unwords_length, length-offsets, length_flatten}
use Rattle.molecule.proofs.WriteLaws.{did, none, then, and_put, as_bytes, length-kept}
use Rattle.case_file.specs.CaseFile.{kind_at, body_at, item_at}
use Rattle.case_file.specs.Walk.{next_of, body_there, entry_at, next_at, cell_bytes, walk}
use Rattle.case_file.proofs.RecordLaws.{entry-none, cell-length}

-- ---- a cell

pub header_put : (out : List ℕ) (at x y : ℕ) {o₁ o₂ o₃ : List ℕ} {n₁ n₂ n₃ : ℕ} → at + 12 ≤ length out → o₁ ≡ put_at out at (to_le 4 x) → n₁ ≡ put_end out at (to_le 4 x)
    → o₂ ≡ put_at o₁ n₁ (to_le 4 12) → n₂ ≡ put_end o₁ n₁ (to_le 4 12) → o₃ ≡ put_at o₂ n₂ (to_le 4 y) → n₃ ≡ put_end o₂ n₂ (to_le 4 y) → Put out at (unwords (x ∷ 12 ∷ y ∷ [])) o₃ n₃
unfolding unwords
header_put out at x y h e₁ f₁ e₂ f₂ e₃ f₃ =
    let a = length-to_le 4 x in
    let b = length-to_le 4 12 in
    let c = length-to_le 4 y in
    let p = did (to_le 4 x) e₁ f₁ (omega arith) in
    let q = and_put (to_le 4 12) p e₂ f₂ (omega arith) in
    as_bytes (simp (append_assoc, append-nil)) (and_put (to_le 4 y) q e₃ f₃ (rw length-append (omega arith)))

cell_runs : (o d : List ℕ) → unwords ((12 + length o + 4 + length d) ∷ 12 ∷ (12 + length o) ∷ []) ++ o ++ to_le 4 (length d) ++ d ≡ cell_bytes o d
unfolding cell_bytes join unwords offsets flatten
cell_runs o d =
    let n : 12 + length (o ++ (to_le 4 (length d) ++ d ++ [])) ≡ 12 + length o + 4 + length d = simp (length-append, length-to_le) (omega arith) in
    rw n (simp (append_assoc, append-nil))

module _ (out : List ℕ) (at : ℕ) (o d : List ℕ) {o₁ o₂ o₃ o₄ : List ℕ} {n₁ n₂ n₃ n₄ : ℕ} (h : (at + (16 + length o + length d) ≤ length out) × (16 + length o + length d < 2 ^ 32))
    (p₁ : Put out at (unwords ((12 + length o + 4 + length d) ∷ 12 ∷ (12 + length o) ∷ [])) o₁ n₁) (e₂ : o₂ ≡ put_at o₁ n₁ o) (f₂ : n₂ ≡ put_end o₁ n₁ o)
    (e₃ : o₃ ≡ put_at o₂ n₂ (to_le 4 (length d))) (f₃ : n₃ ≡ put_end o₂ n₂ (to_le 4 (length d))) where
  pub cell_put : o₄ ≡ put_at o₃ n₃ d → n₄ ≡ put_end o₃ n₃ d → Put out at (cell_bytes o d) o₄ n₄
  cell_put e₄ f₄ =
      let l : length (unwords ((12 + length o + 4 + length d) ∷ 12 ∷ (12 + length o) ∷ [])) ≡ 12 = unwords_length _ in
      let t = length-to_le 4 (length d) in
      let p₂ = and_put o p₁ e₂ f₂ (omega arith) in
      let p₃ = and_put (to_le 4 (length d)) p₂ e₃ f₃ (simp length-append (omega arith)) in
      as_bytes (cell_runs o d) (and_put d p₃ e₄ f₄ (simp length-append (omega arith)))

-- ---- a record

pub entry-cell : (s : List ℕ) (at : ℕ) → eqb (kind_at s at) 9 ≡ false → entry_at s at ≡ cell_bytes (body_at s at) (body_there s (next_of (item_at s 7 at)))
unfolding entry_at pick
entry-cell s at h = rw h

module _ (s : List ℕ) (at : ℕ) (out : List ℕ) (to : ℕ) (h : to + length (entry_at s at) ≤ length out) where
  pub entry_none-put : eqb (kind_at s at) 9 ≡ true → Put out to (entry_at s at) out to
  entry_none-put z = rw (entry-none s at z) (none out to (omega arith))

  module _ (z : eqb (kind_at s at) 9 ≡ false) {o d : List ℕ} (b : o ≡ body_at s at) (c : d ≡ body_there s (next_of (item_at s 7 at))) where
    entry-is : cell_bytes o d ≡ entry_at s at
    entry-is = rw (b, c) (sym (entry-cell s at z))

    pub entry-room : to + (16 + length o + length d) ≤ length out
    entry-room =
        let l = cell-length o d in
        let m = ap length entry-is in
        omega arith

    pub entry_put : {after : List ℕ} {next : ℕ} → Put out to (cell_bytes o d) after next → Put out to (entry_at s at) after next
    entry_put q = as_bytes entry-is q

-- ---- the loop that puts the offsets

walk_more : (s : List ℕ) (at left : ℕ) → 0 < left → walk left s at ≡ entry_at s at ∷ walk (left - 1) s (next_at s at)
unfolding walk
walk_more s at zero h = absurd (omega arith)
walk_more s at (suc n) h = let j : suc n - 1 ≡ n = omega arith in rw j

pub length-walk : (n : ℕ) (s : List ℕ) (at : ℕ) → length (walk n s at) ≡ n
unfolding walk
length-walk zero s at = refl
length-walk (suc n) s at = ap suc (length-walk n s (next_at s at))

length-words : (first n : ℕ) (s : List ℕ) (from : ℕ) → length (unwords (offsets first (walk n s from))) ≡ 4 * n
length-words first n s from = unwords_length (offsets first (walk n s from)) ∙ rw (length-offsets, length-walk)

-- `whole` is what was put so far, and the offsets of the records that are left
pub record Offsetting (whole out₀ : List ℕ) (to : ℕ) (s out : List ℕ) (end at left offset : ℕ) : Type 0 where
  pub long : length out ≡ length out₀
  pub small : offset + length (flatten (walk left s at)) < 2 ^ 32
  pub room : to + length whole ≤ length out₀
  pub written : List ℕ
  pub so_far : Put out₀ to written out end
  pub rest : whole ≡ written ++ unwords (offsets offset (walk left s at))

pub offset_none : (out : List ℕ) (to : ℕ) (s : List ℕ) (from n first : ℕ) → (to + 4 * n ≤ length out) × (first + length (flatten (walk n s from)) < 2 ^ 32)
    → Offsetting (unwords (offsets first (walk n s from))) out to s out to from n first
offset_none out to s from n first h =
    let l = length-words first n s from in
    record { long = refl; small = h.1; room = omega arith; written = []; so_far = none out to (omega arith); rest = refl }

module _ {whole out₀ : List ℕ} {to : ℕ} {s out : List ℕ} {end at left offset : ℕ} (c : Offsetting whole out₀ to s out end at left offset) where
  rest_more : 0 < left → whole ≡ c.written ++ to_le 4 offset ++ unwords (offsets (offset + length (entry_at s at)) (walk (left - 1) s (next_at s at)))
  unfolding unwords offsets
  rest_more h = c.rest ∙ rw (walk_more s at left h, append_assoc)

  pub offset_more : {next e n₁ : ℕ} {o₁ : List ℕ} → 0 < left → o₁ ≡ put_at out end (to_le 4 offset) → n₁ ≡ put_end out end (to_le 4 offset) → e ≡ length (entry_at s at) → next ≡ next_at s at
      → {left' : ℕ} → left' ≡ left - 1 → Offsetting whole out₀ to s o₁ n₁ next left' (offset + e)
  offset_more {next} {e} h g f l k j =
      let w = rest_more h in
      let a = length-to_le 4 offset in
      let m = rw (length-append, length-append) at (ap length w) in
      let p = and_put (to_le 4 offset) c.so_far g f (omega arith) in
      let t : length (flatten (walk left s at)) ≡ length (entry_at s at) + length (flatten (walk (left - 1) s (next_at s at))) = ap (λ (ws : List (List ℕ)). length (flatten ws)) (walk_more s at left h) ∙ length_flatten (entry_at s at) (walk (left - 1) s (next_at s at)) in
      rw (k, l, j) (record {
        long = length-kept p;
        small = omega arith;
        room = c.room;
        written = c.written ++ to_le 4 offset;
        so_far = p;
        rest = w;
      })

  pub offset_end : left ≤ 0 → Put out₀ to whole out end
  unfolding walk offsets unwords
  offset_end h = let z : left ≡ 0 = omega arith in as_bytes (sym (c.rest ∙ rw (z, append-nil))) c.so_far

-- ---- the loop that puts the records

pub record Entering (whole out₀ : List ℕ) (to : ℕ) (s out : List ℕ) (end at left : ℕ) : Type 0 where
  pub long : length out ≡ length out₀
  pub room : to + length whole ≤ length out₀
  pub written : List ℕ
  pub so_far : Put out₀ to written out end
  pub rest : whole ≡ written ++ flatten (walk left s at)

pub enter_none : (out : List ℕ) (to : ℕ) (s : List ℕ) (from n : ℕ) → to + length (flatten (walk n s from)) ≤ length out
    → Entering (flatten (walk n s from)) out to s out to from n
enter_none out to s from n h = record { long = refl; room = h; written = []; so_far = none out to (omega arith); rest = refl }

module _ {whole out₀ : List ℕ} {to : ℕ} {s out : List ℕ} {end at left : ℕ} (c : Entering whole out₀ to s out end at left) where
  left-more : 0 < left → whole ≡ c.written ++ entry_at s at ++ flatten (walk (left - 1) s (next_at s at))
  unfolding flatten
  left-more h = c.rest ∙ rw (walk_more s at left h, append_assoc)

  pub enter_room : 0 < left → end + length (entry_at s at) ≤ length out
  enter_room h =
      let m = ap length (left-more h) in
      let p = c.so_far in
      let l = rw (length-append, length-append) at m in
      omega arith

  pub enter_more : {next n₁ : ℕ} {o₁ : List ℕ} → 0 < left → Put out end (entry_at s at) o₁ n₁ → next ≡ next_at s at → {left' : ℕ} → left' ≡ left - 1 → Entering whole out₀ to s o₁ n₁ next left'
  enter_more h q k j =
      rw (k, j) (record {
        long = length-kept q ∙ c.long;
        room = c.room;
        written = c.written ++ entry_at s at;
        so_far = then c.so_far q;
        rest = left-more h;
      })

  pub enter_end : left ≤ 0 → Put out₀ to whole out end
  unfolding walk flatten
  enter_end h = let z : left ≡ 0 = omega arith in as_bytes (sym (c.rest ∙ rw (z, append-nil))) c.so_far

-- ---- the list

module _ (out s : List ℕ) (from n size : ℕ) (h : (size ≡ length (join (walk n s from))) × (4 * n + 4 ≤ size) × (size ≤ length out) × (size < 2 ^ 32))
    {o₁ : List ℕ} {n₁ : ℕ} (e : o₁ ≡ put_at out 0 (to_le 4 size)) (f : n₁ ≡ put_end out 0 (to_le 4 size)) where
  size_is : size ≡ 4 * n + 4 + length (flatten (walk n s from))
  size_is = h.0 ∙ length-join (walk n s from) ∙ rw length-walk (omega arith)

  size_put : Put out 0 (to_le 4 size) o₁ n₁
  size_put = let a = length-to_le 4 size in did (to_le 4 size) e f (omega arith)

  pub list_offsets-room : n₁ + 4 * n ≤ length o₁
  list_offsets-room = let p = size_put in let l = length-kept p in let a = length-to_le 4 size in omega arith

  pub list_small : 4 * n + 4 + length (flatten (walk n s from)) < 2 ^ 32
  list_small = let z = size_is in omega arith

  module _ {o₂ : List ℕ} {n₂ : ℕ} (p : Put o₁ n₁ (unwords (offsets (4 * n + 4) (walk n s from))) o₂ n₂) where
    pub list_entries-room : n₂ + length (flatten (walk n s from)) ≤ length o₂
    list_entries-room =
        let q = size_put in
        let z = size_is in
        let a = length-to_le 4 size in
        let b = length-words (4 * n + 4) n s from in
        let l = length-kept q in
        let m = length-kept p in
        omega arith

    list_runs : to_le 4 size ++ unwords (offsets (4 * n + 4) (walk n s from)) ++ flatten (walk n s from) ≡ join (walk n s from)
    unfolding join unwords
    list_runs =
        let z = size_is in
        let a : header (length (walk n s from)) ≡ 4 * n + 4 = rw length-walk (omega arith) in
        let b : header (length (walk n s from)) + length (flatten (walk n s from)) ≡ size = rw a (sym z) in
        rw (b, a)

    pub list_put : {o₃ : List ℕ} {n₃ : ℕ} → Put o₂ n₂ (flatten (walk n s from)) o₃ n₃ → Put out 0 (join (walk n s from)) o₃ n₃
    list_put q = as_bytes list_runs (then (then size_put p) q)
