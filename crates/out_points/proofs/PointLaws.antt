-- Out points read and written: one law for each way out of the functions.
use Rattle.std.proofs.Common.{◌≡◌, ℕ, ◌+◌, ◌-◌, ◌<◌, ◌≤◌, List, ◌++◌, length, sym, refl, ap, ◌∙◌, append_assoc, arith, length-append}
use Rattle.arithmetic.specs.LittleEndian.{to_le, u32_at, u64_at}
use Rattle.arithmetic.proofs.LittleEndianLaws.{num_none, length-to_le}
use Rattle.molecule.specs.Layout.{fix_item}
use Rattle.molecule.specs.Write.{put_at, put_end, Put}
use Rattle.molecule.proofs.WriteLaws.{put_short, end_short, put_is, end_is, did, then, and_put, as_bytes}
use Rattle.out_points.specs.declared.{Byte32.Byte32, OutPoint.OutPoint}
use Rattle.out_points.specs.OutPoints.{byte32_at, out_point_at, point_of, hash_bytes, point_bytes}

-- ---- read

module _ (s : List ℕ) (at : ℕ) where
  pub byte32_none : length s ≤ at → ◌≡◌ {A = Byte32} (record { a = 0; b = 0; c = 0; d = 0 }) (byte32_at s at)
  unfolding byte32_at
  byte32_none h = rw (← num_none 8 s at (omega arith), ← num_none 8 s (at + 8) (omega arith), ← num_none 8 s (at + 16) (omega arith), ← num_none 8 s (at + 24) (omega arith))

  pub byte32_is : {a b c d : ℕ} → a ≡ u64_at s at → b ≡ u64_at s (at + 8) → c ≡ u64_at s (at + 16) → d ≡ u64_at s (at + 24)
      → ◌≡◌ {A = Byte32} (record { a = a; b = b; c = c; d = d }) (byte32_at s at)
  unfolding byte32_at
  byte32_is ea eb ec ed = rw (ea, eb, ec, ed)

  module _ {h : Byte32} (e : h ≡ byte32_at s at) where
    pub point-none : length s ≤ at → ◌≡◌ {A = OutPoint} (record { hash = h; index = 0 }) (out_point_at s at)
    unfolding out_point_at
    point-none l = rw (e, ← num_none 4 s (at + 32) (omega arith))

    pub point-is : {i : ℕ} → i ≡ u32_at s (at + 32) → ◌≡◌ {A = OutPoint} (record { hash = h; index = i }) (out_point_at s at)
    unfolding out_point_at
    point-is f = rw (e, f)

pub item-is : (s : List ℕ) (i : ℕ) {x : List ℕ} {p : OutPoint} → x ≡ fix_item s 36 i → p ≡ out_point_at x 0 → p ≡ point_of s i
unfolding point_of
item-is s i e f = f ∙ ap (λ (x : List ℕ). out_point_at x 0) e

-- ---- written

pub length-hash : (h : Byte32) → length (hash_bytes h) ≡ 32
unfolding hash_bytes
length-hash h = simp (length-append, length-to_le)

pub length-point : (p : OutPoint) → length (point_bytes p) ≡ 36
unfolding point_bytes
length-point p = simp (length-append, length-to_le, length-hash)

module _ (out : List ℕ) (at : ℕ) (l : at ≤ length out) where
  pub hash_short : (h : Byte32) → length out - at < 32 → out ≡ put_at out at (hash_bytes h)
  hash_short h k = put_short out at (hash_bytes h) l (omega (arith, length-hash h))

  pub hash_short_end : (h : Byte32) → length out - at < 32 → at ≡ put_end out at (hash_bytes h)
  hash_short_end h k = end_short out at (hash_bytes h) l (omega (arith, length-hash h))

  pub point_short : (p : OutPoint) → length out - at < 36 → out ≡ put_at out at (point_bytes p)
  point_short p k = put_short out at (point_bytes p) l (omega (arith, length-point p))

  pub point_short_end : (p : OutPoint) → length out - at < 36 → at ≡ put_end out at (point_bytes p)
  point_short_end p k = end_short out at (point_bytes p) l (omega (arith, length-point p))

-- where there was room, what was put at a place is `put_at`
pub put_of : {out after : List ℕ} {at next : ℕ} {xs : List ℕ} → Put out at xs after next → after ≡ put_at out at xs
put_of {out} {after} {at} {next} {xs} p = put_is out at xs (omega (arith, p.room)) (omega (arith, p.room)) p.bytes

pub end_of : {out after : List ℕ} {at next : ℕ} {xs : List ℕ} → Put out at xs after next → next ≡ put_end out at xs
end_of {out} {after} {at} {next} {xs} p = p.end ∙ end_is out at xs (omega (arith, p.room)) (omega (arith, p.room))

module _ (out : List ℕ) (at x y : ℕ) {o₁ : List ℕ} {n₁ n₂ : ℕ} (l : at + 16 ≤ length out) (e₁ : o₁ ≡ put_at out at (to_le 8 x)) (f₁ : n₁ ≡ put_end out at (to_le 8 x)) (f₂ : n₂ ≡ put_end o₁ n₁ (to_le 8 y)) where
  pub two-words : {o₂ : List ℕ} → o₂ ≡ put_at o₁ n₁ (to_le 8 y) → Put out at (to_le 8 x ++ to_le 8 y) o₂ n₂
  two-words e₂ =
      let a = length-to_le 8 x in
      let b = length-to_le 8 y in
      and_put (to_le 8 y) (did (to_le 8 x) e₁ f₁ (omega arith)) e₂ f₂ (omega arith)

  pub two-end : n₂ ≡ at + 16
  two-end = (two-words refl).end ∙ ap (λ (n : ℕ). at + n) (simp (length-append, length-to_le))

module _ (out : List ℕ) (at : ℕ) (h : Byte32) {o₁ o₂ : List ℕ} {n₁ n₂ : ℕ} (p : Put out at (to_le 8 h.a ++ to_le 8 h.b) o₁ n₁) (q : Put o₁ n₁ (to_le 8 h.c ++ to_le 8 h.d) o₂ n₂) where
  hash_did : Put out at (hash_bytes h) o₂ n₂
  unfolding hash_bytes
  hash_did = as_bytes (sym (append_assoc (to_le 8 h.a ++ to_le 8 h.b) (to_le 8 h.c) (to_le 8 h.d))) (then p q)

  pub hash_put : o₂ ≡ put_at out at (hash_bytes h)
  hash_put = put_of hash_did

  pub hash-end : n₂ ≡ put_end out at (hash_bytes h)
  hash-end = end_of hash_did

module _ (out : List ℕ) (at : ℕ) (p : OutPoint) {o₁ : List ℕ} {n₁ n₂ : ℕ} (l : at ≤ length out) (k : 36 ≤ length out - at)
    (e₁ : o₁ ≡ put_at out at (hash_bytes p.hash)) (f₁ : n₁ ≡ put_end out at (hash_bytes p.hash))
    (f₂ : n₂ ≡ put_end o₁ n₁ (to_le 4 p.index)) where
  point_did : {o₂ : List ℕ} → o₂ ≡ put_at o₁ n₁ (to_le 4 p.index) → Put out at (point_bytes p) o₂ n₂
  unfolding point_bytes
  point_did e₂ =
      let a = length-hash p.hash in
      let b = length-to_le 4 p.index in
      let p₁ = did (hash_bytes p.hash) e₁ f₁ (omega arith) in
      and_put (to_le 4 p.index) p₁ e₂ f₂ (omega arith)

  pub point_put : {o₂ : List ℕ} → o₂ ≡ put_at o₁ n₁ (to_le 4 p.index) → o₂ ≡ put_at out at (point_bytes p)
  point_put e₂ = put_of (point_did e₂)

  pub point-end : n₂ ≡ put_end out at (point_bytes p)
  point-end = end_of (point_did refl)
