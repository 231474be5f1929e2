-- Strings compared block by block: a block is k bytes from a place on.
use mathlib.Core.Path.{◌≡◌, refl, sym, ap, ap₂, ◌∙◌}
use Prim.Native.Nat.{ℕ, ◌+◌, ◌-◌, ◌≤◌, ◌<◌}
use mathlib.Core.List.{List, ◌++◌}
use mathlib.Core.Bool.{Bool, true, false, not, ◌&&◌, and-true, false≢true}
use native.Mathlib.Omega.{arith}
use borrow.Author.Tests.{not-true, not-false}
use lib.Dec.{eqb}
use lib.ListN.{length, take, drop, get_or, take-append-drop, length-drop}
use lib.Seq.{drop-cons, take_all, take-take, take-add, get_or-drop}
use Rattle.lists.specs.Lists.{eq_bytes}
use Rattle.lists.proofs.EqualLaws.{eq_true, eq_refl, not_so, eq_split}

abbrev pub block : ℕ → ℕ → List ℕ → List ℕ
block k at s = take k (drop at s)

-- a byte more of a block
pub block_more : (i at : ℕ) (a b : List ℕ) → at + i < length a → at + i < length b
    → eq_bytes (block (i + 1) at a) (block (i + 1) at b) ≡ (eq_bytes (block i at a) (block i at b) && eqb (get_or a (at + i) 0) (get_or b (at + i) 0))
unfolding eq_bytes
block_more i at a b g h =
    let p : i < length (drop at a) = omega (arith, length-drop at a) in
    let q : i < length (drop at b) = omega (arith, length-drop at b) in
    eq_split i 1 (drop at a) (drop at b) ∙ rw (drop-cons (drop at a) i 0 p, drop-cons (drop at b) i 0 q, get_or-drop at a i 0, get_or-drop at b i 0, and-true)

-- ---- block by block: the first i bytes agree

pub record Agreed (a b : List ℕ) (i : ℕ) : Type 0 where
  pub along : length a ≡ length b
  pub awithin : i ≤ length a
  pub alike : take i a ≡ take i b

pub agreed_none : (a b : List ℕ) → length a ≡ length b → Agreed a b 0
agreed_none a b h = record { along = h; awithin = omega arith; alike = refl }

-- a block that differs decides
differs : (k at : ℕ) (a b : List ℕ) → eq_bytes (block k at a) (block k at b) ≡ false → eq_bytes a b ≡ false
differs k at a b e = not_so _ (λ f. false≢true (sym e ∙ rw (eq_true a b f) (eq_refl (block k at b))))

pub agreed_stop : (k at : ℕ) (a b : List ℕ) {r : Bool} → r ≡ eq_bytes (block k at a) (block k at b) → not r ≡ true → false ≡ eq_bytes a b
agreed_stop k at a b e h = sym (differs k at a b (sym e ∙ not-true _ h))

module _ {a b : List ℕ} {i : ℕ} (g : Agreed a b i) where
  pub agreed_more : (k : ℕ) {r : Bool} → i < length a - k → r ≡ eq_bytes (block k i a) (block k i b) → not r ≡ false → Agreed a b (i + k)
  agreed_more k l e h =
      record {
        along = g.along;
        awithin = omega arith;
        alike = take-add i k a ∙ ap₂ {C = List ℕ} (λ (x y : List ℕ). x ++ y) g.alike (eq_true _ _ (sym e ∙ not-false _ h)) ∙ sym (take-add i k b);
      }

  -- the last block begins within what agrees
  pub agreed_end : (k : ℕ) (r : Bool) → length a - k ≤ i → r ≡ eq_bytes (block k (length a - k) a) (block k (length a - k) b) → r ≡ eq_bytes a b
  agreed_end k false l e = sym (differs k (length a - k) a b (sym e))
  agreed_end k true l e =
      let last : ℕ = length a - k in
      let n : length a ≡ length b = g.along in
      let heads : take last a ≡ take last b = sym (take-take last i a l) ∙ ap (take last) g.alike ∙ take-take last i b l in
      let tails : drop last a ≡ drop last b =
      sym (take_all k (drop last a) (omega (arith, length-drop last a))) ∙ eq_true _ _ (sym e) ∙ take_all k (drop last b) (omega (arith, length-drop last b)) in
      let whole : a ≡ b = sym (take-append-drop last a) ∙ ap₂ {C = List ℕ} (λ (x y : List ℕ). x ++ y) heads tails ∙ take-append-drop last b in
      sym (rw whole (eq_refl b))

-- a first block and a last are all, where no byte stands between them
pub two_blocks : (a b : List ℕ) → length a ≡ length b → 64 ≤ length a → length a ≤ 128
    → eq_bytes a b ≡ (eq_bytes (block 64 0 a) (block 64 0 b) && eq_bytes (block 64 (length a - 64) a) (block 64 (length a - 64) b))
two_blocks a b n l m = by (eq_bytes (block 64 0 a) (block 64 0 b)) refl
  where
    by : (q : Bool) → eq_bytes (block 64 0 a) (block 64 0 b) ≡ q → eq_bytes a b ≡ (q && eq_bytes (block 64 (length a - 64) a) (block 64 (length a - 64) b))
    by true e =
        let g : Agreed a b 64 = record { along = n; awithin = l; alike = eq_true _ _ e } in
        sym (agreed_end g 64 _ (omega arith) refl)
    by false e = differs 64 0 a b e
