-- Laws of a list and a beginning of it.
use mathlib.Core.Path.{◌≡◌, refl, ap}
use Prim.Native.Nat.{◌≤◌, zero-le, suc-le-suc}
use mathlib.Core.List.{List, [], ◌∷◌, ◌++◌}
use lib.ListN.{length, drop}
use Rattle.lists.specs.Prefix.{Prefix, start, more}

module _ {A : Type 0} where
  pub prefix_refl : (xs : List A) → Prefix xs xs
  prefix_refl [] = start
  prefix_refl (x ∷ xs) = more (prefix_refl xs)

  pub prefix_trans : {xs ys zs : List A} → Prefix xs ys → Prefix ys zs → Prefix xs zs
  prefix_trans start q = start
  prefix_trans (more p) (more q) = more (prefix_trans p q)

  pub prefix_length : {xs ys : List A} → Prefix xs ys → length xs ≤ length ys
  prefix_length start = zero-le
  prefix_length (more p) = suc-le-suc (prefix_length p)

  -- what comes after a beginning
  pub prefix_rest : {xs ys : List A} → Prefix xs ys → ys ≡ xs ++ drop (length xs) ys
  prefix_rest start = refl
  prefix_rest (more {x = x} p) = ap (λ (l : List A). x ∷ l) (prefix_rest p)

  pub prefix_tail : {xs ys : List A} → Prefix xs ys → Prefix (drop 1 xs) (drop 1 ys)
  prefix_tail start = start
  prefix_tail (more p) = p
