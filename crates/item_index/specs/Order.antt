-- Strings in the order of their bytes.
use Rattle.std.specs.Prelude.{Bool, true, false, cond, List, [], ◌∷◌, ℕ, zero, suc, ◌+◌, ◌*◌, ltb, get_or}
use Rattle.std.specs.declared.cmp.Ordering.{Ordering}

-- byte by byte, the first that differs decides; a string comes before those that go on from it
unfoldable pub sorts_before : List ℕ → List ℕ → Bool
sorts_before [] [] = false
sorts_before [] (b ∷ ys) = true
sorts_before (a ∷ xs) [] = false
sorts_before (a ∷ xs) (b ∷ ys) = cond (ltb a b) true (cond (ltb b a) false (sorts_before xs ys))

-- which of two comes first
unfoldable pub order_of : List ℕ → List ℕ → Ordering
order_of x y = cond (sorts_before x y) Ordering.Less (cond (sorts_before y x) Ordering.Greater Ordering.Equal)

-- ---- what the functions inside promise one another

-- the number p with the k bytes from i on behind it, the first byte highest
unfoldable pub horner : ℕ → ℕ → List ℕ → ℕ → ℕ
horner p zero s i = p
horner p (suc k) s i = horner (256 * p + get_or s i 0) k s (i + 1)
