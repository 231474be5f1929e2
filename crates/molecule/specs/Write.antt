-- What a write at a place does to a lent buffer (ours: docs/DECISIONS.md, "Writers").
use Rattle.std.specs.Prelude.{◌≡◌, ℕ, ◌+◌, ◌≤◌, cond, List, ◌++◌, length, take, drop, leb}

-- out with xs in place of what stood there from `at` on
unfoldable pub splice : List ℕ → ℕ → List ℕ → List ℕ
splice out at xs = take at out ++ xs ++ drop (at + length xs) out

-- the buffer after xs is put at `at`: as it was where there is no room for all of it
unfoldable pub put_at : List ℕ → ℕ → List ℕ → List ℕ
put_at out at xs = cond (leb (at + length xs) (length out)) (splice out at xs) out

-- the place after it
unfoldable pub put_end : List ℕ → ℕ → List ℕ → ℕ
put_end out at xs = cond (leb (at + length xs) (length out)) (at + length xs) at

-- the buffer `after` is `out` with xs at `at`, where there is room for it, and `next` is the place after it
pub record Put (out : List ℕ) (at : ℕ) (xs : List ℕ) (after : List ℕ) (next : ℕ) : Type 0 where
  pub bytes : after ≡ splice out at xs
  pub end : next ≡ at + length xs
  pub room : at + length xs ≤ length out
