-- Out points and lists of them, in bytes (docs/RULES.md, "The bytes underneath": an out point is a hash of 32 bytes and an index of 4; a list of
-- sized items is its count, then the items).
use Rattle.std.specs.Prelude.{ℕ, ◌+◌, ◌%◌, ◌^◌, ◌<◌, Bool, true, false, cond, ◌&&◌, List, [], ◌∷◌, ◌++◌, length, ◌==◌}
use Rattle.arithmetic.specs.LittleEndian.{to_le, u32_at, u64_at}
use Rattle.molecule.specs.Layout.{span, fix_count, fix_item}
use Rattle.out_points.specs.declared.{Byte32.Byte32, OutPoint.OutPoint}

-- its numbers fit their types, as in every value that code has
pub record Fit (p : OutPoint) : Type 0 where
  pub a_fits : p.hash.a < 2 ^ 64
  pub b_fits : p.hash.b < 2 ^ 64
  pub c_fits : p.hash.c < 2 ^ 64
  pub d_fits : p.hash.d < 2 ^ 64
  pub index-fits : p.index < 2 ^ 32

-- ---- when two are the same

unfoldable pub eq_hash : Byte32 → Byte32 → Bool
eq_hash x y = x.a == y.a && (x.b == y.b && (x.c == y.c && x.d == y.d))

unfoldable pub eq_point : OutPoint → OutPoint → Bool
eq_point p q = p.index == q.index && eq_hash p.hash q.hash

-- p is in the list
unfoldable pub has : OutPoint → List OutPoint → Bool
has p [] = false
has p (q ∷ l) = cond (eq_point p q) true (has p l)

-- ---- slots

-- one of 4,093 slots: the sum of an out point's words, modulo a prime, so that each bit moves it. Marks of a short list's slots tell of most out points that
-- they are not in it
unfoldable pub slot_of : OutPoint → ℕ
slot_of p = ((((p.hash.a + p.hash.b) % 2 ^ 64 + p.hash.c) % 2 ^ 64 + p.hash.d) % 2 ^ 64 + p.index) % 2 ^ 64 % 4093

-- ---- read; a number that is not there whole is 0

unfoldable pub byte32_at : List ℕ → ℕ → Byte32
byte32_at s at = record { a = u64_at s at; b = u64_at s (at + 8); c = u64_at s (at + 16); d = u64_at s (at + 24) }

unfoldable pub out_point_at : List ℕ → ℕ → OutPoint
out_point_at s at = record { hash = byte32_at s at; index = u32_at s (at + 32) }

-- item i of a lent list, and all its items
unfoldable pub point_of : List ℕ → ℕ → OutPoint
point_of s i = out_point_at (fix_item s 36 i) 0

abbrev pub points : List ℕ → List OutPoint
points s = span (point_of s) 0 (fix_count s)

-- ---- written

unfoldable pub hash_bytes : Byte32 → List ℕ
hash_bytes h = to_le 8 h.a ++ to_le 8 h.b ++ to_le 8 h.c ++ to_le 8 h.d

unfoldable pub point_bytes : OutPoint → List ℕ
point_bytes p = hash_bytes p.hash ++ to_le 4 p.index

unfoldable pub points_bytes : List OutPoint → List ℕ
points_bytes [] = []
points_bytes (p ∷ l) = point_bytes p ++ points_bytes l

-- a list: its count in four bytes, then its out points
unfoldable pub point_list : List OutPoint → List ℕ
point_list l = to_le 4 (length l) ++ points_bytes l
