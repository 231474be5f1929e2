-- Bytes cut into pieces, and put together again: the laws of `chunks` and `pieces` of specs/Molecule.antt.
use mathlib.Core.Path.{◌≡◌, refl, ap, ap₂, ◌∙◌}
use Prim.Native.Nat.{ℕ, zero, suc, ◌*◌, ◌≤◌}
use native.Mathlib.Nat.{suc-mul}
use native.Mathlib.Omega.{arith}
use mathlib.Core.List.{List, [], ◌∷◌, ◌++◌, flatten}
use lib.ListN.{length, take, drop, length-drop, take-append-drop}
use lib.Seq.{take_at, drop_at, length-take-le}
use Rattle.arithmetic.specs.LittleEndian.{AllBytes}
use Rattle.molecule.specs.Partial.{All}
use Rattle.molecule.specs.Molecule.{Fields, end, ◌&◌, size, sizes, chunks, pieces}
use Rattle.molecule.proofs.ItemsLaws.{bytes_take, bytes_drop, length_flatten}

-- every one is k long
abbrev pub Long : ℕ → List (List ℕ) → Type 0
Long k xs = All (λ (x : List ℕ). length x ≡ k) xs

pub length-chunks : (n k : ℕ) (s : List ℕ) → length (chunks n k s) ≡ n
unfolding chunks
length-chunks zero k s = refl
length-chunks (suc n) k s = ap suc (length-chunks n k (drop k s))

pub bytes-chunks : (n k : ℕ) (s : List ℕ) → AllBytes s → All AllBytes (chunks n k s)
unfolding chunks
bytes-chunks zero k s b = tt
bytes-chunks (suc n) k s b = (bytes_take k s b, bytes-chunks n k (drop k s) (bytes_drop k s b))

pub bytes-pieces : (ts : Fields) (s : List ℕ) → AllBytes s → All AllBytes (pieces ts s)
unfolding pieces
bytes-pieces end s b = tt
bytes-pieces (t & ts) s b = (bytes_take (size t) s b, bytes-pieces ts (drop (size t) s) (bytes_drop (size t) s b))

pub length_all : (k : ℕ) (xs : List (List ℕ)) → Long k xs → length (flatten xs) ≡ length xs * k
unfolding flatten
length_all k [] h = omega arith
length_all k (x ∷ xs) h = omega (arith, h.0, length_flatten x xs, length_all k xs h.1, suc-mul (length xs) k)

-- what is left behind the first piece
module _ (n k : ℕ) (s : List ℕ) (e : length s ≡ suc n * k) where
  first-long : k ≤ length s
  first-long = omega (arith, suc-mul n k)

  rest-long : length (drop k s) ≡ n * k
  rest-long = omega (arith, suc-mul n k, length-drop k s)

pub chunks_long : (n k : ℕ) (s : List ℕ) → length s ≡ n * k → Long k (chunks n k s)
unfolding chunks
chunks_long zero k s e = tt
chunks_long (suc n) k s e = (length-take-le k s (first-long n k s e), chunks_long n k (drop k s) (rest-long n k s e))

pub flatten_chunks : (n k : ℕ) (s : List ℕ) → length s ≡ n * k → flatten (chunks n k s) ≡ s
unfolding chunks flatten
flatten_chunks zero k [] e = refl
flatten_chunks zero k (x ∷ s) e = let never : ⊥ = omega arith in absurd never
flatten_chunks (suc n) k s e =
    ap (λ (r : List ℕ). take k s ++ r) (flatten_chunks n k (drop k s) (rest-long n k s e)) ∙ take-append-drop k s

pub chunks_flatten : (n k : ℕ) (xs : List (List ℕ)) → length xs ≡ n → Long k xs → chunks n k (flatten xs) ≡ xs
unfolding chunks flatten
chunks_flatten zero k [] e h = refl
chunks_flatten zero k (x ∷ xs) e h = let never : ⊥ = omega arith in absurd never
chunks_flatten (suc n) k [] e h = let never : ⊥ = omega arith in absurd never
chunks_flatten (suc n) k (x ∷ xs) e h =
    ap₂ ◌∷◌ (take_at x (flatten xs) k h.0) (ap (chunks n k) (drop_at x (flatten xs) k h.0) ∙ chunks_flatten n k xs (omega arith) h.1)

pub flatten_pieces : (ts : Fields) (s : List ℕ) → length s ≡ sizes ts → flatten (pieces ts s) ≡ s
unfolding pieces flatten size
flatten_pieces end [] e = refl
flatten_pieces end (x ∷ s) e = let never : ⊥ = omega arith in absurd never
flatten_pieces (t & ts) s e =
    ap (λ (r : List ℕ). take (size t) s ++ r) (flatten_pieces ts (drop (size t) s) (omega (arith, length-drop (size t) s))) ∙ take-append-drop (size t) s
