-- Molecule (RFC 0008): the types that CKB uses, their values, how a value is written, and which strings are read as one. Unions are left out,
-- since nothing that is read here has one. Which types may stand where is said in proofs/Valid.antt.
use Rattle.std.specs.Prelude.{◌≡◌, ℕ, zero, suc, ◌+◌, ◌*◌, ◌^◌, ◌<◌, Bool, length, take, drop, leb, ltb, eqb}
use mathlib.Core.List.{List, [], ◌∷◌, ◌++◌, map, flatten}
use Rattle.std.proofs.Math.Option
use Rattle.std.proofs.Math.Option.{Option, none, some, bind}
use Rattle.arithmetic.specs.LittleEndian.{le, to_le}
use Rattle.molecule.specs.Partial.{only, there, both, each, All}
use Rattle.molecule.specs.Items.{join, split}

infixr 60 ◌&◌
mutual
  pub data Ty : Type 0 where
    byte : Ty
    array : Ty → ℕ → Ty  -- n items of a fixed size, one after the other
    struct : Fields → Ty  -- fields of fixed sizes, one after the other
    fixvec : Ty → Ty  -- any number of items of a fixed size: their number, then the items
    dynvec : Ty → Ty  -- any number of items of no fixed size, behind a header
    table : Fields → Ty  -- one item of each type, behind a header
    option : Ty → Ty  -- nothing, or an item

  pub data Fields : Type 0 where
    end : Fields
    ◌&◌ : Ty → Fields → Fields

abbrev mutual
  pub Value : Ty → Type 0
  Value byte = ℕ
  Value (array t n) = List (Value t)
  Value (struct ts) = Values ts
  Value (fixvec t) = List (Value t)
  Value (dynvec t) = List (Value t)
  Value (table ts) = Values ts
  Value (option t) = Option (Value t)

  pub Values : Fields → Type 0
  Values end = Unit {0}
  Values (t & ts) = Value t × Values ts

-- how many bytes a type of a fixed size has; 0 for the others
unfoldable mutual
  pub size : Ty → ℕ
  size byte = 1
  size (array t n) = n * size t
  size (struct ts) = sizes ts
  size (fixvec t) = 0
  size (dynvec t) = 0
  size (table ts) = 0
  size (option t) = 0

  pub sizes : Fields → ℕ
  sizes end = 0
  sizes (t & ts) = size t + sizes ts

unfoldable mutual
  pub encode : (t : Ty) → Value t → List ℕ
  encode byte b = b ∷ []
  encode (array t n) v = flatten (map (λ x. encode t x) v)
  encode (struct ts) v = flatten (encodes ts v)
  encode (fixvec t) v = to_le 4 (length v) ++ flatten (map (λ x. encode t x) v)
  encode (dynvec t) v = join (map (λ x. encode t x) v)
  encode (table ts) v = join (encodes ts v)
  encode (option t) none = []
  encode (option t) (some v) = encode t v

  pub encodes : (ts : Fields) → Values ts → List (List ℕ)
  encodes end v = []
  encodes (t & ts) v = encode t v.0 ∷ encodes ts v.1

-- n pieces of k bytes; and a piece for each field of a struct
unfoldable pub chunks : ℕ → ℕ → List ℕ → List (List ℕ)
chunks zero k s = []
chunks (suc n) k s = take k s ∷ chunks n k (drop k s)

unfoldable pub pieces : Fields → List ℕ → List (List ℕ)
pieces end s = []
pieces (t & ts) s = take (size t) s ∷ pieces ts (drop (size t) s)

unfoldable pub one_byte : List ℕ → Option ℕ
one_byte [] = none
one_byte (b ∷ []) = some b
one_byte (b ∷ c ∷ s) = none

-- The value that a string is read as, if it is one. No vector and no table of 2^32 bytes or more is read: its size would not fit four bytes. A
-- fixvec, which has only a count, is held to the same limit.
unfoldable mutual
  pub decode : (t : Ty) → List ℕ → Option (Value t)
  decode byte s = one_byte s
  decode (array t n) s = only (eqb (length s) (n * size t)) (each (λ x. decode t x) (chunks n (size t) s))
  decode (struct ts) s = only (eqb (length s) (sizes ts)) (decodes ts (pieces ts s))
  decode (fixvec t) s =
      only (ltb (length s) (2 ^ 32))
      (only (leb 4 (length s))
      (only (eqb (length s) (4 + le (take 4 s) * size t))
      (each (λ x. decode t x) (chunks (le (take 4 s)) (size t) (drop 4 s)))))
  decode (dynvec t) s = bind (split s) (each (λ x. decode t x))
  decode (table ts) s = bind (split s) (λ xs. decodes ts xs)
  decode (option t) [] = some none
  decode (option t) (x ∷ s) = Option.map some (decode t (x ∷ s))

  pub decodes : (ts : Fields) → List (List ℕ) → Option (Values ts)
  decodes end [] = some tt
  decodes end (x ∷ xs) = none
  decodes (t & ts) [] = none
  decodes (t & ts) (x ∷ xs) = both (λ v vs. (v, vs)) (decode t x) (decodes ts xs)

unfoldable pub readable : Ty → List ℕ → Bool
readable t s = there (decode t s)

-- which elements are a value: a byte is below 256, an array has its number of items
abbrev mutual
  pub Good : (t : Ty) → Value t → Type 0
  Good byte b = b < 256
  Good (array t n) v = (length v ≡ n) × All (λ x. Good t x) v
  Good (struct ts) v = Goods ts v
  Good (fixvec t) v = All (λ x. Good t x) v
  Good (dynvec t) v = All (λ x. Good t x) v
  Good (table ts) v = Goods ts v
  Good (option t) none = Unit {0}
  Good (option t) (some v) = Good t v

  pub Goods : (ts : Fields) → Values ts → Type 0
  Goods end v = Unit {0}
  Goods (t & ts) v = Good t v.0 × Goods ts v.1
