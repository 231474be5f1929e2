-- A string is read as a value exactly if it is that value, written: `encode-decode`, `decode-encode`, and both as `accepted`.
use mathlib.Core.Path.{◌≡◌, refl, ap, ap₂, sym, ◌∙◌, subst}
use Prim.Native.Nat.{ℕ, ◌+◌, ◌*◌, ◌^◌, ◌≤◌, ◌<◌}
use native.Mathlib.Nat.{le-mul_of_pos_right}
use native.Mathlib.Omega.{arith}
use mathlib.Core.List.{List, [], ◌∷◌, ◌++◌, map, flatten}
use mathlib.Core.Option
use mathlib.Core.Option.{Option, none, some, bind-eq-some_iff, map-eq-some_iff, some-injective, none-ne-some}
use mathlib.Core.Bool.{not}
use mathlib.Core.Logic.{◌↔◌}
use lib.ListN.{length, take, drop, length-append, length-drop, length-map, take-append-drop}
use lib.Seq.{take_at, drop_at}
use lib.Dec.{T, leb→le, ltb→lt, eqb→eq}
use mir.Facts.{and_yes, yes_and, yes_eqb, yes_leb, yes_ltb}
use Rattle.arithmetic.specs.LittleEndian.{le, to_le, AllBytes}
use Rattle.arithmetic.proofs.LittleEndianLaws.{length-to_le, le-to_le}
use Rattle.molecule.specs.Partial.{both, each, All}
use Rattle.molecule.specs.Items.{join, split}
use Rattle.molecule.specs.Molecule.{Ty, byte, array, struct, fixvec, dynvec, table, option, Fields, end, ◌&◌, Value, Values, size, sizes, encode, encodes, chunks, pieces, one_byte, decode, decodes, Good, Goods}
use Rattle.molecule.proofs.Valid.{fixed, all_fixed, has_bytes, valid, all_valid}
use Rattle.molecule.proofs.PartialLaws.{only_yes, only-some, both_some, bind_some, length-each, each_all, map_each, each_map, all_map}
use Rattle.molecule.proofs.ItemsLaws.{word_back, bytes_drop, join-split, split-join, split-bytes, length-join, length_flatten, short_flatten, short_join}
use Rattle.molecule.proofs.ChunksLaws.{Long, length-chunks, bytes-chunks, bytes-pieces, length_all, flatten_chunks, chunks_flatten, flatten_pieces}

-- ---- which types

pub fixed_valid : (t : Ty) → T (fixed t) → T (valid t)
unfolding fixed valid
fixed_valid byte ok = tt
fixed_valid (array t n) ok = ok
fixed_valid (struct ts) ok = ok
fixed_valid (fixvec t) ok = absurd ok
fixed_valid (dynvec t) ok = absurd ok
fixed_valid (table ts) ok = absurd ok
fixed_valid (option t) ok = absurd ok

pub all_fixed_valid : (ts : Fields) → T (all_fixed ts) → T (all_valid ts)
unfolding fixed valid
all_fixed_valid end ok = tt
all_fixed_valid (t & ts) ok =
    let oks = and_yes (fixed t) (all_fixed ts) ok in
    yes_and (valid t) (all_valid ts) (fixed_valid t oks.0) (all_fixed_valid ts oks.1)

-- a fixed type that has bytes has some size
pub size_positive : (t : Ty) → T (fixed t) → T (has_bytes t) → 0 < size t
unfolding fixed has_bytes size
size_positive byte f h = omega arith
size_positive (array t n) f h = ltb→lt 0 (n * size t) h
size_positive (struct ts) f h = ltb→lt 0 (sizes ts) h
size_positive (fixvec t) f h = absurd f
size_positive (dynvec t) f h = absurd f
size_positive (table ts) f h = absurd f
size_positive (option t) f h = absurd f

-- ---- what is read is what was written

pub one_byte_lem : (s : List ℕ) (b : ℕ) → one_byte s ≡ some b → b ∷ [] ≡ s
unfolding one_byte
one_byte_lem [] b e = absurd (none-ne-some b e)
one_byte_lem (a ∷ []) b e = ap {B = List ℕ} (λ (x : ℕ). x ∷ []) (sym (some-injective _ _ e))
one_byte_lem (a ∷ c ∷ s) b e = absurd (none-ne-some b e)

-- a fixvec that is read: its length, its count, and its items
pub record Fixvec (t : Ty) (s : List ℕ) (v : List (Value t)) : Type 0 where
  pub below : length s < 2 ^ 32
  pub four : 4 ≤ length s
  pub long : length s ≡ 4 + le (take 4 s) * size t
  pub items : each (λ x. decode t x) (chunks (le (take 4 s)) (size t) (drop 4 s)) ≡ some v

pub fixvec_read : (t : Ty) (s : List ℕ) (v : List (Value t)) → decode (fixvec t) s ≡ some v → Fixvec t s v
unfolding decode
fixvec_read t s v e =
    let a = only-some _ _ e in
    let b = only-some _ _ a.1 in
    let c = only-some _ _ b.1 in
    record { below = ltb→lt _ _ a.0; four = leb→le _ _ b.0; long = eqb→eq _ _ c.0; items = c.1 }

pub fixvec-count : (t : Ty) (s : List ℕ) (v : List (Value t)) → Fixvec t s v → length v ≡ le (take 4 s)
fixvec-count t s v r = length-each (λ x. decode t x) _ v r.items ∙ length-chunks (le (take 4 s)) (size t) (drop 4 s)

fixvec_again : (t : Ty) (s : List ℕ) (v : List (Value t)) → AllBytes s → Fixvec t s v
    → map (λ x. encode t x) v ≡ chunks (le (take 4 s)) (size t) (drop 4 s) → to_le 4 (length v) ++ flatten (map (λ x. encode t x) v) ≡ s
fixvec_again t s v b r e =
    let four : 4 ≤ length s = r.four in
    let l : length (drop 4 s) ≡ le (take 4 s) * size t = omega (arith, length-drop 4 s, r.long) in
    ap₂ ◌++◌
    (ap (to_le 4) (fixvec-count t s v r) ∙ word_back s b four)
    (ap flatten e ∙ flatten_chunks (le (take 4 s)) (size t) (drop 4 s) l)
    ∙ take-append-drop 4 s

mutual
  unfolding encode decode valid

  pub encode-decode : (t : Ty) → T (valid t) → (s : List ℕ) (v : Value t) → AllBytes s → decode t s ≡ some v → encode t v ≡ s
  encode-decode byte ok s v b e = one_byte_lem s v e
  encode-decode (array t n) ok s v b e =
      let c = only-some _ _ e in
      let ok' = fixed_valid t ok in
      ap flatten (map_each (λ x. decode t x) AllBytes (λ x. encode t x) (λ x w b e. encode-decode t ok' x w b e) _ v (bytes-chunks n (size t) s b) c.1)
      ∙ flatten_chunks n (size t) s (eqb→eq _ _ c.0)
  encode-decode (struct ts) ok s v b e =
      let c = only-some _ _ e in
      ap flatten (encodes-decodes ts (all_fixed_valid ts ok) (pieces ts s) v (bytes-pieces ts s b) c.1) ∙ flatten_pieces ts s (eqb→eq _ _ c.0)
  encode-decode (fixvec t) ok s v b e =
      let r = fixvec_read t s v e in
      let ok' = fixed_valid t (and_yes (fixed t) (has_bytes t) ok).0 in
      fixvec_again t s v b r
      (map_each (λ x. decode t x) AllBytes (λ x. encode t x) (λ x w b e. encode-decode t ok' x w b e) _ v (bytes-chunks (le (take 4 s)) (size t) (drop 4 s) (bytes_drop 4 s b)) r.items)
  encode-decode (dynvec t) ok s v b e =
      let c = (bind-eq-some_iff _ _).0 e in
      let ok' = (and_yes (not (fixed t)) (valid t) ok).1 in
      ap join (map_each (λ x. decode t x) AllBytes (λ x. encode t x) (λ x w b e. encode-decode t ok' x w b e) c.0 v (split-bytes s c.0 b c.1) c.2)
      ∙ join-split s c.0 b c.1
  encode-decode (table ts) ok s v b e =
      let c = (bind-eq-some_iff _ _).0 e in
      ap join (encodes-decodes ts ok c.0 v (split-bytes s c.0 b c.1) c.2) ∙ join-split s c.0 b c.1
  encode-decode (option t) ok [] v b e = ap (encode (option t)) (sym (some-injective _ _ e))
  encode-decode (option t) ok (x ∷ s) v b e =
      let m = (map-eq-some_iff _ _).0 e in
      ap (encode (option t)) (sym m.2) ∙ encode-decode t (and_yes (has_bytes t) (valid t) ok).1 (x ∷ s) m.0 b m.1

  pub encodes-decodes : (ts : Fields) → T (all_valid ts) → (xs : List (List ℕ)) (v : Values ts) → All AllBytes xs → decodes ts xs ≡ some v → encodes ts v ≡ xs
  encodes-decodes end ok [] v b e = refl
  encodes-decodes end ok (x ∷ xs) v b e = absurd (none-ne-some v e)
  encodes-decodes (t & ts) ok [] v b e = absurd (none-ne-some v e)
  encodes-decodes (t & ts) ok (x ∷ xs) v b e =
      let c = both_some _ _ _ e in
      let oks = and_yes (valid t) (all_valid ts) ok in
      ap (encodes (t & ts)) (sym c.is-both)
      ∙ ap₂ ◌∷◌ (encode-decode t oks.0 x c.left b.0 c.is-left) (encodes-decodes ts oks.1 xs c.right b.1 c.is_right)

-- ---- a fixed type's encoding has its size

mutual
  unfolding encode size fixed flatten

  pub length_fixed : (t : Ty) → T (fixed t) → (v : Value t) → Good t v → length (encode t v) ≡ size t
  length_fixed byte ok v g = refl
  length_fixed (array t n) ok v g =
      length_all (size t) (map (λ x. encode t x) v)
      (all_map (λ x. Good t x) (λ (x : List ℕ). length x ≡ size t) (λ x. encode t x) (λ x g. length_fixed t ok x g) v g.1)
      ∙ ap (λ (m : ℕ). m * size t) (length-map v (λ x. encode t x) ∙ g.0)
  length_fixed (struct ts) ok v g = lengths_fixed ts ok v g
  length_fixed (fixvec t) ok v g = absurd ok
  length_fixed (dynvec t) ok v g = absurd ok
  length_fixed (table ts) ok v g = absurd ok
  length_fixed (option t) ok v g = absurd ok

  pub lengths_fixed : (ts : Fields) → T (all_fixed ts) → (v : Values ts) → Goods ts v → length (flatten (encodes ts v)) ≡ sizes ts
  lengths_fixed end ok v g = refl
  lengths_fixed (t & ts) ok v g =
      let oks = and_yes (fixed t) (all_fixed ts) ok in
      length_flatten (encode t v.0) (encodes ts v.1)
      ∙ ap₂ ◌+◌ (length_fixed t oks.0 v.0 g.0) (lengths_fixed ts oks.1 v.1 g.1)

-- so have the items of an array and of a fixvec
long-items : (t : Ty) → T (fixed t) → (v : List (Value t)) → All (λ x. Good t x) v → Long (size t) (map (λ x. encode t x) v)
long-items t ok v g = all_map (λ x. Good t x) (λ (x : List ℕ). length x ≡ size t) (λ x. encode t x) (λ x g. length_fixed t ok x g) v g

pub pieces-encodes : (ts : Fields) → T (all_fixed ts) → (v : Values ts) → Goods ts v → pieces ts (flatten (encodes ts v)) ≡ encodes ts v
unfolding pieces encode fixed flatten
pieces-encodes end ok v g = refl
pieces-encodes (t & ts) ok v g =
    let oks = and_yes (fixed t) (all_fixed ts) ok in
    let l = length_fixed t oks.0 v.0 g.0 in
    ap₂ ◌∷◌
    (take_at (encode t v.0) (flatten (encodes ts v.1)) (size t) l)
    (ap (pieces ts) (drop_at (encode t v.0) (flatten (encodes ts v.1)) (size t) l) ∙ pieces-encodes ts oks.1 v.1 g.1)

-- ---- what is written is read back

has-bytes : (t : Ty) (v : Value t) → T (has_bytes t) → T (valid t) → Good t v → 0 < length (encode t v)
unfolding has_bytes encode valid size fixed
has-bytes byte v h ok g = omega arith
has-bytes (array t n) v h ok g = omega (arith, ltb→lt 0 (n * size t) h, length_fixed (array t n) ok v g)
has-bytes (struct ts) v h ok g = omega (arith, ltb→lt 0 (sizes ts) h, length_fixed (struct ts) ok v g)
has-bytes (fixvec t) v h ok g =
    let xs : List ℕ = flatten (map (λ x. encode t x) v) in
    omega (arith, length-append (to_le 4 (length v)) xs, length-to_le 4 (length v))
has-bytes (dynvec t) v h ok g = let xs : List (List ℕ) = map (λ x. encode t x) v in omega (arith, length-join xs)
has-bytes (table ts) v h ok g = omega (arith, length-join (encodes ts v))
has-bytes (option t) v h ok g = absurd h

decode-option : (t : Ty) (s : List ℕ) → 0 < length s → decode (option t) s ≡ Option.map some (decode t s)
unfolding decode
decode-option t [] h = let never : ⊥ = omega arith in absurd never
decode-option t (x ∷ s) h = refl

-- where the items are read back, so is the whole
decode-array : (t : Ty) (n : ℕ) (v : List (Value t)) (xs : List (List ℕ)) → length xs ≡ n → Long (size t) xs
    → each (λ x. decode t x) xs ≡ some v → decode (array t n) (flatten xs) ≡ some v
unfolding decode
decode-array t n v xs l long e =
    let s : length (flatten xs) ≡ n * size t = length_all (size t) xs long ∙ ap (λ (m : ℕ). m * size t) l in
    only_yes _ _ (yes_eqb s) ∙ ap (each (λ x. decode t x)) (chunks_flatten n (size t) xs l long) ∙ e

decode-fixvec : (t : Ty) (n : ℕ) (v : List (Value t)) (xs : List (List ℕ)) → length xs ≡ n → 0 < size t → Long (size t) xs
    → length (to_le 4 n ++ flatten xs) < 2 ^ 32 → each (λ x. decode t x) xs ≡ some v → decode (fixvec t) (to_le 4 n ++ flatten xs) ≡ some v
unfolding decode
decode-fixvec t n v xs l pos long short e =
    let s : List ℕ = to_le 4 n ++ flatten xs in
    let f : length (flatten xs) ≡ n * size t = length_all (size t) xs long ∙ ap (λ (m : ℕ). m * size t) l in
    let ls : length s ≡ 4 + n * size t = omega (arith, length-append (to_le 4 n) (flatten xs), length-to_le 4 n) in
    let small : n < 2 ^ 32 = omega (arith, le-mul_of_pos_right n pos) in
    let w : le (take 4 s) ≡ n = ap le (take_at (to_le 4 n) (flatten xs) 4 (length-to_le 4 n)) ∙ le-to_le 4 n small in
    let four : 4 ≤ length s = omega arith in
    let whole : length s ≡ 4 + le (take 4 s) * size t = ls ∙ ap (λ (m : ℕ). 4 + m * size t) (sym w) in
    only_yes _ _ (yes_ltb short)
    ∙ only_yes _ _ (yes_leb four)
    ∙ only_yes _ _ (yes_eqb whole)
    ∙ ap₂ (λ (m : ℕ) (r : List ℕ). each (λ x. decode t x) (chunks m (size t) r)) w (drop_at (to_le 4 n) (flatten xs) 4 (length-to_le 4 n))
    ∙ ap (each (λ x. decode t x)) (chunks_flatten n (size t) xs l long)
    ∙ e

abbrev Short : List ℕ → Type 0
Short x = length x < 2 ^ 32

mutual
  unfolding encode decode valid both one_byte

  pub decode-encode : (t : Ty) → T (valid t) → (v : Value t) → Good t v → length (encode t v) < 2 ^ 32 → decode t (encode t v) ≡ some v
  decode-encode byte ok v g short = refl
  decode-encode (array t n) ok v g short =
      let xs : List (List ℕ) = map (λ x. encode t x) v in
      let ok' = fixed_valid t ok in
      decode-array t n v xs (length-map v (λ x. encode t x) ∙ g.0) (long-items t ok v g.1)
      (each_map (λ x. decode t x) (λ x. Good t x) Short (λ x. encode t x) (λ x g l. decode-encode t ok' x g l) v g.1 (short_flatten (2 ^ 32) xs short))
  decode-encode (struct ts) ok v g short =
      let xs : List (List ℕ) = encodes ts v in
      only_yes _ _ (yes_eqb (lengths_fixed ts ok v g))
      ∙ ap (decodes ts) (pieces-encodes ts ok v g)
      ∙ decodes-encodes ts (all_fixed_valid ts ok) v g (short_flatten (2 ^ 32) xs short)
  decode-encode (fixvec t) ok v g short =
      let xs : List (List ℕ) = map (λ x. encode t x) v in
      let oks = and_yes (fixed t) (has_bytes t) ok in
      let ok' = fixed_valid t oks.0 in
      let low : length (flatten xs) < 2 ^ 32 = omega (arith, length-append (to_le 4 (length v)) (flatten xs)) in
      decode-fixvec t (length v) v xs (length-map v (λ x. encode t x)) (size_positive t oks.0 oks.1) (long-items t oks.0 v g) short
      (each_map (λ x. decode t x) (λ x. Good t x) Short (λ x. encode t x) (λ x g l. decode-encode t ok' x g l) v g (short_flatten (2 ^ 32) xs low))
  decode-encode (dynvec t) ok v g short =
      let xs : List (List ℕ) = map (λ x. encode t x) v in
      let ok' = (and_yes (not (fixed t)) (valid t) ok).1 in
      bind_some (split (join xs)) _ xs v (split-join xs short)
      (each_map (λ x. decode t x) (λ x. Good t x) Short (λ x. encode t x) (λ x g l. decode-encode t ok' x g l) v g (short_join (2 ^ 32) xs short))
  decode-encode (table ts) ok v g short =
      let xs : List (List ℕ) = encodes ts v in
      bind_some (split (join xs)) _ xs v (split-join xs short) (decodes-encodes ts ok v g (short_join (2 ^ 32) xs short))
  decode-encode (option t) ok none g short = refl
  decode-encode (option t) ok (some v) g short =
      let oks = and_yes (has_bytes t) (valid t) ok in
      decode-option t (encode t v) (has-bytes t v oks.0 oks.1 g) ∙ ap (Option.map some) (decode-encode t oks.1 v g short)

  pub decodes-encodes : (ts : Fields) → T (all_valid ts) → (v : Values ts) → Goods ts v → All Short (encodes ts v) → decodes ts (encodes ts v) ≡ some v
  decodes-encodes end ok v g short = refl
  decodes-encodes (t & ts) ok v g short =
      let oks = and_yes (valid t) (all_valid ts) ok in
      ap₂ (both (λ x xs. (x, xs))) (decode-encode t oks.0 v.0 g.0 short.0) (decodes-encodes ts oks.1 v.1 g.1 short.1)

-- ---- what is read is a value of its type

mutual
  unfolding decode

  pub decode_good : (t : Ty) (s : List ℕ) (v : Value t) → AllBytes s → decode t s ≡ some v → Good t v
  decode_good byte s v b e = subst (λ (r : List ℕ). AllBytes r) (sym (one_byte_lem s v e)) b 0
  decode_good (array t n) s v b e =
      let c = only-some _ _ e in (
        length-each (λ x. decode t x) _ v c.1 ∙ length-chunks n (size t) s,
        each_all (λ x. decode t x) AllBytes (λ x. Good t x) (λ x w b e. decode_good t x w b e) _ v (bytes-chunks n (size t) s b) c.1,
      )
  decode_good (struct ts) s v b e = decodes_good ts (pieces ts s) v (bytes-pieces ts s b) (only-some _ _ e).1
  decode_good (fixvec t) s v b e =
      let r = fixvec_read t s v e in
      each_all (λ x. decode t x) AllBytes (λ x. Good t x) (λ x w b e. decode_good t x w b e) _ v
      (bytes-chunks (le (take 4 s)) (size t) (drop 4 s) (bytes_drop 4 s b)) r.items
  decode_good (dynvec t) s v b e =
      let c = (bind-eq-some_iff _ _).0 e in
      each_all (λ x. decode t x) AllBytes (λ x. Good t x) (λ x w b e. decode_good t x w b e) c.0 v (split-bytes s c.0 b c.1) c.2
  decode_good (table ts) s v b e =
      let c = (bind-eq-some_iff _ _).0 e in
      decodes_good ts c.0 v (split-bytes s c.0 b c.1) c.2
  decode_good (option t) [] v b e = subst (λ (r : Option (Value t)). Good (option t) r) (some-injective _ _ e) tt
  decode_good (option t) (x ∷ s) v b e =
      let m = (map-eq-some_iff _ _).0 e in
      subst (λ (r : Option (Value t)). Good (option t) r) m.2 (decode_good t (x ∷ s) m.0 b m.1)

  pub decodes_good : (ts : Fields) (xs : List (List ℕ)) (v : Values ts) → All AllBytes xs → decodes ts xs ≡ some v → Goods ts v
  decodes_good end xs v b e = tt
  decodes_good (t & ts) [] v b e = absurd (none-ne-some v e)
  decodes_good (t & ts) (x ∷ xs) v b e =
      let c = both_some _ _ _ e in
      subst (λ (r : Values (t & ts)). Goods (t & ts) r) c.is-both
      (decode_good t x c.left b.0 c.is-left, decodes_good ts xs c.right b.1 c.is_right)

-- ---- so what is accepted is exactly what is written

module _ (t : Ty) (ok : T (valid t)) where
  pub accepted : (s : List ℕ) → AllBytes s → length s < 2 ^ 32 → (v : Value t) → (decode t s ≡ some v) ↔ (Good t v × (encode t v ≡ s))
  accepted s b short v = (
    λ e. (decode_good t s v b e, encode-decode t ok s v b e),
    λ h. let l : length (encode t v) < 2 ^ 32 = rw h.1 short in ap (decode t) (sym h.1) ∙ decode-encode t ok v h.0 l,
  )

  -- no two values are written alike
  pub encode_injective : (v w : Value t) → Good t v → Good t w → length (encode t v) < 2 ^ 32 → encode t v ≡ encode t w → v ≡ w
  encode_injective v w g h short e =
      let a : decode t (encode t v) ≡ some v = decode-encode t ok v g short in
      let b : decode t (encode t w) ≡ some w = decode-encode t ok w h (rw e at short) in
      some-injective v w (sym a ∙ ap (decode t) e ∙ b)
