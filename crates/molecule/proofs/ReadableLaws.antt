-- Which strings are readable: one law for each kind of type, and `read_exactly`, that these are exactly the encodings.
use mathlib.Core.Path.{◌≡◌, refl, ap, ap₂, sym, ◌∙◌}
use Prim.Native.Nat.{ℕ, suc, ◌+◌, ◌*◌, ◌^◌, ◌<◌}
use native.Mathlib.Omega.{arith}
use mathlib.Core.List.{List, [], ◌∷◌}
use mathlib.Core.Option.{Option, none, some, bind, bind-eq-some_iff, map-eq-some_iff}
use mathlib.Core.Bool.{Bool, true, false, cond, ◌&&◌, and_assoc}
use mathlib.Core.Logic.{◌↔◌}
use borrow.Author.Tests.{eqb-true, eq-eqb, ne_eqb}
use lib.ListN.{length, take, drop, length-drop}
use lib.Seq.{length-take-le}
use lib.Dec.{T, leb, ltb, eqb}
use mir.Facts.{and_yes}
use Rattle.arithmetic.specs.LittleEndian.{le, AllBytes}
use Rattle.molecule.specs.Partial.{there, each, All}
use Rattle.molecule.specs.Items.{split}
use Rattle.molecule.specs.Molecule.{Ty, byte, array, struct, fixvec, dynvec, table, option, Fields, end, ◌&◌, Value, size, sizes, chunks, pieces, one_byte, encode, decode, decodes, readable, Good}
use Rattle.molecule.proofs.Valid.{fixed, all_fixed, valid}
use Rattle.molecule.proofs.PartialLaws.{there-some, there-only, there_test, there-both, there-map}
use Rattle.molecule.proofs.ItemsLaws.{split_below}
use Rattle.molecule.proofs.ChunksLaws.{chunks_long}
use Rattle.molecule.proofs.MoleculeLaws.{fixvec_read, accepted}

-- ---- a test of each item

-- there is a result, and it passes the test
unfoldable pub holds : {A : Type 0} → Option A → (A → Bool) → Bool
holds none p = false
holds (some a) p = p a

unfoldable pub every : (List ℕ → Bool) → List (List ℕ) → Bool
every p [] = true
every p (x ∷ xs) = p x && every p xs

-- there is one item for each field, and it is readable
unfoldable pub all_readable : Fields → List (List ℕ) → Bool
all_readable end [] = true
all_readable end (x ∷ xs) = false
all_readable (t & ts) [] = false
all_readable (t & ts) (x ∷ xs) = readable t x && all_readable ts xs

there_bind : {A B : Type 0} (o : Option A) (f : A → Option B) (p : A → Bool) → ((a : A) → there (f a) ≡ p a) → there (bind o f) ≡ holds o p
unfolding there bind holds
there_bind none f p h = refl
there_bind (some a) f p h = h a

there-each : (t : Ty) (xs : List (List ℕ)) → there (each (λ x. decode t x) xs) ≡ every (readable t) xs
unfolding there each every readable
there-each t [] = refl
there-each t (x ∷ xs) = there-both _ (decode t x) (each (λ x. decode t x) xs) ∙ ap (λ (b : Bool). there (decode t x) && b) (there-each t xs)

there-decodes : (ts : Fields) (xs : List (List ℕ)) → there (decodes ts xs) ≡ all_readable ts xs
unfolding there decode all_readable readable
there-decodes end [] = refl
there-decodes end (x ∷ xs) = refl
there-decodes (t & ts) [] = refl
there-decodes (t & ts) (x ∷ xs) = there-both _ (decode t x) (decodes ts xs) ∙ ap (λ (b : Bool). there (decode t x) && b) (there-decodes ts xs)

-- ---- vectors, tables and options

pub readable-dynvec : (t : Ty) (s : List ℕ) → readable (dynvec t) s ≡ holds (split s) (every (readable t))
unfolding readable decode
readable-dynvec t s = there_bind (split s) _ _ (λ xs. there-each t xs)

pub readable-table : (ts : Fields) (s : List ℕ) → readable (table ts) s ≡ holds (split s) (all_readable ts)
unfolding readable decode
readable-table ts s = there_bind (split s) _ _ (λ xs. there-decodes ts xs)

pub readable-option : (t : Ty) (s : List ℕ) → readable (option t) s ≡ cond (eqb (length s) 0) true (readable t s)
unfolding readable decode there
readable-option t [] = refl
readable-option t (x ∷ s) = there-map some (decode t (x ∷ s)) ∙ sym (ap (λ (b : Bool). cond b true (there (decode t (x ∷ s)))) (ne_eqb (length (x ∷ s)) 0 (λ e. omega arith)))

-- a string that is nothing, or something
pub by_length : {A : Type 0} (s : List ℕ) → (s ≡ [] → A) → ((length s ≡ 0 → ⊥) → A) → A
by_length [] f g = f refl
by_length (b ∷ s) f g = g (λ (h : suc (length s) ≡ 0). omega arith)

pub of-option : (t : Ty) (s : List ℕ) → (length s ≡ 0 → ⊥) → readable (option t) s ≡ true → readable t s ≡ true
of-option t s n h = rw (ne_eqb _ _ n) at (sym (readable-option t s) ∙ h)

-- ---- any bytes of the right length are a value of a fixed type

every_true : (p : List ℕ → Bool) (P : List ℕ → Type 0) → ((x : List ℕ) → P x → p x ≡ true) → (xs : List (List ℕ)) → All P xs → every p xs ≡ true
unfolding every
every_true p P h [] q = refl
every_true p P h (x ∷ xs) q = ap₂ ◌&&◌ (h x q.0) (every_true p P h xs q.1)

readable-byte : (s : List ℕ) → there (one_byte s) ≡ eqb (length s) 1
unfolding there one_byte
readable-byte [] = refl
readable-byte (b ∷ []) = refl
readable-byte (b ∷ c ∷ s) = sym (ne_eqb (length (b ∷ c ∷ s)) 1 (λ e. omega arith))

mutual
  unfolding readable decode size fixed pieces all_readable

  pub readable_fixed : (t : Ty) → T (fixed t) → (s : List ℕ) → readable t s ≡ eqb (length s) (size t)
  readable_fixed byte ok s = readable-byte s
  readable_fixed (array t n) ok s =
      there_test _ _
      (λ e. there-each t (chunks n (size t) s)
      ∙ every_true (readable t) (λ (x : List ℕ). length x ≡ size t) (λ x h. readable_fixed t ok x ∙ eq-eqb _ _ h) _ (chunks_long n (size t) s (eqb-true _ _ e)))
  readable_fixed (struct ts) ok s = there_test _ _ (λ e. there-decodes ts (pieces ts s) ∙ pieces-readable ts ok s (eqb-true _ _ e))
  readable_fixed (fixvec t) ok s = absurd ok
  readable_fixed (dynvec t) ok s = absurd ok
  readable_fixed (table ts) ok s = absurd ok
  readable_fixed (option t) ok s = absurd ok

  pub pieces-readable : (ts : Fields) → T (all_fixed ts) → (s : List ℕ) → length s ≡ sizes ts → all_readable ts (pieces ts s) ≡ true
  pieces-readable end ok s e = refl
  pieces-readable (t & ts) ok s e =
      let oks = and_yes (fixed t) (all_fixed ts) ok in
      let l : length (take (size t) s) ≡ size t = length-take-le (size t) s (omega arith) in
      ap₂ ◌&&◌ (readable_fixed t oks.0 (take (size t) s) ∙ eq-eqb _ _ l)
      (pieces-readable ts oks.1 (drop (size t) s) (omega (arith, length-drop (size t) s)))

-- the same with the size as a number
pub sized : (t : Ty) → T (fixed t) → (k : ℕ) → size t ≡ k → (s : List ℕ) → readable t s ≡ eqb (length s) k
sized t ok k e s = readable_fixed t ok s ∙ ap (eqb (length s)) e

pub readable-fixvec : (t : Ty) → T (fixed t) → (s : List ℕ)
    → readable (fixvec t) s ≡ (ltb (length s) (2 ^ 32) && leb 4 (length s) && eqb (length s) (4 + le (take 4 s) * size t))
unfolding readable decode
readable-fixvec t ok s =
    there-only (ltb (length s) (2 ^ 32)) _
    ∙ ap (λ (b : Bool). ltb (length s) (2 ^ 32) && b)
    (there-only (leb 4 (length s)) _ ∙ ap (λ (b : Bool). leb 4 (length s) && b) (there_test (eqb (length s) (4 + le (take 4 s) * size t)) _ rest))
    ∙ sym (and_assoc (ltb (length s) (2 ^ 32)) (leb 4 (length s)) (eqb (length s) (4 + le (take 4 s) * size t)))
  where
    rest : eqb (length s) (4 + le (take 4 s) * size t) ≡ true → there (each (λ x. decode t x) (chunks (le (take 4 s)) (size t) (drop 4 s))) ≡ true
    rest e =
        let whole : length s ≡ 4 + le (take 4 s) * size t = eqb-true _ _ e in
        let l : length (drop 4 s) ≡ le (take 4 s) * size t = omega (arith, length-drop 4 s) in
        there-each t (chunks (le (take 4 s)) (size t) (drop 4 s))
        ∙ every_true (readable t) (λ (x : List ℕ). length x ≡ size t) (λ x h. readable_fixed t ok x ∙ eq-eqb _ _ h) _ (chunks_long (le (take 4 s)) (size t) (drop 4 s) l)

-- ---- no dynamic type has a string of 2^32 bytes

-- the encoding says its own length, or is empty
unfoldable pub dynamic : Ty → Bool
dynamic byte = false
dynamic (array t n) = false
dynamic (struct ts) = false
dynamic (fixvec t) = true
dynamic (dynvec t) = true
dynamic (table ts) = true
dynamic (option t) = dynamic t

decode-below : (t : Ty) → T (dynamic t) → (s : List ℕ) → AllBytes s → (v : Value t) → decode t s ≡ some v → length s < 2 ^ 32
unfolding dynamic decode
decode-below byte d s b v e = absurd d
decode-below (array t n) d s b v e = absurd d
decode-below (struct ts) d s b v e = absurd d
decode-below (fixvec t) d s b v e = (fixvec_read t s v e).below
decode-below (dynvec t) d s b v e = let c = (bind-eq-some_iff _ _).0 e in split_below s c.0 b c.1
decode-below (table ts) d s b v e = let c = (bind-eq-some_iff _ _).0 e in split_below s c.0 b c.1
decode-below (option t) d [] b v e = omega arith
decode-below (option t) d (x ∷ s) b v e = let m = (map-eq-some_iff _ _).0 e in decode-below t d (x ∷ s) b m.0 m.1

pub below : (t : Ty) → T (dynamic t) → (s : List ℕ) → AllBytes s → readable t s ≡ true → length s < 2 ^ 32
unfolding readable
below t d s b r = let p = (there-some (decode t s)).0 r in decode-below t d s b p.0 p.1

-- ---- what is readable is exactly what is written

pub read_exactly : (t : Ty) → T (valid t) → T (dynamic t) → (s : List ℕ) → AllBytes s
    → (readable t s ≡ true) ↔ ((length s < 2 ^ 32) × ((v : Value t) × Good t v × (encode t v ≡ s)))
unfolding readable
read_exactly t ok d s b = (
  λ r.
      let short : length s < 2 ^ 32 = below t d s b r in
      let p = (there-some (decode t s)).0 r in
      let g = (accepted t ok s b short p.0).0 p.1 in
      (short, (p.0, g.0, g.1)),
  λ p. (there-some (decode t s)).1 (p.1.0, (accepted t ok s b p.0 p.1.0).1 (p.1.1, p.1.2)),
)
