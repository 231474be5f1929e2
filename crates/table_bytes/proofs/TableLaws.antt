-- A whole table: its count and its places put at the start of lent bytes, and what these then mean.
use mathlib.Core.Path.{◌≡◌, refl, ap, ◌∙◌}
use Prim.Native.Nat.{ℕ, zero, suc, ◌+◌, ◌*◌, ◌^◌, ◌≤◌, ◌<◌, min}
use mathlib.Core.List.{List, [], ◌∷◌, ◌++◌, map}
use native.Mathlib.Omega.{arith}
use lib.ListN.{length, take, drop, length-append, length-map, length-take}
use Rattle.arithmetic.specs.LittleEndian.{to_le, AllBytes}
use Rattle.arithmetic.proofs.LittleEndianLaws.{length-to_le}
use Rattle.molecule.specs.Layout.{word}
use Rattle.molecule.proofs.Offsets.{span-length}
use Rattle.molecule.specs.Partial.{All}
use Rattle.molecule.specs.Write.{put_at, put_end, Put}
use Rattle.molecule.proofs.WriteLaws.{did, then, put_yes, put_short, splice_zero, length-kept}
use Rattle.out_points.proofs.PointLaws.{put_of}
use Rattle.table_bytes.specs.declared.{Place.Place}
use Rattle.table_bytes.specs.Places.{FitPlace, place_of, places, places_bytes, table_bytes}
use Rattle.table_bytes.proofs.LoopLaws.{length-places}
use Rattle.table_bytes.proofs.AgainLaws.{take-map, table-back, places-fit}

length-table : (l : List Place) → length (table_bytes l) ≡ 4 + 48 * length l
unfolding table_bytes
length-table l = simp (length-append, length-to_le) (omega (arith, length-places l))

module _ (l : List Place) (out : List ℕ) {n : ℕ} (en : n ≡ length l) where
  pub table_short : length out < 4 + 48 * n → out ≡ put_at out 0 (table_bytes l)
  table_short h = put_short out 0 (table_bytes l) (omega arith) (omega (arith, length-table l))

  module _ (room : 4 + 48 * n ≤ length out) {o : List ℕ} {at : ℕ} (e : o ≡ put_at out 0 (to_le 4 n)) (f : at ≡ put_end out 0 (to_le 4 n)) where
    counted : Put out 0 (to_le 4 n) o at
    counted = did (to_le 4 n) e f (omega (arith, length-to_le 4 n))

    pub table-room : at + 48 * n ≤ length o
    table-room = let p = counted in omega (arith, length-kept p, p.end, length-to_le 4 n)

    pub table_put : {o₂ : List ℕ} {a : ℕ} → Put o at (places_bytes l) o₂ a → o₂ ≡ put_at out 0 (table_bytes l)
    unfolding table_bytes
    table_put {o₂} {a} p =
        let q = then counted p in
        let r : Put out 0 (to_le 4 (length l) ++ places_bytes l) o₂ a = rw en at q in
        put_of r

-- records x of any type that are the places `place x`, and are read again by f
module _ {A : Type 0} (f : Place → A) (place : A → Place) (same : (x : A) → f (place x) ≡ x) where
  map_same : (l : List A) → map f (map place l) ≡ l
  map_same [] = refl
  map_same (x ∷ l) = rw (same x) (ap (λ (t : List A). x ∷ t) (map_same l))

  pub records-back : (l : List A) (z : List ℕ) (n : ℕ) → length l ≤ n → length l < 2 ^ 32 → All FitPlace (map place l)
      → take (word (table_bytes (map place l) ++ z) 0) (map f (places n (table_bytes (map place l) ++ z))) ≡ l
  records-back l z n h b k =
      let s : List ℕ = table_bytes (map place l) ++ z in
      let e = length-map l place in
      take-map f (word s 0) (places n s) ∙ ap (map f) (table-back (map place l) z n (omega arith) (omega arith) k) ∙ map_same l

  pub records_put : (l : List A) (out : List ℕ) (n : ℕ) {o : List ℕ} → length l ≤ n → n < 2 ^ 32 → 4 + 48 * n ≤ length out → All FitPlace (map place l) → o ≡ put_at out 0 (table_bytes (map place l))
      → take (word o 0) (map f (places n o)) ≡ l
  records_put l out n {o} h b r k e =
      let t : List ℕ = table_bytes (map place l) in
      let w : 0 + length t ≤ length out = omega (arith, length-table (map place l), length-map l place) in
      let s : o ≡ t ++ drop (length t) out = e ∙ put_yes out 0 t w ∙ splice_zero out t in
      ap (λ (x : List ℕ). take (word x 0) (map f (places n x))) s ∙ records-back l (drop (length t) out) n h (omega arith) k

  -- a table in bytes, written again, means the same
  module _ (fits : (p : Place) → FitPlace p → FitPlace (place (f p))) where
    all_fit : (n : ℕ) (l : List Place) → All FitPlace l → All FitPlace (map place (take n (map f l)))
    all_fit zero l a = tt
    all_fit (suc n) [] a = tt
    all_fit (suc n) (p ∷ l) a = (fits p a.0, all_fit n l a.1)

    pub records_again : (s z : List ℕ) (n : ℕ) → AllBytes s → n < 2 ^ 32
        → take (word (table_bytes (map place (take (word s 0) (map f (places n s)))) ++ z) 0) (map f (places n (table_bytes (map place (take (word s 0) (map f (places n s)))) ++ z)))
        ≡ take (word s 0) (map f (places n s))
    records_again s z n b h =
        let l : List A = take (word s 0) (map f (places n s)) in
        let k : length l ≡ min (word s 0) n = length-take (word s 0) (map f (places n s)) ∙ ap (min (word s 0)) (length-map (places n s) f ∙ span-length (place_of s) 0 n) in
        records-back l z n (omega arith) (omega arith) (all_fit (word s 0) (places n s) (places-fit s 0 n b))
