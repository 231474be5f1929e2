-- What was written is read: the places of a table whose numbers fit, whatever bytes follow. Those of every table in bytes do.
use mathlib.Core.Path.{◌≡◌, refl, sym, ap, ◌∙◌}
use Prim.Native.Nat.{ℕ, zero, suc, ◌^◌, ◌≤◌, ◌<◌}
use mathlib.Core.List.{List, [], ◌∷◌, ◌++◌, map, flatten, append_assoc, append-nil}
use native.Mathlib.Omega.{arith}
use borrow.Author.Tests.{le-leb}
use lib.ListN.{length, take, drop, length-append}
use Rattle.arithmetic.specs.LittleEndian.{le, to_le, AllBytes, num_at, u32_at, u64_at}
use Rattle.arithmetic.proofs.LittleEndianLaws.{length-to_le}
use Rattle.molecule.specs.Layout.{span, word, fix_item}
use Rattle.molecule.specs.Partial.{All}
use Rattle.out_points.specs.OutPoints.{out_point_at, point_bytes}
use Rattle.out_points.proofs.PointLaws.{length-point}
use Rattle.out_points.proofs.AgainLaws.{behind, word_back, point-back, items_back, num_fits, point-fits, item-bytes}
use Rattle.table_bytes.specs.declared.{Place.Place}
use Rattle.table_bytes.specs.Places.{FitPlace, place_at, place_of, places, place_bytes, places_bytes, table_bytes}
use Rattle.table_bytes.proofs.PlaceLaws.{length-place}

place-back : (p : Place) → FitPlace p → place_at (place_bytes p) ≡ p
unfolding place_at place_bytes
place-back p f =
    let A = point_bytes p.point in
    let K = to_le 4 p.kind in
    let N = to_le 8 p.number in
    let ep : out_point_at (A ++ K ++ N) 0 ≡ p.point = ap (λ (x : List ℕ). out_point_at x 0) (append_assoc A K N) ∙ point-back p.point (K ++ N) f.point-fits in
    let ek : u32_at (A ++ K ++ N) 36 ≡ p.kind = ap (λ (x : List ℕ). u32_at x 36) (append_assoc A K N) ∙ word_back 4 p.kind A N 36 (length-point p.point) f.kind_fits in
    let en : u64_at (A ++ K ++ N) 40 ≡ p.number =
    ap (λ (x : List ℕ). u64_at (A ++ K ++ x) 40) (sym (append-nil N)) ∙ word_back 8 p.number (A ++ K) [] 40 (simp (length-append, length-point, length-to_le)) f.number_fits in
    rw (ep, ek, en)

pub span-take : {A : Type 0} (f : ℕ → A) (i n m : ℕ) → n ≤ m → take n (span f i m) ≡ span f i n
unfolding span
span-take f i zero m h = refl
span-take f i (suc n) zero h = absurd (omega arith)
span-take f i (suc n) (suc m) h = ap (λ l. f i ∷ l) (span-take f (suc i) n m (omega arith))

pub take-map : {A B : Type 0} (f : A → B) (n : ℕ) (l : List A) → take n (map f l) ≡ map f (take n l)
take-map f zero l = refl
take-map f (suc n) [] = refl
take-map f (suc n) (x ∷ l) = ap (λ t. f x ∷ t) (take-map f n l)

pub table-back : (l : List Place) (z : List ℕ) (n : ℕ) → length l ≤ n → length l < 2 ^ 32 → All FitPlace l → take (word (table_bytes l ++ z) 0) (places n (table_bytes l ++ z)) ≡ l
unfolding table_bytes places_bytes place_of word
table-back l z n h b f =
    let s : List ℕ = to_le 4 (length l) ++ flatten (map place_bytes l) ++ z in
    let g : s ≡ to_le 4 (length l) ++ (flatten (map place_bytes l) ++ z) = append_assoc (to_le 4 (length l)) (flatten (map place_bytes l)) z in
    let c : word s 0 ≡ length l = ap (λ (x : List ℕ). word x 0) g ∙ word_back 4 (length l) [] (flatten (map place_bytes l) ++ z) 0 refl b in
    ap (λ (k : ℕ). take k (places n s)) c
    ∙ span-take (place_of s) 0 (length l) n h
    ∙ items_back FitPlace place_at place_bytes 48 length-place place-back s z 0 l (omega (arith, c)) (ap (drop 4) g ∙ behind (to_le 4 (length l)) (flatten (map place_bytes l) ++ z) 4 (length-to_le 4 (length l))) f

-- ---- what is read from bytes fits

place-fits : (x : List ℕ) → AllBytes x → FitPlace (place_at x)
unfolding place_at
place-fits x b = record { point-fits = point-fits x b; kind_fits = num_fits 4 x 36 b; number_fits = num_fits 8 x 40 b }

pub places-fit : (s : List ℕ) (i n : ℕ) → AllBytes s → All FitPlace (span (place_of s) i n)
unfolding span place_of
places-fit s i zero b = tt
places-fit s i (suc n) b = (place-fits (fix_item s 48 i) (item-bytes s 48 i b), places-fit s (suc i) n b)

-- ---- a count of 0

pub count_zero : (z : List ℕ) → word (0 ∷ 0 ∷ 0 ∷ 0 ∷ z) 0 ≡ 0
unfolding word num_at le
count_zero z = rw (le-leb 4 (length (0 ∷ 0 ∷ 0 ∷ 0 ∷ z)) (omega arith)) refl
