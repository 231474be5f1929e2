-- What the loops over a table's places know, for records of any type A: one law to start, one to go on and one for each way out.
use mathlib.Core.Path.{◌≡◌, refl, sym, ap, ◌∙◌, subst}
use Prim.Native.Nat.{ℕ, ◌+◌, ◌-◌, ◌*◌, ◌≤◌, ◌<◌, min}
use mathlib.Core.List.{List, [], ◌∷◌, ◌++◌, map, flatten, append_assoc, append-nil}
use native.Mathlib.Numerals.{add-one}
use native.Mathlib.Omega.{arith}
use lib.ListN.{length, take, get_or, set, length-set, length-append, length-map, length-take, get_or-map}
use lib.Seq.{take-suc, take-suc-set, take_all, append_snoc, get_or-take}
use Rattle.molecule.specs.Layout.{span}
use Rattle.molecule.specs.Partial.{All}
use Rattle.molecule.specs.Write.{put_at, put_end, Put}
use Rattle.molecule.proofs.WriteLaws.{none, and_put, as_bytes, length-kept}
use Rattle.lists.proofs.SpanLaws.{span-on, span-end, span-whole}
use Rattle.table_bytes.specs.declared.{Place.Place}
use Rattle.table_bytes.specs.Places.{FitPlace, place_of, places, place_bytes, places_bytes}
use Rattle.table_bytes.proofs.PlaceLaws.{length-place}

-- ---- read: the first i records of g are those of the places

pub record Reading {A : Type 0} (f : Place → A) (s : List ℕ) (n : ℕ) (g : List A) (i : ℕ) : Type 0 where
  pub within : i ≤ n
  pub long : length g ≡ n
  pub made : take i g ++ map f (span (place_of s) i (n - i)) ≡ map f (places n s)

pub read_none : {A : Type 0} (f : Place → A) (s : List ℕ) (n : ℕ) (g : List A) → length g ≡ n → Reading f s n g 0
read_none f s n g l = record { within = omega arith; long = l; made = ap (map f) (sym (span-whole (place_of s) n)) }

module _ {A : Type 0} {f : Place → A} {s : List ℕ} {n : ℕ} {g : List A} {i : ℕ} (r : Reading f s n g i) where
  pub read_more : {p : Place} {x : A} → i < n → p ≡ place_of s i → x ≡ f p → Reading f s n (set g i x) (i + 1)
  read_more {p} {x} h e k =
      let put : take (i + 1) (set g i x) ≡ take i g ++ (x ∷ []) = rw add-one (take-suc-set g i x (omega (arith, r.long))) in
      let rest : map f (span (place_of s) i (n - i)) ≡ x ∷ map f (span (place_of s) (i + 1) (n - (i + 1))) = ap (map f) (span-on (place_of s) i n h) ∙ rw (k, e) in
      record { within = omega arith; long = length-set g i x ∙ r.long; made = rw put (append_snoc (take i g) x _ ∙ ap (λ (t : List A). take i g ++ t) (sym rest) ∙ r.made) }

  pub read_end : n ≤ i → g ≡ map f (places n s)
  read_end h =
      sym (take_all i g (omega (arith, r.long))) ∙ sym (append-nil (take i g)) ∙ ap (λ (t : List Place). take i g ++ map f t) (sym (span-end (place_of s) i n h)) ∙ r.made

-- ---- written: the first i of the records that stand

pub length-places : (l : List Place) → length (places_bytes l) ≡ 48 * length l
unfolding places_bytes flatten
length-places [] = refl
length-places (p ∷ l) = simp length-append (omega (arith, length-place p, length-places l))

bytes_snoc : (l : List Place) (p : Place) → places_bytes (l ++ (p ∷ [])) ≡ places_bytes l ++ place_bytes p
unfolding places_bytes flatten
bytes_snoc [] p = append-nil (place_bytes p)
bytes_snoc (q ∷ l) p = ap (λ (x : List ℕ). place_bytes q ++ x) (bytes_snoc l p) ∙ sym (append_assoc (place_bytes q) (flatten (map place_bytes l)) (place_bytes p))

all_snoc : {A : Type 0} (P : A → Type 0) (l : List A) (x : A) → All P l → P x → All P (l ++ (x ∷ []))
all_snoc P [] x a p = (p, tt)
all_snoc P (y ∷ l) x a p = (a.0, all_snoc P l x a.1 p)

pub record Putting {A : Type 0} (place : A → Place) (l : List A) (count n : ℕ) (out : List ℕ) (at i : ℕ) (after : List ℕ) (next : ℕ) : Type 0 where
  pub within : i ≤ n
  pub counted : n ≡ min count (length l)
  pub room : at + 48 * n ≤ length out
  pub put : Put out at (places_bytes (take i (map place (take count l)))) after next
  pub fit : All FitPlace (take i (map place (take count l)))

length_stand : {A : Type 0} (place : A → Place) (l : List A) (count : ℕ) → length (map place (take count l)) ≡ min count (length l)
length_stand place l count = length-map (take count l) place ∙ length-take count l

pub put_none : {A : Type 0} (place : A → Place) (l : List A) (count m : ℕ) (out : List ℕ) (at : ℕ) {n : ℕ} → at + 48 * min count m ≤ length out → n ≡ min count m → length l ≡ m → Putting place l count n out at 0 out at
unfolding places_bytes flatten
put_none place l count m out at h e k = record { within = omega arith; counted = omega arith; room = omega arith; put = none out at (omega arith); fit = tt }

module _ {A : Type 0} {place : A → Place} {l : List A} {count n : ℕ} {out : List ℕ} {at i : ℕ} {after : List ℕ} {next : ℕ} (w : Putting place l count n out at i after next) where
  pub put_more : (d : A) {p : Place} {o : List ℕ} {a : ℕ} → i < n → p ≡ place (get_or l i d) → FitPlace p → o ≡ put_at after next (place_bytes p) → a ≡ put_end after next (place_bytes p)
      → Putting place l count n out at (i + 1) o a
  put_more d {p} {o} {a} h e f eo ea =
      let L : List Place = map place (take count l) in
      let c = w.counted in
      let r = w.room in
      let len : length L ≡ n = length_stand place l count ∙ sym c in
      let it : get_or L i (place d) ≡ p = get_or-map place (take count l) i d ∙ ap place (get_or-take count l i d (omega arith)) ∙ sym e in
      let front : take (i + 1) L ≡ take i L ++ (p ∷ []) = rw add-one (take-suc L i (place d) (omega (arith, len))) ∙ ap (λ (x : Place). take i L ++ (x ∷ [])) it in
      let b : length (places_bytes (take i L)) ≡ 48 * i = length-places (take i L) ∙ ap (λ (k : ℕ). 48 * k) (length-take i L ∙ omega (arith, len)) in
      let q = and_put (place_bytes p) w.put eo ea (omega (arith, b, length-place p)) in
      record {
        within = omega arith;
        counted = c;
        room = r;
        put = as_bytes (sym (bytes_snoc (take i L) p) ∙ ap places_bytes (sym front)) q;
        fit = subst (All FitPlace) (sym front) (all_snoc FitPlace (take i L) p w.fit f);
      }

  module _ (h : n ≤ i) where
    all_put : take i (map place (take count l)) ≡ map place (take count l)
    all_put = let c = w.counted in take_all i (map place (take count l)) (omega (arith, length_stand place l count))

    pub put_end_lem : Put out at (places_bytes (map place (take count l))) after next
    put_end_lem = as_bytes (ap places_bytes all_put) w.put

    pub put_fit : All FitPlace (map place (take count l))
    put_fit = subst (All FitPlace) all_put w.fit

  pub put_long : length after ≡ length out
  put_long = length-kept w.put
