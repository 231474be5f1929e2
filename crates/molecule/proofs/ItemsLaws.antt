-- `split` and `join` are inverse: `split-join` and `join-split`.
use mathlib.Core.Path.{◌≡◌, refl, ap, ap₂, sym, ◌∙◌}
use Prim.Native.Nat.{ℕ, zero, suc, ◌+◌, ◌-◌, ◌*◌, ◌/◌, ◌%◌, ◌^◌, ◌≤◌, ◌<◌}
use mathlib.Core.List.{List, [], ◌∷◌, ◌++◌, flatten, append_assoc, append-nil}
use mathlib.Core.Option.{Option, some, map, map-eq-some_iff, some-injective}
use mathlib.Core.Logic.{◌≢◌, ⊎_elim}
use native.Mathlib.Omega.{arith}
use lib.ListN.{length, take, drop, length-append, length-drop, take-append-drop}
use lib.Seq.{take_at, drop_at, drop-drop, take-add, length-take-le, get_or-drop, take_all}
use lib.Dec.{leb→le, eqb→eq}
use mir.Facts.{yes_eqb, yes_leb, no_eqb}
use Rattle.arithmetic.specs.LittleEndian.{le, to_le, AllBytes}
use Rattle.arithmetic.proofs.LittleEndianLaws.{length-to_le, le-to_le, to_le-le, le_lt}
use Rattle.molecule.specs.Partial.{only, pick, All}
use Rattle.molecule.proofs.PartialLaws.{only_yes, only-some, pick_no, pick_is}
use Rattle.molecule.specs.Items.{unwords, words, offsets, header, join, cuts, items, split}

-- ---- bytes of a part

pub bytes_drop : (n : ℕ) (s : List ℕ) → AllBytes s → AllBytes (drop n s)
bytes_drop n s h i = rw get_or-drop (h (n + i))

pub bytes_take : (n : ℕ) (s : List ℕ) → AllBytes s → AllBytes (take n s)
bytes_take zero s h i = omega arith
bytes_take (suc n) [] h i = h i
bytes_take (suc n) (x ∷ s) h zero = h 0
bytes_take (suc n) (x ∷ s) h (suc i) = bytes_take n s (λ j. h (suc j)) i

-- ---- numbers of four bytes

pub unwords_length : (ns : List ℕ) → length (unwords ns) ≡ 4 * length ns
unfolding unwords
unwords_length [] = refl
unwords_length (n ∷ ns) = omega (arith, length-append (to_le 4 n) (unwords ns), length-to_le 4 n, unwords_length ns)

pub length-words : (n : ℕ) (s : List ℕ) → length (words n s) ≡ n
unfolding words
length-words zero s = refl
length-words (suc n) s = ap suc (length-words n (drop 4 s))

-- four bytes, read and written again
pub word_back : (s : List ℕ) → AllBytes s → 4 ≤ length s → to_le 4 (le (take 4 s)) ≡ take 4 s
word_back s b h =
    let l : length (take 4 s) ≡ 4 = length-take-le 4 s h in
    ap (λ (w : ℕ). to_le w (le (take 4 s))) (sym l) ∙ to_le-le (take 4 s) (bytes_take 4 s b)

pub unwords-words : (n : ℕ) (s : List ℕ) → AllBytes s → 4 * n ≤ length s → unwords (words n s) ≡ take (4 * n) s
unfolding unwords words
unwords-words zero s b h = refl
unwords-words (suc n) s b h =
    let e : 4 * suc n ≡ 4 + 4 * n = omega arith in
    let rest : 4 * n ≤ length (drop 4 s) = omega (arith, length-drop 4 s) in
    ap₂ ◌++◌ (word_back s b (omega arith)) (unwords-words n (drop 4 s) (bytes_drop 4 s b) rest)
    ∙ sym (take-add 4 (4 * n) s)
    ∙ ap (λ (k : ℕ). take k s) (sym e)

-- ---- what was joined is split again

pub words-offsets : (o : ℕ) (xs : List (List ℕ)) (t : List ℕ) → o + length (flatten xs) < 2 ^ 32
    → words (length xs) (unwords (offsets o xs) ++ t) ≡ offsets o xs
unfolding words unwords offsets flatten
words-offsets o [] t h = refl
words-offsets o (x ∷ xs) t h =
    let l : length (x ++ flatten xs) ≡ length x + length (flatten xs) = length-append x (flatten xs) in
    let s : List ℕ = unwords (offsets (o + length x) xs) ++ t in
    let e : to_le 4 o ++ unwords (offsets (o + length x) xs) ++ t ≡ to_le 4 o ++ s = append_assoc (to_le 4 o) _ t in
    rw e
    (ap₂ ◌∷◌
    (ap le (take_at (to_le 4 o) s 4 (length-to_le 4 o)) ∙ le-to_le 4 o (omega arith))
    (ap (words (length xs)) (drop_at (to_le 4 o) s 4 (length-to_le 4 o)) ∙ words-offsets (o + length x) xs t (omega arith)))

cuts-offsets : (o : ℕ) (x : List ℕ) (xs : List (List ℕ)) → cuts o (offsets (o + length x) xs) (flatten (x ∷ xs)) ≡ some (x ∷ xs)
unfolding cuts offsets flatten
cuts-offsets o x [] = ap {B = Option (List (List ℕ))} (λ (r : List ℕ). some (r ∷ [])) (append-nil x)
cuts-offsets o x (y ∷ ys) =
    let body : List ℕ = x ++ (y ++ flatten ys) in
    let l : length body ≡ length x + length (y ++ flatten ys) = length-append x _ in
    let d : o + length x - o ≡ length x = omega arith in
    let h : o ≤ o + length x = omega arith in
    let k : o + length x - o ≤ length body = omega arith in
    only_yes _ _ (yes_leb h)
    ∙ only_yes _ _ (yes_leb k)
    ∙ ap₂ (λ (f b : List ℕ). map (λ (xs : List (List ℕ)). f ∷ xs) (cuts (o + length x) (offsets (o + length x + length y) ys) b))
    (take_at x (y ++ flatten ys) (o + length x - o) (sym d))
    (drop_at x (y ++ flatten ys) (o + length x - o) (sym d))
    ∙ ap (map (λ (xs : List (List ℕ)). x ∷ xs)) (cuts-offsets (o + length x) y ys)

-- ---- what was split is joined again

record Cut (o : ℕ) (ps body : List ℕ) (xs : List (List ℕ)) : Type 0 where
  whole : flatten xs ≡ body
  starts : offsets o xs ≡ o ∷ ps

cuts_cut : (o : ℕ) (ps body : List ℕ) (xs : List (List ℕ)) → cuts o ps body ≡ some xs → Cut o ps body xs
unfolding cuts offsets flatten
cuts_cut o [] body xs e =
    let q : body ∷ [] ≡ xs = some-injective _ _ e in
    record { whole = rw (← q) (append-nil body); starts = rw (← q) }
cuts_cut o (p ∷ ps) body xs e =
    let t = only-some _ _ e in
    let u = only-some _ _ t.1 in
    let m = (map-eq-some_iff _ _).0 u.1 in
    let h : o ≤ p = leb→le _ _ t.0 in
    let k : p - o ≤ length body = leb→le _ _ u.0 in
    let c : Cut p ps (drop (p - o) body) m.0 = cuts_cut p ps (drop (p - o) body) m.0 m.1 in
    let q : take (p - o) body ∷ m.0 ≡ xs = m.2 in
    let l : o + length (take (p - o) body) ≡ p = omega (arith, length-take-le (p - o) body k) in
    record {
      whole = rw (← q) (ap (λ (r : List ℕ). take (p - o) body ++ r) c.whole ∙ take-append-drop (p - o) body);
      starts = rw (← q) (ap (λ (r : List ℕ). o ∷ r) (ap (λ (k : ℕ). offsets k m.0) l ∙ c.starts));
    }

-- ---- the whole

pub length_flatten : (x : List ℕ) (xs : List (List ℕ)) → length (flatten (x ∷ xs)) ≡ length x + length (flatten xs)
unfolding flatten
length_flatten x xs = length-append x (flatten xs)

pub length-offsets : (o : ℕ) (xs : List (List ℕ)) → length (offsets o xs) ≡ length xs
unfolding offsets
length-offsets o [] = refl
length-offsets o (x ∷ xs) = ap suc (length-offsets (o + length x) xs)

pub length-join : (xs : List (List ℕ)) → length (join xs) ≡ header (length xs) + length (flatten xs)
unfolding join
length-join xs =
    let h = header (length xs) in
    let ns : List ℕ = (h + length (flatten xs)) ∷ offsets h xs in
    omega (arith, length-append (unwords ns) (flatten xs), unwords_length ns, length-offsets h xs)

-- `split` where the header's tests pass
split_tests : (s : List ℕ) (h : ℕ) → le (take 4 s) ≡ length s → le (take 4 (drop 4 s)) ≡ h → 8 ≤ h → h % 4 ≡ 0 → h ≤ length s
    → split s ≡ cuts h (words (h / 4 - 2) (drop 8 s)) (drop h s)
unfolding split items
split_tests s h size first low whole high =
    let four : 4 ≤ length s = omega arith in
    let more : length s ≢ 4 = omega arith in
    only_yes _ _ (yes_leb four)
    ∙ only_yes _ _ (yes_eqb size)
    ∙ pick_no _ _ _ (no_eqb more)
    ∙ ap (λ (k : ℕ). items k s) first
    ∙ only_yes _ _ (yes_leb low)
    ∙ only_yes _ _ (yes_eqb whole)
    ∙ only_yes _ _ (yes_leb high)

-- the header's numbers, and what follows them
parts : ℕ → ℕ → List ℕ → List ℕ → List ℕ
parts size h rest flat = to_le 4 size ++ (to_le 4 h ++ (unwords rest ++ flat))

module _ (size h : ℕ) (rest flat : List ℕ) where
  abbrev whole : List ℕ
  whole = parts size h rest flat

  parts-size : size < 2 ^ 32 → le (take 4 whole) ≡ size
  unfolding parts
  parts-size low = ap le (take_at (to_le 4 size) _ 4 (length-to_le 4 size)) ∙ le-to_le 4 size low

  parts_first : h < 2 ^ 32 → le (take 4 (drop 4 whole)) ≡ h
  unfolding parts
  parts_first first =
      ap (λ (r : List ℕ). le (take 4 r)) (drop_at (to_le 4 size) _ 4 (length-to_le 4 size))
      ∙ ap le (take_at (to_le 4 h) _ 4 (length-to_le 4 h))
      ∙ le-to_le 4 h first

  parts-rest : drop 8 whole ≡ unwords rest ++ flat
  unfolding parts
  parts-rest =
      sym (drop-drop 4 4 whole)
      ∙ ap (drop 4) (drop_at (to_le 4 size) _ 4 (length-to_le 4 size))
      ∙ drop_at (to_le 4 h) _ 4 (length-to_le 4 h)

  parts_flat : h ≡ 8 + 4 * length rest → drop h whole ≡ flat
  parts_flat e =
      ap (λ (k : ℕ). drop k whole) e
      ∙ sym (drop-drop (4 * length rest) 8 whole)
      ∙ ap (drop (4 * length rest)) parts-rest
      ∙ drop_at (unwords rest) flat _ (unwords_length rest)

joined : (x : List ℕ) (xs : List (List ℕ)) (h : ℕ) → h ≡ header (suc (length xs))
    → join (x ∷ xs) ≡ parts (h + length (flatten (x ∷ xs))) h (offsets (h + length x) xs) (flatten (x ∷ xs))
unfolding join unwords offsets parts
joined x xs h e = rw e (simp append_assoc)

split_parts : (x : List ℕ) (xs : List (List ℕ)) → header (suc (length xs)) + length (flatten (x ∷ xs)) < 2 ^ 32 → split (join (x ∷ xs)) ≡ some (x ∷ xs)
split_parts x xs bound =
    let h = header (suc (length xs)) in
    let flat : List ℕ = flatten (x ∷ xs) in
    let size = h + length flat in
    let rest : List ℕ = offsets (h + length x) xs in
    let s : List ℕ = parts size h rest flat in
    let lr : length rest ≡ length xs = length-offsets (h + length x) xs in
    let j : join (x ∷ xs) ≡ s = joined x xs h refl in
    let ls : size ≡ length s = sym (length-join (x ∷ xs)) ∙ ap length j in
    let n : h / 4 - 2 ≡ length xs = omega arith in
    ap split j
    ∙ split_tests s h (parts-size size h rest flat bound ∙ ls) (parts_first size h rest flat (omega arith)) (omega arith) (omega arith) (omega arith)
    ∙ ap₂ (cuts h)
    (ap₂ words n (parts-rest size h rest flat) ∙ words-offsets (h + length x) xs flat (omega (arith, length_flatten x xs)))
    (parts_flat size h rest flat (omega arith))
    ∙ cuts-offsets h x xs

pub split-join : (xs : List (List ℕ)) → length (join xs) < 2 ^ 32 → split (join xs) ≡ some xs
unfolding join unwords offsets split
split-join [] h = unfold le to_le only pick flatten in refl
split-join (x ∷ xs) bound = split_parts x xs (rw length-join at bound)

-- no item: the size alone
join-none : (s : List ℕ) → AllBytes s → le (take 4 s) ≡ length s → length s ≡ 4 → join [] ≡ s
unfolding join unwords offsets flatten
join-none s b size four =
    let w : to_le 4 (le (take 4 s)) ≡ take 4 s = word_back s b (omega arith) in
    let a : join [] ≡ to_le 4 4 = unfold to_le in refl in
    a ∙ ap (to_le 4) (sym (size ∙ four)) ∙ w ∙ take_all 4 s (omega arith)

join-items : (s : List ℕ) (xs : List (List ℕ)) (h m : ℕ) → AllBytes s → le (take 4 s) ≡ length s → le (take 4 (drop 4 s)) ≡ h
    → h ≡ 4 * suc (suc m) → h ≤ length s → Cut h (words m (drop 8 s)) (drop h s) xs → join xs ≡ s
unfolding join words
join-items s xs h m b size first e high c =
    let n : length xs ≡ suc m = sym (length-offsets h xs) ∙ ap length c.starts ∙ ap suc (length-words m (drop 8 s)) in
    let eh : header (length xs) ≡ h = omega arith in
    let es : h + length (flatten xs) ≡ length s = omega (arith, ap length c.whole, length-drop h s) in
    let ns : (h + length (flatten xs)) ∷ offsets h xs ≡ words (suc (suc m)) s =
    ap₂ ◌∷◌ (es ∙ sym size) (c.starts ∙ ap₂ ◌∷◌ (sym first) (ap (words m) (sym (drop-drop 4 4 s)))) in
    ap (λ (k : ℕ). unwords ((k + length (flatten xs)) ∷ offsets k xs) ++ flatten xs) eh
    ∙ ap₂ (λ (a z : List ℕ). unwords a ++ z) ns c.whole
    ∙ ap (λ (a : List ℕ). a ++ drop h s) (unwords-words (suc (suc m)) s b (omega arith) ∙ ap (λ (k : ℕ). take k s) (sym e))
    ∙ take-append-drop h s

pub join-split : (s : List ℕ) (xs : List (List ℕ)) → AllBytes s → split s ≡ some xs → join xs ≡ s
unfolding split items
join-split s xs b e =
    let t = only-some _ _ e in
    let u = only-some _ _ t.1 in
    let size : le (take 4 s) ≡ length s = eqb→eq _ _ u.0 in
    let h = le (take 4 (drop 4 s)) in
    ⊎_elim
    (λ c. ap join (sym (some-injective _ _ c.1)) ∙ join-none s b size (eqb→eq _ _ c.0))
    (λ c.
    let i = only-some _ _ c.1 in
    let j = only-some _ _ i.1 in
    let k = only-some _ _ j.1 in
    let low : 8 ≤ h = leb→le _ _ i.0 in
    let mult : h % 4 ≡ 0 = eqb→eq _ _ j.0 in
    let high : h ≤ length s = leb→le _ _ k.0 in
    join-items s xs h (h / 4 - 2) b size refl (omega arith) high (cuts_cut h _ _ xs k.1))
    (pick_is _ _ _ u.1)

-- what is split says its length in four bytes
pub split_below : (s : List ℕ) (xs : List (List ℕ)) → AllBytes s → split s ≡ some xs → length s < 2 ^ 32
unfolding split
split_below s xs b e =
    let t = only-some _ _ e in
    let u = only-some _ _ t.1 in
    let size : le (take 4 s) ≡ length s = eqb→eq _ _ u.0 in
    let four : length (take 4 s) ≡ 4 = length-take-le 4 s (leb→le _ _ t.0) in
    let low : le (take 4 s) < 256 ^ length (take 4 s) = le_lt (take 4 s) (bytes_take 4 s b) in
    let low₄ : le (take 4 s) < 256 ^ 4 = rw four at low in
    omega arith

-- ---- the bytes of the items

pub bytes_left : (a b : List ℕ) → AllBytes (a ++ b) → AllBytes a
bytes_left [] b h i = omega arith
bytes_left (x ∷ a) b h zero = h 0
bytes_left (x ∷ a) b h (suc i) = bytes_left a b (λ j. h (suc j)) i

pub bytes_right : (a b : List ℕ) → AllBytes (a ++ b) → AllBytes b
bytes_right [] b h = h
bytes_right (x ∷ a) b h = bytes_right a b (λ j. h (suc j))

pub bytes_flatten : (xs : List (List ℕ)) → AllBytes (flatten xs) → All AllBytes xs
unfolding flatten
bytes_flatten [] h = tt
bytes_flatten (x ∷ xs) h = (bytes_left x (flatten xs) h, bytes_flatten xs (bytes_right x (flatten xs) h))

pub split-bytes : (s : List ℕ) (xs : List (List ℕ)) → AllBytes s → split s ≡ some xs → All AllBytes xs
unfolding join
split-bytes s xs b e =
    let b' : AllBytes (join xs) = rw (join-split s xs b e) b in
    let h = header (length xs) in
    bytes_flatten xs (bytes_right (unwords ((h + length (flatten xs)) ∷ offsets h xs)) (flatten xs) b')

-- each item is as short as the whole
pub short_flatten : (n : ℕ) (xs : List (List ℕ)) → length (flatten xs) < n → All (λ x. length x < n) xs
short_flatten n [] h = tt
short_flatten n (x ∷ xs) h = (omega (arith, length_flatten x xs), short_flatten n xs (omega (arith, length_flatten x xs)))

pub short_join : (n : ℕ) (xs : List (List ℕ)) → length (join xs) < n → All (λ x. length x < n) xs
short_join n xs h = short_flatten n xs (omega (arith, length-join xs))
