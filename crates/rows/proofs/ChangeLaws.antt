-- What a table means after bytes were put into it: the bytes that a write leaves, then the rows.
use Rattle.std.proofs.Common.{◌≡◌, ℕ, zero, suc, ◌+◌, ◌-◌, ◌*◌, ◌^◌, ◌<◌, ◌≤◌, true, eqb, leb, List, ◌∷◌, ◌++◌, length, take, drop, sym, refl, ap, ◌∙◌, ap₂, append_assoc, le_refl, add-zero, mul-le-mul, one-mul, arith, length-drop, take-append-drop, length-take-le, drop-drop, take_at, eqb-true, leb-true}
use mathlib.Core.Bool.{and-eq-true_iff}
use lib.Seq.{take-append-le, drop-append-le, drop-append-add}
use Rattle.arithmetic.specs.LittleEndian.{le, to_le}
use Rattle.arithmetic.proofs.LittleEndianLaws.{length-to_le, le-to_le, num_some}
use Rattle.molecule.specs.Layout.{span, word, fix_count, fix_item}
use Rattle.molecule.specs.Write.{splice}
use Rattle.molecule.proofs.Offsets.{span-length}
use Rattle.molecule.proofs.LayoutLaws.{fix_count-word}
use Rattle.molecule.proofs.SpliceLaws.{drop-splice}
use Rattle.molecule.proofs.WriteLaws.{splice_zero, splice-length}
use Rattle.lists.proofs.RunLaws.{item_run}
use Rattle.lists.proofs.SpanLaws.{span-drop, span-split}
use Rattle.rows.specs.Rows.{is_table}
use Rattle.rows.proofs.RowLaws.{ends-within}

-- ---- bytes

-- a stretch of the first of two lists
front : (p z : List ℕ) (a m : ℕ) → a + m ≤ length p → take m (drop a (p ++ z)) ≡ take m (drop a p)
front p z a m h = ap (take m) (drop-append-le a p z (omega arith)) ∙ take-append-le m (drop a p) z (omega (arith, length-drop a p))

-- what is before a write stays
pub before-write : (s : List ℕ) (at : ℕ) (xs : List ℕ) (a m : ℕ) → at + length xs ≤ length s → a + m ≤ at → take m (drop a (splice s at xs)) ≡ take m (drop a s)
unfolding splice
before-write s at xs a m h b =
    let l : length (take at s) ≡ at = length-take-le at s (omega arith) in
    ap (λ (x : List ℕ). take m (drop a x)) (append_assoc (take at s) xs (drop (at + length xs) s))
    ∙ front (take at s) (xs ++ drop (at + length xs) s) a m (omega arith)
    ∙ sym (front (take at s) (drop at s) a m (omega arith))
    ∙ ap (λ (x : List ℕ). take m (drop a x)) (take-append-drop at s)

-- what was written stands there
pub inside-write : (s : List ℕ) (at : ℕ) (xs : List ℕ) (a m : ℕ) → at + length xs ≤ length s → a + m ≤ length xs → take m (drop (at + a) (splice s at xs)) ≡ take m (drop a xs)
unfolding splice
inside-write s at xs a m h b =
    let P = take at s in
    let D = drop (at + length xs) s in
    let l : length P ≡ at = length-take-le at s (omega arith) in
    ap (λ (x : List ℕ). take m (drop (at + a) x)) (append_assoc P xs D)
    ∙ ap (λ (n : ℕ). take m (drop (n + a) (P ++ (xs ++ D)))) (sym l)
    ∙ ap (take m) (drop-append-add P (xs ++ D) a)
    ∙ front xs D a m b

-- a stretch of a stretch
pub part-within : (s : List ℕ) (from n a m : ℕ) → a + m ≤ n → from + n ≤ length s → take m (drop a (take n (drop from s))) ≡ take m (drop (from + a) s)
part-within s from n a m h r =
    let X = take n (drop from s) in
    let l : length X ≡ n = length-take-le n (drop from s) (omega (arith, length-drop from s)) in
    sym (front X (drop n (drop from s)) a m (omega arith))
    ∙ ap (λ (x : List ℕ). take m (drop a x)) (take-append-drop n (drop from s))
    ∙ ap (take m) (drop-drop a from s)

-- ---- the count

-- a write behind the count leaves it
pub word-before : (s : List ℕ) (at : ℕ) (xs : List ℕ) → 4 ≤ at → at + length xs ≤ length s → word (splice s at xs) 0 ≡ word s 0
unfolding word
word-before s at xs h r =
    num_some 4 (splice s at xs) 0 (omega (arith, splice-length s at xs r))
    ∙ ap le (before-write s at xs 0 4 r h)
    ∙ sym (num_some 4 s 0 (omega arith))

-- a count that was written
pub word_put : (s : List ℕ) (m : ℕ) → m < 2 ^ 32 → 4 ≤ length s → word (splice s 0 (to_le 4 m)) 0 ≡ m
unfolding word
word_put s m h r =
    let l = length-to_le 4 m in
    let o : splice s 0 (to_le 4 m) ≡ to_le 4 m ++ drop (length (to_le 4 m)) s = splice_zero s (to_le 4 m) in
    num_some 4 (splice s 0 (to_le 4 m)) 0 (omega (arith, splice-length s 0 (to_le 4 m) (omega arith)))
    ∙ ap (λ (x : List ℕ). le (take 4 x)) o
    ∙ ap le (take_at (to_le 4 m) (drop (length (to_le 4 m)) s) 4 l)
    ∙ le-to_le 4 m h

-- behind a count that was written all is as it was
pub behind-count : (s : List ℕ) (m a : ℕ) → 4 ≤ length s → 4 ≤ a → drop a (splice s 0 (to_le 4 m)) ≡ drop a s
behind-count s m a r h = drop-splice s 0 (to_le 4 m) a (omega (arith, length-to_le 4 m)) (omega (arith, length-to_le 4 m))

-- ---- values one after the other

module _ {A : Type 0} where
  pub span_same : (f g : ℕ → A) (i j m : ℕ) → ((x : ℕ) → x < m → f (i + x) ≡ g (j + x)) → span f i m ≡ span g j m
  unfolding span
  span_same f g i j zero h = refl
  span_same f g i j (suc m) h =
      let first : f i ≡ g j = ap f (sym (add-zero i)) ∙ h 0 (omega arith) ∙ ap g (add-zero j) in
      let next : (x : ℕ) → x < m → f (suc i + x) ≡ g (suc j + x) =
      λ x l. let p : suc i + x ≡ i + suc x = omega arith in let q : j + suc x ≡ suc j + x = omega arith in ap f p ∙ h (suc x) (omega arith) ∙ ap g q in
      ap₂ (λ (x : A) (l : List A). x ∷ l) first (span_same f g (suc i) (suc j) m next)

  pub span-take : (f : ℕ → A) (i c : ℕ) → i ≤ c → take i (span f 0 c) ≡ span f 0 i
  span-take f i c h =
      let p : c ≡ i + (c - i) = omega arith in
      ap (λ (n : ℕ). take i (span f 0 n)) p ∙ ap (take i) (span-split f 0 i (c - i)) ∙ take_at (span f 0 i) (span f (0 + i) (c - i)) i (span-length f 0 i)

  pub span-behind : (f : ℕ → A) (i c : ℕ) → drop (i + 1) (span f 0 c) ≡ span f (i + 1) (c - (i + 1))
  span-behind f i c = let p : 0 + (i + 1) ≡ i + 1 = omega arith in span-drop f (i + 1) 0 c ∙ ap (λ (n : ℕ). span f n (c - (i + 1))) p

-- ---- a table

module _ (k n : ℕ) (s : List ℕ) (t : is_table k n s ≡ true) where
  pub table-length : length s ≡ 4 + k * n
  unfolding is_table
  table-length = eqb-true (length s) (4 + k * n) ((and-eq-true_iff (eqb (length s) (4 + k * n)) (leb (word s 0) n)).0 t).0

  pub table-word : word s 0 ≤ n
  unfolding is_table
  table-word = leb-true (word s 0) n ((and-eq-true_iff (eqb (length s) (4 + k * n)) (leb (word s 0) n)).0 t).1

-- rows of at least a byte are no more than bytes
pub rows-below : (k n : ℕ) → 0 < k → n ≤ k * n
rows-below k n p = let o : 1 * n ≤ k * n = mul-le-mul (omega arith) (le_refl n) in omega (arith, one-mul n)

-- so the count is the number that stands there
pub count_word : (k n : ℕ) (s : List ℕ) → 0 < k → is_table k n s ≡ true → fix_count s ≡ word s 0
count_word k n s p t = fix_count-word s (omega (arith, table-length k n s t, table-word k n s t, rows-below k n p))

-- the first m values
pub span-first : {A : Type 0} (f g : ℕ → A) (m : ℕ) → ((x : ℕ) → x < m → f x ≡ g x) → span f 0 m ≡ span g 0 m
span-first f g m h = span_same f g 0 0 m (λ x l. let z : 0 + x ≡ x = omega arith in ap f z ∙ h x l ∙ ap g (sym z))

-- ---- xs put at row i

module _ (k : ℕ) (s : List ℕ) (i : ℕ) (xs : List ℕ) (r : 4 + k * i + length xs ≤ length s) where
  abbrev put : List ℕ
  put = splice s (4 + k * i) xs

  pub put_long : length put ≡ length s
  put_long = splice-length s (4 + k * i) xs r

  pub put_word : word put 0 ≡ word s 0
  put_word = word-before s (4 + k * i) xs (omega arith) r

  -- an earlier row
  pub put_before : (x : ℕ) → x < i → take k (drop (4 + k * x) put) ≡ take k (drop (4 + k * x) s)
  put_before x h = before-write s (4 + k * i) xs (4 + k * x) k r (ends-within k h)

  -- and a count of m
  module _ (m : ℕ) (f : m < 2 ^ 32) where
    abbrev counted : List ℕ
    counted = splice put 0 (to_le 4 m)

    pub counted-long : length counted ≡ length s
    counted-long = splice-length put 0 (to_le 4 m) (omega (arith, length-to_le 4 m, put_long)) ∙ put_long

    pub counted-word : word counted 0 ≡ m
    counted-word = word_put put m f (omega (arith, put_long))

    pub counted_row : (x : ℕ) → x < m → fix_item counted k x ≡ take k (drop (4 + k * x) put)
    counted_row x h =
        item_run counted k x (omega (arith, counted-word)) ∙ ap (take k) (behind-count put m (4 + k * x) (omega (arith, put_long)) (omega arith))
