-- What is read is what is written: a readable list is the list of its out points, and the list of out points is read as these.
use Rattle.std.proofs.Common.{◌≡◌, ℕ, zero, suc, ◌+◌, ◌-◌, ◌*◌, ◌^◌, ◌<◌, ◌≤◌, Bool, true, false, cond, ltb, leb, List, [], ◌∷◌, ◌++◌, map, length, take, drop, sym, refl, ap, ◌∙◌, subst, ap₂, append_assoc, append-nil, arith, length-append, length-drop, length-take-le, take_at, take-add, leb-true}
use mathlib.Core.List.{flatten}
use lib.Seq.{take-length}
use Rattle.arithmetic.specs.LittleEndian.{le, to_le, AllBytes, num_at, u32_at, u64_at}
use Rattle.arithmetic.proofs.LittleEndianLaws.{num_some, to_le-le, le-to_le, length-to_le, le_lt, bytes-to_le}
use Rattle.molecule.specs.Layout.{part, span, word, fix_count, fix_item}
use Rattle.molecule.specs.Molecule.{readable}
use Rattle.molecule.proofs.ItemsLaws.{bytes_take, bytes_drop}
use Rattle.molecule.proofs.LayoutLaws.{fix_count_said, fix_count-word, fix_count-below}
use Rattle.lists.proofs.RunLaws.{item_run, next_run}
use Rattle.molecule.specs.Partial.{All}
use Rattle.transaction.specs.Ckb.{OutPoints as OutPointsForm}
use Rattle.out_points.specs.declared.{OutPoint.OutPoint}
use Rattle.out_points.specs.OutPoints.{byte32_at, out_point_at, point_of, points, hash_bytes, point_bytes, points_bytes, point_list, Fit}
use Rattle.out_points.specs.Tables.{with_list}
use Rattle.out_points.proofs.PointLaws.{length-point}
use Rattle.out_points.proofs.ListLaws.{length-points, length_list, readable-length}

-- a number that was read, written
pub word_again : (k : ℕ) (s : List ℕ) (at : ℕ) → AllBytes s → at + k ≤ length s → to_le k (num_at k s at) ≡ take k (drop at s)
word_again k s at b h =
    let l : length (take k (drop at s)) ≡ k = length-take-le k (drop at s) (rw (length-drop at s) (omega arith)) in
    ap (to_le k) (num_some k s at h)
    ∙ ap (λ (n : ℕ). to_le n (le (take k (drop at s)))) (sym l)
    ∙ to_le-le (take k (drop at s)) (bytes_take k (drop at s) (bytes_drop at s b))

-- an out point that was read, written
pub point_again : (s : List ℕ) → AllBytes s → length s ≡ 36 → point_bytes (out_point_at s 0) ≡ s
unfolding point_bytes hash_bytes out_point_at byte32_at
point_again s b h =
    rw (word_again 8 s 0 b (omega arith), word_again 8 s 8 b (omega arith), word_again 8 s 16 b (omega arith), word_again 8 s 24 b (omega arith), word_again 4 s 32 b (omega arith))
    (sym
    (sym (take-length s)
    ∙ ap (λ (n : ℕ). take n s) h
    ∙ take-add 32 4 s
    ∙ ap (λ (x : List ℕ). x ++ take 4 (drop 32 s))
    (take-add 24 8 s
    ∙ ap (λ (x : List ℕ). x ++ take 8 (drop 24 s))
    (take-add 16 8 s ∙ ap (λ (x : List ℕ). x ++ take 8 (drop 16 s)) (take-add 8 8 s)))))

-- k of the out points from i on
pub bytes_again : (s : List ℕ) (i k : ℕ) → AllBytes s → i + k ≤ fix_count s → 4 + 36 * fix_count s ≤ length s → points_bytes (span (point_of s) i k) ≡ take (36 * k) (drop (4 + 36 * i) s)
unfolding points_bytes span point_of
bytes_again s i zero b h l = refl
bytes_again s i (suc k) b h l =
    let e : fix_item s 36 i ≡ take 36 (drop (4 + 36 * i) s) = item_run s 36 i (omega (arith, fix_count_said s)) in
    let n : length (take 36 (drop (4 + 36 * i) s)) ≡ 36 = length-take-le 36 (drop (4 + 36 * i) s) (rw (length-drop (4 + 36 * i) s) (omega arith)) in
    let m : 36 * suc k ≡ 36 + 36 * k = omega arith in
    ap₂ (λ (x y : List ℕ). x ++ y)
    (ap (λ (x : List ℕ). point_bytes (out_point_at x 0)) e ∙ point_again (take 36 (drop (4 + 36 * i) s)) (bytes_take 36 (drop (4 + 36 * i) s) (bytes_drop (4 + 36 * i) s b)) n)
    (bytes_again s (suc i) k b (omega arith) l ∙ ap (take (36 * k)) (sym (next_run s 36 i)))
    ∙ sym (ap (λ (x : ℕ). take x (drop (4 + 36 * i) s)) m ∙ take-add 36 (36 * k) (drop (4 + 36 * i) s))

pub list_again : (s : List ℕ) → AllBytes s → readable OutPointsForm s ≡ true → point_list (points s) ≡ s
unfolding point_list word
list_again s b h =
    let n : length s ≡ 4 + 36 * fix_count s = readable-length s h in
    ap₂ (λ (x y : List ℕ). x ++ y)
    (ap (to_le 4) (length-points s ∙ fix_count-below s (omega arith)) ∙ word_again 4 s 0 b (omega arith))
    (bytes_again s 0 (fix_count s) b (omega arith) (omega arith))
    ∙ sym (sym (take-length s) ∙ ap (λ (x : ℕ). take x s) n ∙ take-add 4 (36 * fix_count s) s)

-- ---- an out point whose numbers fit, written and read

pub behind : (xs zs : List ℕ) (at : ℕ) → length xs ≡ at → drop at (xs ++ zs) ≡ zs
behind [] zs at e = rw (← e)
behind (x ∷ xs) zs at e = rw (← e) (behind xs zs (length xs) refl)

-- a number between others
pub word_back : (k n : ℕ) (xs ys : List ℕ) (at : ℕ) → length xs ≡ at → n < 256 ^ k → num_at k (xs ++ (to_le k n ++ ys)) at ≡ n
word_back k n xs ys at e h =
    let l : length (to_le k n) ≡ k = length-to_le k n in
    let m : at + k ≤ length (xs ++ (to_le k n ++ ys)) = simp (length-append, length-to_le) (omega arith) in
    num_some k (xs ++ (to_le k n ++ ys)) at m
    ∙ ap (λ (x : List ℕ). le (take k x)) (behind xs (to_le k n ++ ys) at e)
    ∙ ap le (take_at (to_le k n) ys k l)
    ∙ le-to_le k n h

pub point-back : (p : OutPoint) (ys : List ℕ) → Fit p → out_point_at (point_bytes p ++ ys) 0 ≡ p
unfolding point_bytes hash_bytes out_point_at byte32_at
point-back p ys f =
    let A = to_le 8 p.hash.a in
    let B = to_le 8 p.hash.b in
    let C = to_le 8 p.hash.c in
    let D = to_le 8 p.hash.d in
    let E = to_le 4 p.index in
    let s = A ++ B ++ C ++ D ++ E ++ ys in
    let ea : u64_at s 0 ≡ p.hash.a = ap (λ (x : List ℕ). u64_at x 0) (simp append_assoc) ∙ word_back 8 p.hash.a [] (B ++ (C ++ (D ++ (E ++ ys)))) 0 refl f.a_fits in
    let eb : u64_at s 8 ≡ p.hash.b = ap (λ (x : List ℕ). u64_at x 8) (simp append_assoc) ∙ word_back 8 p.hash.b A (C ++ (D ++ (E ++ ys))) 8 (length-to_le 8 p.hash.a) f.b_fits in
    let ec : u64_at s 16 ≡ p.hash.c = ap (λ (x : List ℕ). u64_at x 16) (simp append_assoc) ∙ word_back 8 p.hash.c (A ++ B) (D ++ (E ++ ys)) 16 (simp (length-append, length-to_le)) f.c_fits in
    let ed : u64_at s 24 ≡ p.hash.d = ap (λ (x : List ℕ). u64_at x 24) (simp append_assoc) ∙ word_back 8 p.hash.d (A ++ B ++ C) (E ++ ys) 24 (simp (length-append, length-to_le)) f.d_fits in
    let ei : u32_at s 32 ≡ p.index = ap (λ (x : List ℕ). u32_at x 32) (simp append_assoc) ∙ word_back 4 p.index (A ++ B ++ C ++ D) ys 32 (simp (length-append, length-to_le)) f.index-fits in
    rw (ea, eb, ec, ed, ei)

-- ---- and a list of them

-- items of any form of w bytes that are written one after the other, from item i on
pub items_back : {A : Type 0} (Fits : A → Type 0) (read : List ℕ → A) (bytes : A → List ℕ) (w : ℕ) → ((x : A) → length (bytes x) ≡ w) → ((x : A) → Fits x → read (bytes x) ≡ x)
    → (s z : List ℕ) (i : ℕ) (l : List A) → i + length l ≤ word s 0 → drop (4 + w * i) s ≡ flatten (map bytes l) ++ z → All Fits l
    → span (λ j. read (fix_item s w j)) i (length l) ≡ l
unfolding span flatten
items_back Fits read bytes w long back s z i [] n e f = refl
items_back Fits read bytes w long back s z i (x ∷ l) n e f =
    let g : drop (4 + w * i) s ≡ bytes x ++ (flatten (map bytes l) ++ z) = e ∙ append_assoc (bytes x) (flatten (map bytes l)) z in
    let item : fix_item s w i ≡ bytes x = item_run s w i (omega arith) ∙ ap (take w) g ∙ take_at (bytes x) (flatten (map bytes l) ++ z) w (long x) in
    let next : drop (4 + w * suc i) s ≡ flatten (map bytes l) ++ z = sym (next_run s w i) ∙ ap (drop w) g ∙ behind (bytes x) (flatten (map bytes l) ++ z) w (long x) in
    ap₂ (λ y ys. y ∷ ys) (ap read item ∙ back x f.0) (items_back Fits read bytes w long back s z (suc i) l (omega arith) next f.1)

bytes_flat : (l : List OutPoint) → points_bytes l ≡ flatten (map point_bytes l)
unfolding points_bytes flatten
bytes_flat [] = refl
bytes_flat (p ∷ l) = ap (λ (x : List ℕ). point_bytes p ++ x) (bytes_flat l)

points-back : (s z : List ℕ) (i : ℕ) (l : List OutPoint) → i + length l ≤ word s 0 → drop (4 + 36 * i) s ≡ points_bytes l ++ z → All Fit l → span (point_of s) i (length l) ≡ l
unfolding point_of
points-back s z i l n e f =
    items_back Fit (λ x. out_point_at x 0) point_bytes 36 length-point (λ p g. ap (λ (x : List ℕ). out_point_at x 0) (sym (append-nil (point_bytes p))) ∙ point-back p [] g)
    s z i l n (e ∙ ap (λ (x : List ℕ). x ++ z) (bytes_flat l)) f

-- whatever bytes follow
pub list_before : (l : List OutPoint) (z : List ℕ) → length l < 2 ^ 32 → All Fit l → points (point_list l ++ z) ≡ l
unfolding point_list word
list_before l z h f =
    let s : List ℕ = to_le 4 (length l) ++ points_bytes l ++ z in
    let g : s ≡ to_le 4 (length l) ++ (points_bytes l ++ z) = append_assoc (to_le 4 (length l)) (points_bytes l) z in
    let w : word s 0 ≡ length l = ap (λ (x : List ℕ). word x 0) g ∙ word_back 4 (length l) [] (points_bytes l ++ z) 0 refl h in
    let m : length s ≡ 4 + 36 * length l + length z = length-append (point_list l) z ∙ ap (λ (n : ℕ). n + length z) (length_list l) in
    ap (span (point_of s) 0) (fix_count-word s (omega arith) ∙ w)
    ∙ points-back s z 0 l (omega arith) (ap (drop 4) g ∙ behind (to_le 4 (length l)) (points_bytes l ++ z) 4 (length-to_le 4 (length l))) f

pub list_back : (l : List OutPoint) → length l < 2 ^ 32 → All Fit l → points (point_list l) ≡ l
list_back l h f = ap points (sym (append-nil (point_list l))) ∙ list_before l [] h f

-- a list that was written into a buffer
pub written_back : (l : List OutPoint) (out : List ℕ) → length l < 2 ^ 32 → All Fit l → points (with_list l out) ≡ l
unfolding with_list
written_back l out h f = list_before l (drop (length (point_list l)) out) h f

-- ---- what is read from bytes fits

pub num_fits : (k : ℕ) (s : List ℕ) (at : ℕ) → AllBytes s → num_at k s at < 256 ^ k
unfolding num_at
num_fits k s at b = by (leb (at + k) (length s)) refl
  where
    by : (t : Bool) → leb (at + k) (length s) ≡ t → cond t (le (take k (drop at s))) 0 < 256 ^ k
    by false e = let h : le (to_le k 0) < 256 ^ k = subst (λ (n : ℕ). le (to_le k 0) < 256 ^ n) (length-to_le k 0) (le_lt (to_le k 0) (bytes-to_le k 0)) in omega arith
    by true e =
        let h : at + k ≤ length s = leb-true _ _ e in
        let l : length (take k (drop at s)) ≡ k = length-take-le k (drop at s) (rw (length-drop at s) (omega arith)) in
        subst (λ (n : ℕ). le (take k (drop at s)) < 256 ^ n) l (le_lt (take k (drop at s)) (bytes_take k (drop at s) (bytes_drop at s b)))

pub point-fits : (s : List ℕ) → AllBytes s → Fit (out_point_at s 0)
unfolding out_point_at byte32_at
point-fits s b = record { a_fits = num_fits 8 s 0 b; b_fits = num_fits 8 s 8 b; c_fits = num_fits 8 s 16 b; d_fits = num_fits 8 s 24 b; index-fits = num_fits 4 s 32 b }

pub item-bytes : (s : List ℕ) (w i : ℕ) → AllBytes s → AllBytes (fix_item s w i)
unfolding fix_item part
item-bytes s w i b = by (ltb i (word s 0))
  where
    by : (t : Bool) → AllBytes (cond t (take (4 + w * i + w - (4 + w * i)) (drop (4 + w * i) s)) [])
    by true = bytes_take (4 + w * i + w - (4 + w * i)) (drop (4 + w * i) s) (bytes_drop (4 + w * i) s b)
    by false = λ j. omega arith

span_fits : (s : List ℕ) (i k : ℕ) → AllBytes s → All Fit (span (point_of s) i k)
unfolding span point_of
span_fits s i zero b = tt
span_fits s i (suc k) b = (point-fits (fix_item s 36 i) (item-bytes s 36 i b), span_fits s (suc i) k b)

pub points-fit : (s : List ℕ) → AllBytes s → All Fit (points s)
points-fit s b = span_fits s 0 (fix_count s) b

pub count_fits : (s : List ℕ) → AllBytes s → fix_count s < 2 ^ 32
unfolding word
count_fits s b = let h : word s 0 < 2 ^ 32 = num_fits 4 s 0 b in omega (arith, fix_count_said s)
