-- A list of out points written one by one, and the loop over a table's records that does it.
use mathlib.Core.Path.{◌≡◌, refl, sym, ap, ◌∙◌, subst}
use Prim.Native.Nat.{ℕ, suc, ◌+◌, ◌-◌, ◌*◌, ◌^◌, ◌≤◌, ◌<◌, min}
use native.Mathlib.Omega.{arith}
use borrow.Author.Tests.{le-leb, lt-leb}
use mathlib.Core.Bool.{Bool, true, false}
use mathlib.Core.List.{List, [], ◌∷◌, ◌++◌, append_assoc, append-nil}
use lib.ListN.{length, get_or, drop, length-append, length-map, length-take, length-drop}
use lib.Seq.{append_snoc}
use Rattle.arithmetic.specs.LittleEndian.{to_le}
use Rattle.arithmetic.proofs.LittleEndianLaws.{length-to_le}
use Rattle.molecule.specs.Partial.{All}
use Rattle.molecule.specs.Write.{put_at, put_end, Put}
use Rattle.molecule.proofs.WriteLaws.{none, did, then, and_put, as_bytes, length-kept, splice_zero}
use Rattle.out_points.specs.declared.{OutPoint.OutPoint}
use Rattle.out_points.specs.OutPoints.{Fit, points, point_bytes, points_bytes, point_list}
use Rattle.out_points.proofs.PointLaws.{length-point}
use Rattle.out_points.proofs.ListLaws.{length-bytes, length_list}
use Rattle.out_points.proofs.AgainLaws.{list_before}
use Rattle.hold_records.specs.declared.{Hold.Hold, Held.Held}
use Rattle.out_points.specs.Tables.{has_room, with_list}
use Rattle.hold_records.specs.Holds.{records_of, cells_of}
use Rattle.hold_records.specs.Inner.{put_if}
use Rattle.hold_records.proofs.LoopLaws.{drop_record, drop-none}

-- ---- of all the out points, those before `rest` are written

pub record Listing (all rest : List OutPoint) (out₀ : List ℕ) (at₀ : ℕ) (out : List ℕ) (at : ℕ) : Type 0 where
  pub before : List OutPoint
  pub parts : before ++ rest ≡ all
  pub put : Put out₀ at₀ (points_bytes before) out at
  pub room : at₀ + 36 * length all ≤ length out₀

bytes_snoc : (l : List OutPoint) (p : OutPoint) → points_bytes (l ++ (p ∷ [])) ≡ points_bytes l ++ point_bytes p
unfolding points_bytes
bytes_snoc [] p = append-nil (point_bytes p)
bytes_snoc (q ∷ l) p = ap (λ (x : List ℕ). point_bytes q ++ x) (bytes_snoc l p) ∙ sym (append_assoc (point_bytes q) (points_bytes l) (point_bytes p))

pub list_start : (all : List OutPoint) (out : List ℕ) (at : ℕ) → at + 36 * length all ≤ length out → Listing all all out at out at
unfolding points_bytes
list_start all out at room = record { before = []; parts = refl; put = none out at (omega arith); room = room }

module _ {all : List OutPoint} {out₀ : List ℕ} {at₀ : ℕ} {out : List ℕ} {at : ℕ} where
  pub list_more : (p : OutPoint) {rest : List OutPoint} {o : List ℕ} {a : ℕ} → Listing all (p ∷ rest) out₀ at₀ out at → o ≡ put_at out at (point_bytes p) → a ≡ put_end out at (point_bytes p) → Listing all rest out₀ at₀ o a
  list_more p {rest} l e f =
      let n : length l.before + suc (length rest) ≡ length all = sym (length-append l.before (p ∷ rest)) ∙ ap length l.parts in
      let b = length-bytes l.before in
      let c = length-point p in
      let r = l.room in
      record {
        before = l.before ++ (p ∷ []);
        parts = append_snoc l.before p rest ∙ l.parts;
        put = as_bytes (sym (bytes_snoc l.before p)) (and_put (point_bytes p) l.put e f (omega arith));
        room = l.room;
      }

  pub list_end : Listing all [] out₀ at₀ out at → Put out₀ at₀ (points_bytes all) out at
  list_end l = as_bytes (ap points_bytes (sym (append-nil l.before) ∙ l.parts)) l.put

  pub list_long : {rest : List OutPoint} → Listing all rest out₀ at₀ out at → length out ≡ length out₀
  list_long l = length-kept l.put

-- the count, then the out points
pub list_written : (l : List OutPoint) (out : List ℕ) {o₁ o₂ : List ℕ} {n at a : ℕ} → n ≡ length l → 4 + 36 * length l ≤ length out
    → o₁ ≡ put_at out 0 (to_le 4 n) → at ≡ put_end out 0 (to_le 4 n) → Put o₁ at (points_bytes l) o₂ a → o₂ ≡ with_list l out
unfolding with_list point_list
list_written l out {o₁} {o₂} {n} {at} {a} en room e f p =
    let q = then (did (to_le 4 n) e f (omega (arith, length-to_le 4 n))) p in
    let r : Put out 0 (to_le 4 (length l) ++ points_bytes l) o₂ a = rw en at q in
    r.bytes ∙ splice_zero out (to_le 4 (length l) ++ points_bytes l)

pub list_put : (l : List OutPoint) (out : List ℕ) {o₁ o₂ : List ℕ} {n at a : ℕ} → n ≡ length l → 4 + 36 * n ≤ length out
    → o₁ ≡ put_at out 0 (to_le 4 n) → at ≡ put_end out 0 (to_le 4 n) → Put o₁ at (points_bytes l) o₂ a → o₂ ≡ with_list l out
list_put l out en room e f p = list_written l out en (omega arith) e f p

-- there is room for the points behind the count
pub behind-count : (out : List ℕ) {o₁ : List ℕ} (n k : ℕ) {at : ℕ} → 4 + k ≤ length out → o₁ ≡ put_at out 0 (to_le 4 n) → at ≡ put_end out 0 (to_le 4 n) → at + k ≤ length o₁
behind-count out n k room e f =
    let p = did (to_le 4 n) e f (omega (arith, length-to_le 4 n)) in
    omega (arith, length-kept p, p.end, length-to_le 4 n)

pub behind-length : (l : List OutPoint) (out : List ℕ) {o₁ : List ℕ} {n at : ℕ} → n ≡ length l → 4 + 36 * n ≤ length out → o₁ ≡ put_at out 0 (to_le 4 n) → at ≡ put_end out 0 (to_le 4 n) → at + 36 * length l ≤ length o₁
behind-length l out {o₁} {n} en room e f = rw (← en) (behind-count out n (36 * n) room e f)

-- ---- put where there is room

pub room_no : (l : List OutPoint) (out : List ℕ) {n : ℕ} → n ≡ length l → min (length out) 133116 < 4 + 36 * n → false ≡ has_room l out
unfolding has_room
room_no l out e h = sym (lt-leb (length (point_list l)) (min (length out) 133116) (omega (arith, length_list l)))

pub room_yes : (l : List OutPoint) (out : List ℕ) {n : ℕ} → n ≡ length l → 4 + 36 * n ≤ min (length out) 133116 → true ≡ has_room l out
unfolding has_room
room_yes l out e h = sym (le-leb (length (point_list l)) (min (length out) 133116) (omega (arith, length_list l)))

pub put_no : (l : List OutPoint) (out : List ℕ) → false ≡ has_room l out → out ≡ put_if l out
unfolding put_if
put_no l out e = rw (← e)

pub put_yes : (l : List OutPoint) (out : List ℕ) → true ≡ has_room l out → put_if l out ≡ with_list l out
unfolding put_if
put_yes l out e = rw (← e)

-- ---- the cells of a table's records, from i on

pub record Cells (h : Held) (from n i : ℕ) (out₀ : List ℕ) (at₀ : ℕ) (out : List ℕ) (at : ℕ) : Type 0 where
  pub counted : n ≡ min h.count 256
  pub whole : length h.records ≡ 256
  pub listing : Listing (cells_of (drop from (records_of h))) (cells_of (drop i (records_of h))) out₀ at₀ out at
  pub fit : All Fit (cells_of (drop i (records_of h))) → All Fit (cells_of (drop from (records_of h)))

length-cells : (h : Held) (from : ℕ) → length h.records ≡ 256 → min h.count 256 - from ≡ length (cells_of (drop from (records_of h)))
unfolding records_of
length-cells h from w = simp (length-map, length-drop, length-take) (omega arith)

pub cells-start : (h : Held) (from : ℕ) (out : List ℕ) (at : ℕ) {n : ℕ} → at + 36 * (min h.count 256 - from) ≤ length out → n ≡ min h.count 256 → length h.records ≡ 256 → Cells h from n from out at out at
cells-start h from out at room e w =
    record { counted = e; whole = w; listing = list_start (cells_of (drop from (records_of h))) out at (omega (arith, length-cells h from w)); fit = λ f. f }

module _ {h : Held} {from n i : ℕ} {out₀ : List ℕ} {at₀ : ℕ} {out : List ℕ} {at : ℕ} (k : Cells h from n i out₀ at₀ out at) where
  pub cells-more : (d : Hold) {p : OutPoint} {o : List ℕ} {a : ℕ} → i < n → p ≡ (get_or h.records i d).point → Fit p → o ≡ put_at out at (point_bytes p) → a ≡ put_end out at (point_bytes p)
      → Cells h from n (i + 1) out₀ at₀ o a
  cells-more d {p} l ep fp e f =
      let c = k.counted in
      let x : drop i (records_of h) ≡ get_or h.records i d ∷ drop (i + 1) (records_of h) = drop_record h i d k.whole (omega arith) in
      let q : Fit (get_or h.records i d).point = rw ep at fp in
      record {
        counted = c;
        whole = k.whole;
        listing = list_more (get_or h.records i d).point (rw x at k.listing) (rw ep at e) (rw ep at f);
        fit = λ r. k.fit (subst (λ (y : List Hold). All Fit (cells_of y)) (sym x) (q, r));
      }

  pub cells-end : n ≤ i → Put out₀ at₀ (points_bytes (cells_of (drop from (records_of h)))) out at
  cells-end l =
      let c = k.counted in
      let x : drop i (records_of h) ≡ [] = drop-none h i k.whole (omega arith) in
      list_end (rw x at k.listing)

  pub cells-fitting : n ≤ i → All Fit (cells_of (drop from (records_of h)))
  cells-fitting l =
      let c = k.counted in
      k.fit (subst (λ (y : List Hold). All Fit (cells_of y)) (sym (drop-none h i k.whole (omega arith))) tt)

  pub cells-long : length out ≡ length out₀
  cells-long = list_long k.listing

-- ---- put_cells

module _ (h : Held) (from : ℕ) (out : List ℕ) {u n : ℕ} (eu : u ≡ min h.count 256) (en : n ≡ u - from) (w : length h.records ≡ 256) where
  counted-cells : n ≡ length (cells_of (drop from (records_of h)))
  counted-cells = omega (arith, length-cells h from w)

  pub cells_short : min (length out) 133116 < 4 + 36 * n → false ≡ has_room (cells_of (drop from (records_of h))) out
  cells_short s = room_no (cells_of (drop from (records_of h))) out counted-cells s

  pub cells-kept : min (length out) 133116 < 4 + 36 * n → out ≡ put_if (cells_of (drop from (records_of h))) out
  cells-kept s = put_no (cells_of (drop from (records_of h))) out (cells_short s)

  module _ (room : 4 + 36 * n ≤ min (length out) 133116) where
    pub cells_fit : true ≡ has_room (cells_of (drop from (records_of h))) out
    cells_fit = room_yes (cells_of (drop from (records_of h))) out counted-cells room

    module _ {o : List ℕ} {at : ℕ} (e : o ≡ put_at out 0 (to_le 4 n)) (f : at ≡ put_end out 0 (to_le 4 n)) where
      pub cells-room : at + 36 * (min h.count 256 - from) ≤ length o
      cells-room = let b = behind-count out n (36 * n) (omega arith) e f in omega arith

      pub cells-written : {o₂ : List ℕ} {a : ℕ} → Put o at (points_bytes (cells_of (drop from (records_of h)))) o₂ a → o₂ ≡ put_if (cells_of (drop from (records_of h))) out
      cells-written p =
          list_put (cells_of (drop from (records_of h))) out counted-cells (omega arith) e f p ∙ sym (put_yes (cells_of (drop from (records_of h))) out cells_fit)

      pub cells_listed : {o₂ : List ℕ} {a : ℕ} → Put o at (points_bytes (cells_of (drop from (records_of h)))) o₂ a → All Fit (cells_of (drop from (records_of h)))
          → (true ≡ true → points o₂ ≡ cells_of (drop from (records_of h)))
      unfolding with_list
      cells_listed p fits _ =
          ap points (list_put (cells_of (drop from (records_of h))) out counted-cells (omega arith) e f p)
          ∙ list_before (cells_of (drop from (records_of h))) _ (omega (arith, counted-cells)) fits

-- ---- list_cells

pub fits-point : {p : OutPoint} → p.hash.a < 2 ^ 64 → p.hash.b < 2 ^ 64 → p.hash.c < 2 ^ 64 → p.hash.d < 2 ^ 64 → p.index < 2 ^ 32 → Fit p
fits-point a b c d i = record { a_fits = a; b_fits = b; c_fits = c; d_fits = d; index-fits = i }

module _ (h : Held) (out : List ℕ) (w : length h.records ≡ 256) where
  all_fit : 9220 ≤ length out → true ≡ has_room (cells_of (records_of h)) out
  all_fit l = room_yes (cells_of (records_of h)) out (length-cells h 0 w) (omega arith)

  pub all_listed : {b : Bool} {l : List OutPoint} → b ≡ has_room (cells_of (drop 0 (records_of h))) out → (b ≡ true → l ≡ cells_of (drop 0 (records_of h)))
      → (9220 ≤ length out → l ≡ cells_of (records_of h))
  all_listed e f r = f (e ∙ sym (all_fit r))
