-- The pass that writes the out points of all entries.
use mathlib.Core.Path.{◌≡◌, refl, sym, ap, ap₂, ◌∙◌}
use Prim.Native.Nat.{ℕ, suc, ◌+◌, ◌-◌, ◌*◌, ◌≤◌, ◌<◌}
use mathlib.Core.Bool.{true}
use mathlib.Core.List.{List, [], ◌∷◌, ◌++◌, append_assoc}
use native.Mathlib.Omega.{arith}
use lib.ListN.{length, take, drop, length-append, length-drop}
use lib.Seq.{drop-drop}
use Rattle.arithmetic.specs.LittleEndian.{AllBytes, u32_at}
use Rattle.molecule.specs.Layout.{part, word}
use Rattle.molecule.specs.Write.{splice, put_at, put_end}
use Rattle.molecule.proofs.WriteLaws.{put_yes, end_yes, splice-length}
use Rattle.out_points.specs.declared.{OutPoint.OutPoint}
use Rattle.out_points.specs.OutPoints.{point_bytes, points_bytes}
use Rattle.out_points.proofs.ListLaws.{length-bytes}
use Rattle.molecule.proofs.ItemsLaws.{bytes_drop}
use Rattle.exclusion_entries.specs.Exclusions.{excluded}
use Rattle.exclusion_entries.specs.Entries.{map_entry_of, entry_size, entries_in, excluded_at, are_entries, map_size, is_map}
use Rattle.exclusion_entries.proofs.EntryLaws.{from-here, points_again, first-room, rest_are}
use Rattle.exclusion_entries.proofs.MapLaws.{map-long, map-few, map_are}
use Rattle.molecule.proofs.SpliceLaws.{splice-none, splice-then}

bytes-append : (l r : List OutPoint) → points_bytes (l ++ r) ≡ points_bytes l ++ points_bytes r
unfolding points_bytes
bytes-append [] r = refl
bytes-append (p ∷ l) r = ap (λ (x : List ℕ). point_bytes p ++ x) (bytes-append l r) ∙ sym (append_assoc (point_bytes p) (points_bytes l) (points_bytes r))

pub record Listing (s : List ℕ) (n : ℕ) (out₀ out : List ℕ) (to at i : ℕ) : Type 0 where
  pub left : ℕ
  pub bytes : AllBytes s
  pub long : length s ≡ map_size
  pub within : i ≤ n
  pub room : at + 48 * (n - i) + 36 * left ≤ map_size
  pub reads : are_entries (n - i) left (drop at s) ≡ true
  pub kept : length out ≡ length out₀
  pub fits : to + length (points_bytes (excluded (entries_in (n - i) (drop at s)))) ≤ length out₀
  pub made : splice out to (points_bytes (excluded (entries_in (n - i) (drop at s)))) ≡ splice out₀ 4 (points_bytes (excluded (excluded_at s)))

pub list_start : (s out : List ℕ) {n : ℕ} → AllBytes s → is_map s ≡ true → 4 + 36 * length (excluded (excluded_at s)) ≤ length out → n ≡ word s 0 → Listing s n out out 4 4 0
unfolding excluded_at word
list_start s out {n} b g r e =
    let z : n - 0 ≡ u32_at s 0 = omega arith in
    let f = map-few s g in
    record {
      left = 512;
      bytes = b;
      long = map-long s g;
      within = omega arith;
      room = omega arith;
      reads = rw z (map_are s g);
      kept = refl;
      fits = rw z (omega (arith, length-bytes (excluded (entries_in (u32_at s 0) (drop 4 s)))));
      made = rw z;
    }

module _ {s : List ℕ} {n : ℕ} {out₀ out : List ℕ} {to at i : ℕ} (w : Listing s n out₀ out to at i) where
  module _ (h : i < n) {x : List ℕ} {c z : ℕ} (ex : x ≡ part s at (length s)) (ec : c ≡ u32_at x 44) (ez : z ≡ 48 + 36 * c) where
    next : n - i ≡ suc (n - (i + 1))
    next = omega arith

    here : x ≡ drop at s
    here = from-here s at ex

    are : are_entries (suc (n - (i + 1))) w.left x ≡ true
    are = rw here (rw next at w.reads)

    count_most : u32_at x 44 ≤ w.left
    count_most = first-room (n - (i + 1)) w.left x are

    long_x : entry_size x ≤ length x
    long_x = let r = w.room in let k = count_most in omega (arith, ap length here, length-drop at s, w.long)

    pub list_at : at + z ≤ map_size
    list_at = let r = w.room in let k = count_most in omega arith

    run_is : {run : List ℕ} → run ≡ part x 48 z → run ≡ points_bytes (map_entry_of x).points
    unfolding part
    run_is er =
        let d : z - 48 ≡ 36 * c = omega arith in
        er ∙ ap (λ (k : ℕ). take k (drop 48 x)) (d ∙ ap (λ (k : ℕ). 36 * k) ec) ∙ sym (points_again x (rw here (bytes_drop at s w.bytes)) long_x)

    pub list_more : {run o : List ℕ} {t : ℕ} → run ≡ part x 48 z → o ≡ put_at out to run → t ≡ put_end out to run → Listing s n out₀ o t (at + z) (i + 1)
    unfolding entries_in excluded
    list_more {run} {o} {t} er eo et =
        let r = w.room in
        let k = count_most in
        let P = (map_entry_of x).points in
        let y = drop (entry_size x) x in
        let R = excluded (entries_in (n - (i + 1)) y) in
        let is : run ≡ points_bytes P = run_is er in
        let all : excluded (entries_in (n - i) (drop at s)) ≡ P ++ R = ap₂ (λ (j : ℕ) (z : List ℕ). excluded (entries_in j z)) next (sym here) in
        let joined : points_bytes (excluded (entries_in (n - i) (drop at s))) ≡ run ++ points_bytes R = ap points_bytes all ∙ bytes-append P R ∙ ap (λ (z : List ℕ). z ++ points_bytes R) (sym is) in
        let beyond : y ≡ drop (at + z) s = rw (← ec, ← ez) (ap (drop z) here ∙ drop-drop z at s) in
        let f = w.fits in
        let q : to + length run + length (points_bytes R) ≤ length out = omega (arith, ap length joined, length-append run (points_bytes R), w.kept) in
        let e : o ≡ splice out to run = eo ∙ put_yes out to run (omega arith) in
        let u : t ≡ to + length run = et ∙ end_yes out to run (omega arith) in
        let l : length o ≡ length out = ap length e ∙ splice-length out to run (omega arith) in
        record {
          left = w.left - u32_at x 44;
          bytes = w.bytes;
          long = w.long;
          within = omega arith;
          room = omega arith;
          reads = rw (← beyond) (rest_are (n - (i + 1)) w.left x are);
          kept = l ∙ w.kept;
          fits = rw (← beyond, u) (omega (arith, w.kept));
          made = rw (← beyond, u, e) (splice-then out to run (points_bytes R) q ∙ ap (splice out to) (sym joined) ∙ w.made);
        }

  pub list_end : n ≤ i → out ≡ splice out₀ 4 (points_bytes (excluded (excluded_at s)))
  unfolding entries_in excluded points_bytes
  list_end h =
      let z : n - i ≡ 0 = let k = w.within in omega arith in
      sym (splice-none out to) ∙ ap (λ (k : ℕ). splice out to (points_bytes (excluded (entries_in k (drop at s))))) (sym z) ∙ w.made
