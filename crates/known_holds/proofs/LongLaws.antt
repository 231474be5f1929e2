-- Lists of so many picks that a row goes by their length: no proof goes over their bytes.
use mathlib.Core.Path.{◌≡◌, refl, sym, ap, ◌∙◌}
use Prim.Native.Nat.{ℕ, zero, suc, ◌+◌, ◌*◌, ◌^◌, ◌≤◌, ◌<◌, min}
use mathlib.Core.Bool.{Bool, true, false, not, cond}
use mathlib.Core.List.{List, [], ◌∷◌, ◌++◌, append-nil}
use native.Mathlib.Omega.{arith}
use borrow.Author.Tests.{le-leb, lt-leb, lt-ltb, eq-eqb}
use lib.ListN.{length, replicate, length-replicate, drop_of_length-le}
use Rattle.molecule.specs.Partial.{All}
use Rattle.molecule.specs.Layout.{fix_count}
use Rattle.molecule.specs.Molecule.{size, readable}
use Rattle.molecule.proofs.Valid.{fixed}
use Rattle.molecule.proofs.HeaderLaws.{fixvec-readable}
use Rattle.transaction.specs.Ckb.{OutPoint as OutPointForm, OutPoints}
use Rattle.out_points.specs.declared.{OutPoint.OutPoint}
use Rattle.out_points.specs.OutPoints.{Fit, points, point_list}
use Rattle.error.specs.Outcome.{Outcome, fine, refused, check, check_with, ◌>>=◌, ◌>>◌}
use Rattle.out_points.specs.Tables.{has_room, with_list}
use Rattle.out_points.proofs.ListLaws.{length-points, length_list}
use Rattle.out_points.proofs.AgainLaws.{list_back}
use Rattle.hold_records.specs.declared.{Hold.Hold, Taker.Taker}
use Rattle.hold_records.specs.Holds.{is_busy, is_new, firsts, others, take_these, take_free, take_cells, after_take}
use Rattle.case_parts.specs.Parts.{ms, room}
use Rattle.known_holds.specs.Holds.{A, of1, none, takes}
use Rattle.known_holds.proofs.Computing.{computing}

-- ---- a list of n picks is read as these

fit : Fit A
fit = record { a_fits = omega arith; b_fits = omega arith; c_fits = omega arith; d_fits = omega arith; index-fits = omega arith }

all_fit : (n : ℕ) → All Fit (replicate n A)
all_fit zero = tt
all_fit (suc n) = (fit, all_fit n)

module _ (l : List OutPoint) (h : 4 + 36 * length l < 2 ^ 32) (f : All Fit l) where
  is_read : points (point_list l) ≡ l
  is_read = list_back l (omega arith) f

  is-readable : readable OutPoints (point_list l) ≡ true
  unfolding fixed size
  is-readable =
      let n : length (point_list l) ≡ 4 + 36 * length l = length_list l in
      let c : fix_count (point_list l) ≡ length l = sym (length-points (point_list l)) ∙ ap length is_read in
      fixvec-readable OutPointForm tt (point_list l)
      ∙ rw (lt-ltb (length (point_list l)) (2 ^ 32) (omega arith), le-leb 4 (length (point_list l)) (omega arith), eq-eqb (length (point_list l)) (4 + 36 * fix_count (point_list l)) (omega arith))

-- ---- picks of one cell that is not free

module _ (f : OutPoint → Bool) (p : OutPoint) (e : f p ≡ false) where
  none-taken : (n : ℕ) → firsts f [] (replicate n p) ≡ []
  unfolding firsts is_new
  none-taken zero = refl
  none-taken (suc n) = rw e (none-taken n)

  all_refused : (n : ℕ) → others f [] (replicate n p) ≡ replicate n p
  unfolding others is_new
  all_refused zero = refl
  all_refused (suc n) = rw e (ap (λ (l : List OutPoint). p ∷ l) (all_refused n))

is-spent : not (is_busy [] (A ∷ []) A) ≡ false
unfolding computing
is-spent = refl

module _ (n : ℕ) (h : 4 + 36 * n < 2 ^ 32) (out₁ out₂ : List ℕ) where
  abbrev end : Bool → Bool → Outcome (List Hold) × List ℕ × List ℕ
  end a b = cond a (cond b (fine [], with_list [] out₁, with_list (replicate n A) out₂) (refused 13 [], out₁, out₂)) (refused 13 [], out₁, out₂)

  spent-end : takes [] (point_list (replicate n A)) (of1 A) (Taker.Funding 1) (ms 1000) out₁ out₂ ≡ end (has_room [] out₁) (has_room (replicate n A) out₂)
  unfolding take_cells take_free take_these check check_with ◌>>=◌ ◌>>◌
  spent-end =
      let l : length (replicate n A) ≡ n = length-replicate n A in
      rw (
        is-readable (replicate n A) (omega arith) (all_fit n),
        is-readable (A ∷ []) (omega arith) (fit, tt),
        is_read (replicate n A) (omega arith) (all_fit n),
        is_read (A ∷ []) (omega arith) (fit, tt),
        none-taken (λ p. not (is_busy [] (A ∷ []) p)) A is-spent n,
        all_refused (λ p. not (is_busy [] (A ∷ []) p)) A is-spent n,
      )
      (by (has_room [] out₁) (has_room (replicate n A) out₂))
    where
      by : (a b : Bool) → after_take (λ b₁ b₂. check 13 a >> (check 13 b >> fine (record { records = []; taken = []; rest = replicate n A }))) out₁ out₂ ≡ end a b
      by true true = refl
      by true false = refl
      by false b = refl

none-room : has_room [] (room 4) ≡ true
unfolding computing
none-room = refl

none_written : with_list [] (room 4) ≡ none
unfolding computing
none_written = refl

module _ (n k : ℕ) (e : k ≡ 4 + 36 * n) where
  long : length (point_list (replicate n A)) ≡ k
  long = length_list (replicate n A) ∙ ap (λ (m : ℕ). 4 + 36 * m) (length-replicate n A) ∙ sym e

  room-long : length (room k) ≡ k
  room-long = length-replicate k 7

  pub spent-fit : k ≤ 133116 → takes [] (point_list (replicate n A)) (of1 A) (Taker.Funding 1) (ms 1000) (room 4) (room k) ≡ (fine [], none, point_list (replicate n A))
  unfolding has_room with_list
  spent-fit h =
      let a = long in
      let b = room-long in
      let r : has_room (replicate n A) (room k) ≡ true = le-leb (length (point_list (replicate n A))) (min (length (room k)) 133116) (omega arith) in
      let d : length (room k) ≤ length (point_list (replicate n A)) = omega arith in
      let w : with_list (replicate n A) (room k) ≡ point_list (replicate n A) =
      ap (λ (x : List ℕ). point_list (replicate n A) ++ x) (drop_of_length-le (room k) d) ∙ append-nil (point_list (replicate n A)) in
      spent-end n (omega arith) (room 4) (room k) ∙ rw (none-room, r, none_written, w)

  pub spent-over : 133116 < k → 4 + 36 * n < 2 ^ 32 → takes [] (point_list (replicate n A)) (of1 A) (Taker.Funding 1) (ms 1000) (room 4) (room k) ≡ (refused 13 [], room 4, room k)
  unfolding has_room
  spent-over h m =
      let a = long in
      let b = room-long in
      let r : has_room (replicate n A) (room k) ≡ false = lt-leb (length (point_list (replicate n A))) (min (length (room k)) 133116) (omega arith) in
      spent-end n m (room 4) (room k) ∙ rw (none-room, r)
