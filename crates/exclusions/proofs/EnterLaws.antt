-- A transaction entered: the room that it needs, and what the table then means.
use mathlib.Core.Path.{◌≡◌, refl, sym, ap, ◌∙◌}
use Prim.Native.Nat.{ℕ, zero, suc, ◌+◌, ◌*◌, ◌^◌, ◌≤◌, ◌<◌}
use mathlib.Core.Bool.{Bool, true, false, not, ◌&&◌}
use mathlib.Core.List.{List, [], ◌∷◌, ◌++◌, map, append_assoc}
use native.Mathlib.Omega.{arith}
use borrow.Author.Tests.{le-leb, lt-leb, eqb-true, not-false, ne_eqb}
use lib.Dec.{eqb, leb, ltb}
use lib.ListN.{length, take, drop, length-append}
use Rattle.arithmetic.specs.LittleEndian.{AllBytes}
use Rattle.std.specs.Prelude.{Ok, Err}
use Rattle.error.specs.declared.{Refusal.Refusal}
use Rattle.error.specs.Refusal.{number, values, answered}
use Rattle.error.specs.Outcome.{check, check_with, ◌>>◌}
use Rattle.molecule.specs.Layout.{part, span, field_of, fix_count, fix_item}
use Rattle.molecule.specs.Partial.{All}
use Rattle.molecule.specs.Molecule.{readable, option, fixvec, size}
use Rattle.molecule.specs.Write.{splice, put_at}
use Rattle.molecule.proofs.Valid.{fixed}
use Rattle.molecule.proofs.HeaderLaws.{fixvec-readable, option_is}
use Rattle.molecule.proofs.WriteLaws.{put_yes}
use Rattle.transaction.specs.Ckb.{Transaction, RawTransaction, CellInput}
use Rattle.transaction.specs.Tx.{raw_field, previous_output_of}
use Rattle.transaction.proofs.TableLaws.{raw_3, transaction_0}
use Rattle.out_points.specs.declared.{Byte32.Byte32, OutPoint.OutPoint}
use Rattle.out_points.specs.OutPoints.{Fit, out_point_at}
use Rattle.std.specs.List.{filter}
use Rattle.out_points.specs.Tables.{renew}
use Rattle.out_points.proofs.EqualLaws.{and_both}
use Rattle.molecule.proofs.ItemsLaws.{bytes_drop, bytes_take}
use Rattle.out_points.proofs.AgainLaws.{point-fits, item-bytes}
use Rattle.exclusion_entries.specs.Exclusions.{MapEntry, excluded, fitting}
use Rattle.table_bytes.specs.Lent.{Leaves}
use Rattle.table_bytes.proofs.LentLaws.{leave_done, leave_refused}
use Rattle.exclusion_entries.specs.Calls.{map_table}
use Rattle.exclusion_entries.specs.declared.{Rule.Rule, Survey.Survey}
use Rattle.exclusion_entries.specs.Entries.{block_of, map_bytes, FitEntry, excluded_at}
use Rattle.exclusion_entries.specs.Inner.{keeps, takes, stay, ahead, behind, survey_of}
use Rattle.exclusion_entries.proofs.MapLaws.{map-long, map-fits, map-size, splice-back}
use Rattle.exclusion_entries.proofs.StayLaws.{stay-split, stay_all, renew-split, told_good, told_stays, told-points}
use Rattle.exclusions.specs.Inner.{point_of_input, points_of_inputs, entry_with}
use Rattle.exclusions.proofs.PutLaws.{entry-count}

-- ---- the inputs of a readable transaction have their length

never : true ≡ false → ⊥
never e = let z : ◌≡◌ {A = ℕ} 0 1 = cc in omega arith

pub read_yes : (tx : List ℕ) {r : Bool} → r ≡ readable (option Transaction) tx → not r ≡ false → readable (option Transaction) tx ≡ true
read_yes tx {r} e h = sym e ∙ not-false r h

module _ (tx : List ℕ) (h : readable (option Transaction) tx ≡ true) (z : length tx ≡ 0 → ⊥) where
  whole : readable Transaction tx ≡ true
  whole = sym (option_is Transaction tx ∙ rw (ne_eqb (length tx) 0 z)) ∙ h

  inputs_read : readable (fixvec CellInput) (raw_field tx 3) ≡ true
  unfolding raw_field
  inputs_read = by (readable (fixvec CellInput) (field_of (field_of tx 2 0) 6 3)) refl
    where
      by : (b : Bool) → readable (fixvec CellInput) (field_of (field_of tx 2 0) 6 3) ≡ b → readable (fixvec CellInput) (field_of (field_of tx 2 0) 6 3) ≡ true
      by true e = e
      by false e =
          let raw : false ≡ readable RawTransaction (field_of tx 2 0) = raw_3 (field_of tx 2 0) refl refl (rw e) in
          let all : false ≡ readable Transaction tx = transaction_0 tx refl refl (rw (← raw)) in
          absurd (never (sym whole ∙ sym all))

  pub inputs_sized : {f : List ℕ} → f ≡ raw_field tx 3 → length f ≡ 4 + 44 * fix_count f
  unfolding size fixed
  inputs_sized {f} e =
      let t : (ltb (length f) (2 ^ 32) && leb 4 (length f) && eqb (length f) (4 + 44 * fix_count f)) ≡ true = sym (fixvec-readable CellInput tt f) ∙ rw e inputs_read in
      let q = and_both (ltb (length f) (2 ^ 32) && leb 4 (length f)) (eqb (length f) (4 + 44 * fix_count f)) t in
      eqb-true _ _ q.1

-- ---- the numbers of the new entry fit

spent-fit : (f : List ℕ) (i k : ℕ) → AllBytes f → All Fit (map (λ x. out_point_at (previous_output_of x) 0) (span (fix_item f 44) i k))
unfolding span previous_output_of part
spent-fit f i zero b = tt
spent-fit f i (suc k) b = (point-fits (take 36 (drop 8 (fix_item f 44 i))) (bytes_take 36 (drop 8 (fix_item f 44 i)) (bytes_drop 8 (fix_item f 44 i) (item-bytes f 44 i b))), spent-fit f (suc i) k b)

module _ (hash : Byte32) (f : List ℕ) (b : AllBytes f) (fa : hash.a < 2 ^ 64) (fb : hash.b < 2 ^ 64) (fc : hash.c < 2 ^ 64) (fd : hash.d < 2 ^ 64) where
  entry-fits : fix_count f ≤ 512 → FitEntry (entry_with hash f)
  unfolding entry_with points_of_inputs point_of_input block_of
  entry-fits h = record {
    a_fits = fa;
    b_fits = fb;
    c_fits = fc;
    d_fits = fd;
    block_fits = omega arith;
    count_fits = let c = entry-count hash f in omega arith;
    points-fit = spent-fit f 0 (fix_count f) b;
  }

-- ---- the table with the new entry

excluded-join : (l r : List MapEntry) → excluded (l ++ r) ≡ excluded l ++ excluded r
unfolding excluded
excluded-join [] r = refl
excluded-join (e ∷ l) r = ap (λ (x : List OutPoint). e.points ++ x) (excluded-join l r) ∙ sym (append_assoc e.points (excluded l) (excluded r))

all_between : (P : MapEntry → Type 0) (l r : List MapEntry) (x : MapEntry) → All P (l ++ r) → P x → All P (l ++ (x ∷ r))
all_between P [] r x a p = (p, a)
all_between P (e ∷ l) r x a p = (a.0, all_between P l r x a.1 p)

module _ (rule : Rule) (s : List ℕ) (hash : Byte32) (f : List ℕ) {v : Survey} (ev : Ok v ≡ survey_of rule s) {n : ℕ} (en : n ≡ fix_count f) where
  abbrev after : List MapEntry
  after = renew (takes rule) (entry_with hash f) (filter (keeps rule) (excluded_at s))

  abbrev A : List MapEntry
  A = ahead (keeps rule) (takes rule) (excluded_at s)

  abbrev B : List MapEntry
  B = behind (keeps rule) (takes rule) (excluded_at s)

  after_is : after ≡ A ++ (entry_with hash f ∷ B)
  after_is = renew-split (keeps rule) (takes rule) (entry_with hash f) (excluded_at s)

  split : stay (keeps rule) (takes rule) false (excluded_at s) ≡ A ++ B
  split = stay-split (keeps rule) (takes rule) (excluded_at s)

  after-count : length after ≡ v.stays + 1
  after-count = ap length after_is ∙ length-append A (entry_with hash f ∷ B) ∙ omega (arith, told_stays rule s ev, ap length split, length-append A B)

  after-points : length (excluded after) ≡ v.points + n
  unfolding excluded
  after-points =
      let x = entry_with hash f in
      let z : length (excluded (A ++ (x ∷ B))) ≡ length (excluded A) + (length x.points + length (excluded B)) =
      ap length (excluded-join A (x ∷ B)) ∙ length-append (excluded A) (x.points ++ excluded B) ∙ ap (λ (k : ℕ). length (excluded A) + k) (length-append x.points (excluded B)) in
      let y : v.points ≡ length (excluded A) + length (excluded B) = told-points rule s ev ∙ ap (λ (l : List MapEntry). length (excluded l)) split ∙ ap length (excluded-join A B) ∙ length-append (excluded A) (excluded B) in
      ap (λ (l : List MapEntry). length (excluded l)) after_is ∙ z ∙ omega (arith, entry-count hash f)

  pub enter_many : 64 ≤ v.stays → Leaves map_table s (answered {T = Unit {0}} (Err Refusal.TooManyExclusions)) s (fitting after)
  unfolding number values fitting check check_with ◌>>◌
  enter_many h = leave_refused map_table s Refusal.TooManyExclusions (rw (lt-leb (length after) 64 (omega (arith, after-count))))

  pub enter_full : v.stays < 64 → 512 < v.points + n → Leaves map_table s (answered {T = Unit {0}} (Err Refusal.TooManyExclusions)) s (fitting after)
  unfolding number values fitting check check_with ◌>>◌
  enter_full h k =
      leave_refused map_table s Refusal.TooManyExclusions
      (rw (le-leb (length after) 64 (omega (arith, after-count)), lt-leb (length (excluded after)) 512 (omega (arith, after-points))))

  module _ (h : v.stays < 64) (k : v.points + n ≤ 512) {o : List ℕ} (eo : o ≡ splice s 0 (map_bytes after)) where
    put : o ≡ put_at s 0 (map_bytes after)
    put = eo ∙ sym (put_yes s 0 (map_bytes after) (omega (arith, map-size after, after-count, after-points, map-long s (told_good rule s ev))))

    pub enter_done : AllBytes s → AllBytes f → hash.a < 2 ^ 64 → hash.b < 2 ^ 64 → hash.c < 2 ^ 64 → hash.d < 2 ^ 64 → Leaves map_table s (answered {T = Unit {0}} (Ok tt)) o (fitting after)
    unfolding fitting check check_with ◌>>◌
    enter_done b bt fa fb fc fd =
        let fits : All FitEntry (A ++ B) = rw split at (stay_all (keeps rule) (takes rule) FitEntry false (excluded_at s) (map-fits s b)) in
        let all : All FitEntry after = rw after_is (all_between FitEntry A B (entry_with hash f) fits (entry-fits hash f bt fa fb fc fd (omega arith))) in
        let means : excluded_at o ≡ after = splice-back s after (omega (arith, after-count)) all eo in
        leave_done map_table s tt (rw (le-leb (length after) 64 (omega (arith, after-count)), le-leb (length (excluded after)) 512 (omega (arith, after-points)))) means put
