-- What `commit` and `apply` come to.
use mathlib.Core.Path.{◌≡◌, refl, sym, ap, ◌∙◌}
use Prim.Native.Nat.{ℕ, ◌+◌, ◌*◌, ◌≤◌, ◌<◌, min}
use mathlib.Core.Bool.{true, false}
use mathlib.Core.List.{List, ◌++◌, map}
use native.Mathlib.Omega.{arith}
use mir.Syntax.{w32}
use mir.Val.{Fits}
use borrow.Author.Tests.{le-leb, lt-leb}
use lib.ListN.{length}
use Rattle.arithmetic.specs.LittleEndian.{to_le}
use Rattle.arithmetic.proofs.LittleEndianLaws.{length-to_le}
use Rattle.std.specs.Prelude.{Ok, Err}
use Rattle.error.specs.declared.{Refusal.Refusal}
use Rattle.error.specs.Refusal.{number, answered}
use Rattle.units.specs.declared.{BlockNumber.BlockNumber}
use Rattle.molecule.specs.Write.{splice, put_at}
use Rattle.molecule.proofs.WriteLaws.{put_yes, splice_zero, splice-length}
use Rattle.out_points.specs.declared.{Byte32.Byte32}
use Rattle.out_points.specs.OutPoints.{points_bytes, point_list}
use Rattle.error.specs.Outcome.{check, check_with, number_of, ◌>>◌}
use Rattle.out_points.specs.Tables.{has_room, with_list}
use Rattle.out_points.proofs.ListLaws.{length_list, length-bytes}
use Rattle.table_bytes.specs.Lent.{on_table, Leaves}
use Rattle.table_bytes.proofs.LentLaws.{leave_done}
use Rattle.exclusion_entries.specs.declared.{Rule.Rule, Survey.Survey}
use Rattle.exclusion_entries.specs.Exclusions.{MapEntry, committed_at, commit_on, excluded, apply_on}
use Rattle.exclusion_entries.specs.Entries.{map_bytes, excluded_at, is_map}
use Rattle.exclusion_entries.specs.Inner.{keeps, takes, stay, survey_of, hash_of}
use Rattle.exclusion_entries.specs.Calls.{map_table, Applies}
use Rattle.exclusion_entries.proofs.LentLaws.{lent_unread, lent-on, off_map, on_map, stay-keep, keep_all, hash_bad, hash_good}
use Rattle.molecule.proofs.SpliceLaws.{splice-under}
use Rattle.exclusion_entries.proofs.StayLaws.{told-points, told_good, points-few}

-- ---- commit

pub commit_bad : (s hash : List ℕ) (block : BlockNumber) {e : Refusal} → Err e ≡ hash_of hash → Leaves map_table s (answered {T = Unit {0}} (Err e)) s (on_table map_table s (commit_on (excluded_at s) hash block))
unfolding commit_on check check_with ◌>>◌
commit_bad s hash block h = let (n, k) = hash_bad hash h in lent_unread s (commit_on (excluded_at s) hash block) k (rw n)

pub commit-done : (s hash : List ℕ) (rule : Rule) (block : BlockNumber) {v : Survey} {h : Byte32} {o : List ℕ} → Ok v ≡ survey_of rule s → Ok h ≡ hash_of hash
    → excluded_at o ≡ map (committed_at h block) (excluded_at s) → o ≡ put_at s 0 (map_bytes (map (committed_at h block) (excluded_at s))) → Leaves map_table s (answered {T = Unit {0}} (Ok tt)) o (on_table map_table s (commit_on (excluded_at s) hash block))
unfolding commit_on check check_with ◌>>◌
commit-done s hash rule block ev eh m e =
    let (n, k) = hash_good hash eh in
    lent-on s (commit_on (excluded_at s) hash block) (told_good rule s ev)
    (leave_done map_table s tt (rw (n, ← k)) m e)

-- ---- apply

pub points-fit : (s : List ℕ) {v : Survey} → Ok v ≡ survey_of Rule.All s → Fits w32 v.points
points-fit s ev = record { fits = omega (arith, points-few Rule.All s ev) }

pub apply_bad : (s out : List ℕ) {e : Refusal} → Err e ≡ survey_of Rule.All s → Applies s (answered {T = Unit {0}} (Err e)) out out
unfolding answered number_of
apply_bad s out h = rw (off_map s (apply_on (excluded_at s) out) Rule.All h)

module _ (s out : List ℕ) {v : Survey} (ev : Ok v ≡ survey_of Rule.All s) where
  is : is_map s ≡ true
  is = told_good Rule.All s ev

  all : stay (keeps Rule.All) (takes Rule.All) false (excluded_at s) ≡ excluded_at s
  unfolding keeps takes
  all = stay-keep (keeps Rule.All) (takes Rule.All) (λ e. refl) (excluded_at s) ∙ keep_all (keeps Rule.All) (λ e. refl) (excluded_at s)

  counted : v.points ≡ length (excluded (excluded_at s))
  counted = told-points Rule.All s ev ∙ ap (λ (l : List MapEntry). length (excluded l)) all

  list_length : length (point_list (excluded (excluded_at s))) ≡ 4 + 36 * v.points
  list_length = length_list (excluded (excluded_at s)) ∙ ap (λ (k : ℕ). 4 + 36 * k) (sym counted)

  pub apply_short : min (length out) 133116 < 4 + 36 * v.points → Applies s (answered {T = Unit {0}} (Err Refusal.BufferTooShort)) out out
  unfolding apply_on answered number number_of has_room check check_with ◌>>◌
  apply_short h = rw (on_map s (apply_on (excluded_at s) out) is, lt-leb (length (point_list (excluded (excluded_at s)))) (min (length out) 133116) (omega (arith, list_length)))

  pub apply-room : 4 + 36 * v.points ≤ min (length out) 133116 → 4 + 36 * length (excluded (excluded_at s)) ≤ length out
  apply-room h = omega (arith, counted)

  pub apply-done : {o₁ o₂ : List ℕ} → 4 + 36 * v.points ≤ min (length out) 133116 → o₁ ≡ splice out 4 (points_bytes (excluded (excluded_at s))) → o₂ ≡ put_at o₁ 0 (to_le 4 v.points)
      → Applies s (answered {T = Unit {0}} (Ok tt)) out o₂
  unfolding apply_on answered number_of has_room with_list point_list check check_with ◌>>◌
  apply-done {o₁} {o₂} h e₁ e₂ =
      let ps' = excluded_at s in
      let ps = excluded ps' in
      let C = to_le 4 v.points in
      let lC : length C ≡ 4 = length-to_le 4 v.points in
      let z : 0 + length C ≡ 4 = omega arith in
      let lb = length-bytes ps in
      let c = counted in
      let l : length o₁ ≡ length out = ap length e₁ ∙ splice-length out 4 (points_bytes ps) (omega arith) in
      let same : o₂ ≡ splice out 0 (C ++ points_bytes ps) =
      e₂ ∙ put_yes o₁ 0 C (omega arith) ∙ ap (λ (x : List ℕ). splice x 0 C) (e₁ ∙ ap (λ (j : ℕ). splice out j (points_bytes ps)) (sym z)) ∙ splice-under out 0 C (points_bytes ps) (omega arith) in
      rw (on_map s (apply_on ps' out) is, le-leb (length (point_list ps)) (min (length out) 133116) (omega (arith, list_length)))
      (ap (λ (x : List ℕ). (0, x)) (same ∙ ap (λ (j : ℕ). splice out 0 (to_le 4 j ++ points_bytes ps)) c ∙ splice_zero out (point_list ps)))
