-- What each call on a table of holds leaves, for any property of a list of records.
use mathlib.Core.Path.{◌≡◌, refl, ap, ◌∙◌}
use Prim.Native.Nat.{ℕ, ◌+◌}
use native.Mathlib.Omega.{arith}
use mathlib.Core.List.{List, [], ◌++◌, map}
use mathlib.Core.Bool.{Bool, not}
use lib.Dec.{leb}
use lib.ListN.{length}
use Rattle.std.specs.List.{filter}
use Rattle.units.specs.declared.Millis.{Millis}
use Rattle.units.specs.Units.{later}
use Rattle.molecule.specs.Molecule.{readable}
use Rattle.transaction.specs.Ckb.{OutPoints}
use Rattle.error.specs.Outcome.{Outcome, fine, refused, number_of, ◌>>=◌}
use Rattle.out_points.specs.declared.OutPoint.{OutPoint}
use Rattle.out_points.specs.OutPoints.{points}
use Rattle.out_points.specs.Tables.{has_room, with_list, writes}
use Rattle.hold_records.specs.declared.{Owner.Owner, Hold.Hold, Taker.Taker}
use Rattle.hold_records.specs.Holds.{held_by, cells_of, at_most_256, is_not_of, hold_funding, is_unnamed, release_for_watchtower, renew_all, hold_for_watchtower, lock_held, is_live, is_busy, firsts, others, owner_for, Taken, take_these, take_free, take_cells, records_after}
use Rattle.table_bytes.specs.Lent.{Table, on_table}
use Rattle.table_laws.specs.Holds.{Took, Locked}
use Rattle.table_laws.proofs.Outcomes.{Fine, checked, tabled, done-is, numbered, left-done}

-- the records that have not ended
abbrev pub unended : List Hold → Millis → List Hold
unended l now = filter (is_live now) l

-- the picks that `take` gives, and those that it refuses
abbrev pub is_free : List Hold → Millis → List OutPoint → OutPoint → Bool
is_free l now spent p = not (is_busy (unended l now) spent p)

abbrev pub given : List Hold → Millis → List OutPoint → List OutPoint → List OutPoint
given l now spent picks = firsts (is_free l now spent) [] picks

abbrev pub kept : List Hold → Millis → List OutPoint → List OutPoint → List OutPoint
kept l now spent picks = others (is_free l now spent) [] picks

abbrev pub taken_from : List Hold → List ℕ → List ℕ → Taker → Millis → Taken
taken_from l picked spent taker now =
    let gave = given l now (points spent) (points picked) in
    record { records = unended l now ++ map (held_by (owner_for taker now)) gave; taken = gave; rest = kept l now (points spent) (points picked) }

records-fine : (P : List Hold → Type 0) (o : Outcome Taken) → Fine (λ k. P k.records) o → Fine P (records_after o)
unfolding ◌>>=◌
records-fine P (fine k) f = f
records-fine P (refused n l) f = f

records-number : (o : Outcome Taken) → number_of (records_after o) ≡ number_of o
unfolding ◌>>=◌ number_of
records-number (fine k) = refl
records-number (refused n l) = refl

module _ {T : Type 0} (F : Table T (List Hold)) (s : T) where
  module _ (P : List Hold → Type 0) where
    at_most : (l : List Hold) → P l → Fine P (at_most_256 l)
    unfolding at_most_256
    at_most l p = checked P 14 (leb (length l) 256) (fine l) (λ e. omega (arith, e)) p

    pub hold-fine : (holder : ℕ) (cells : List ℕ) → P (filter (is_not_of holder) (F.means s) ++ map (held_by (Owner.Funding holder)) (points cells)) → Fine P (on_table F s (hold_funding (F.means s) holder cells))
    unfolding hold_funding
    hold-fine holder cells p = tabled P F s _ (checked P 3 (readable OutPoints cells) _ (λ e. omega (arith, e)) (at_most _ p))

    pub watch-fine : (cells : List ℕ) (now : Millis) → P (renew_all (later now (record { 0 = 1800000 })) (F.means s) (points cells)) → Fine P (on_table F s (hold_for_watchtower (F.means s) cells now))
    unfolding hold_for_watchtower
    watch-fine cells now p = tabled P F s _ (checked P 3 (readable OutPoints cells) _ (λ e. omega (arith, e)) (at_most _ p))

    pub release-fine : (cells : List ℕ) → P (filter (is_unnamed (points cells)) (F.means s)) → Fine P (on_table F s (release_for_watchtower (F.means s) cells))
    unfolding release_for_watchtower
    release-fine cells p = tabled P F s _ (checked P 3 (readable OutPoints cells) _ (λ e. omega (arith, e)) p)

    pub locked-fine : (now : Millis) (out : List ℕ) → P (unended (F.means s) now) → Fine P (on_table F s (lock_held (F.means s) now out))
    unfolding lock_held
    locked-fine now out p = tabled P F s _ (checked P 13 (has_room (cells_of (unended (F.means s) now)) out) _ (λ e. omega (arith, e)) p)

  module _ (Q : Taken → Type 0) where
    taken-fine : (picked spent : List ℕ) (taker : Taker) (now : Millis) (out₁ out₂ : List ℕ) → Q (taken_from (F.means s) picked spent taker now)
        → Fine Q (on_table F s (take_cells (F.means s) picked spent taker now out₁ out₂))
    unfolding take_cells take_free take_these
    taken-fine picked spent taker now out₁ out₂ q =
        let l : List Hold = unended (F.means s) now in
        let k : Taken = taken_from (F.means s) picked spent taker now in
        tabled Q F s _
        (checked Q 3 (readable OutPoints picked) _ (λ e. omega (arith, e))
        (checked Q 3 (readable OutPoints spent) _ (λ e. omega (arith, e))
        (checked Q 13 (has_room k.taken out₁) _ (λ e. omega (arith, e))
        (checked Q 13 (has_room k.rest out₂) _ (λ e. omega (arith, e))
        (checked Q 14 (leb (length l + length k.taken) 256) (fine k) (λ e. omega (arith, e)) q)))))

  pub take-fine : (P : List Hold → Type 0) (picked spent : List ℕ) (taker : Taker) (now : Millis) (out₁ out₂ : List ℕ) → P (taken_from (F.means s) picked spent taker now).records
      → Fine P (records_after (on_table F s (take_cells (F.means s) picked spent taker now out₁ out₂)))
  take-fine P picked spent taker now out₁ out₂ p = records-fine P _ (taken-fine (λ k. P k.records) picked spent taker now out₁ out₂ p)

-- ---- what a call that is done leaves in the buffers

module _ {T : Type 0} {F : Table T (List Hold)} where
  pub locked-done : {s t : T} {now : Millis} {after : List ℕ} (l : Locked F s t now after) → after ≡ with_list (cells_of (unended (F.means s) now)) l.out
  locked-done {s} {t} {now} {after} l =
      let left : List Hold = unended (F.means s) now in
      let e : on_table F s (lock_held (F.means s) now l.out) ≡ fine left = done-is left _ (numbered F s _ l.says.0) (locked-fine F s (λ k. k ≡ left) now l.out refl) in
      l.says.1 ∙ ap (λ (o : Outcome (List Hold)). writes cells_of o l.out) e

  pub take_done : {s t : T} {picked spent : List ℕ} {taker : Taker} {now : Millis} {taken refused : List ℕ} (k : Took F s t picked spent taker now taken refused)
      → (F.means t ≡ (taken_from (F.means s) picked spent taker now).records)
      × (taken ≡ with_list (given (F.means s) now (points spent) (points picked)) k.out₁)
      × (refused ≡ with_list (kept (F.means s) now (points spent) (points picked)) k.out₂)
  take_done {s} {t} {picked} {spent} {taker} {now} {taken} {refused} k =
      let x : Taken = taken_from (F.means s) picked spent taker now in
      let o : Outcome Taken = on_table F s (take_cells (F.means s) picked spent taker now k.out₁ k.out₂) in
      let e : o ≡ fine x = done-is x o (numbered F s (records_after o) k.says.0 ∙ records-number o) (taken-fine F s (λ y. y ≡ x) picked spent taker now k.out₁ k.out₂ refl) in (
        left-done F s (records_after o) k.says.0 refl (λ m. m ≡ x.records) (take-fine F s (λ m. m ≡ x.records) picked spent taker now k.out₁ k.out₂ refl),
        k.says.1 ∙ ap (λ (o : Outcome Taken). writes (λ y. y.taken) o k.out₁) e,
        k.says.2 ∙ ap (λ (o : Outcome Taken). writes (λ y. y.rest) o k.out₂) e,
      )
