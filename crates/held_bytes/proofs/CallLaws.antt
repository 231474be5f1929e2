-- The calls on a lent table: one law for each way out.
use mathlib.Core.Path.{◌≡◌, refl, ap, ◌∙◌, subst}
use Prim.Native.Nat.{ℕ, ◌≤◌}
use native.Mathlib.Omega.{arith}
use mathlib.Core.Bool.{Bool, true, false}
use mathlib.Core.List.{List}
use lib.ListN.{length, drop}
use Rattle.std.proofs.Common.{Ok, Err, Result}
use Rattle.error.specs.declared.{Refusal.Refusal}
use Rattle.error.specs.Refusal.{number, answered}
use Rattle.error.specs.Outcome.{Outcome, number_of, ◌>>=◌}
use Rattle.units.specs.declared.{Millis.Millis}
use Rattle.molecule.specs.Write.{put_at}
use Rattle.std.specs.List.{filter}
use Rattle.out_points.specs.Tables.{has_room, after_list}
use Rattle.hold_records.specs.declared.{Hold.Hold, Held.Held, Rule.Rule, Taker.Taker}
use Rattle.hold_records.specs.Inner.{is_kept, put_if}
use Rattle.hold_records.specs.Holds.{records_of, told, cells_of, lock_held, unavailable, Taken, take_cells, after_lock, after_take}
use Rattle.table_bytes.specs.Lent.{on_table, Leaves}
use Rattle.table_bytes.proofs.LentLaws.{sized-on, sized-off, leave_done, leave_refused}
use Rattle.held_cells.proofs.CallLaws.{lock_short, lock-done}
use Rattle.held_bytes.specs.HeldBytes.{held_size, held_of, held_at, held_bytes, held_table}
use Rattle.held_bytes.specs.Calls.{LocksHeld, NamesUnavailable, TakesCells}

module _ (s : List ℕ) where
  pub left-done : (u : Unit {0}) (g : Held) (o : List ℕ) → length s ≡ held_size → (held_size ≤ length s → held_at o ≡ records_of g)
      → o ≡ put_at s 0 (held_bytes (records_of g)) → Leaves held_table s (answered (Ok u)) o (told (Ok g))
  left-done u g o l m k = leave_done held_table s u refl (m (omega arith)) k

  pub left-refused : (why : Refusal) → Leaves held_table s (answered {T = Unit {0}} (Err why)) s (told (Err why))
  left-refused why = leave_refused held_table s why refl

  module _ {A : Type 0} (o : Outcome A) where
    pub held-on : length s ≡ held_size → on_table held_table s o ≡ o
    held-on l = sized-on held_size held_at held_bytes s o l

  -- bytes of another length
  module _ (b : length s ≡ held_size → ⊥) where
    pub lent_bad : (o : Outcome (List Hold)) → Leaves held_table s (answered {T = Unit {0}} (Err Refusal.LentBytesUnreadable)) s (on_table held_table s o)
    lent_bad o = leave_refused held_table s Refusal.LentBytesUnreadable (sized-off held_size held_at held_bytes s o b)

    pub lock_bad : (time : Millis) (out : List ℕ) → LocksHeld held_table s (answered {T = Unit {0}} (Err Refusal.LentBytesUnreadable)) s time out out
    lock_bad time out = (lent_bad (lock_held (held_at s) time out), rw (sized-off held_size held_at held_bytes s (lock_held (held_at s) time out) b))

    pub named_bad : (picked spent : List ℕ) (time : Millis) (out : List ℕ) → NamesUnavailable held_table s (answered {T = Unit {0}} (Err Refusal.LentBytesUnreadable)) picked spent time out out
    unfolding answered number number_of
    named_bad picked spent time out = rw (sized-off held_size held_at held_bytes s (unavailable (held_at s) picked spent time out) b)

    pub take_bad : (picked spent : List ℕ) (taker : Taker) (time : Millis) (out₁ out₂ : List ℕ)
        → TakesCells held_table s (answered {T = Unit {0}} (Err Refusal.LentBytesUnreadable)) s picked spent taker time out₁ out₂ out₁ out₂
    unfolding ◌>>=◌
    take_bad picked spent taker time out₁ out₂ =
        let e = sized-off held_size held_at held_bytes s (take_cells (held_at s) picked spent taker time out₁ out₂) b in
        (leave_refused held_table s Refusal.LentBytesUnreadable (rw e), rw e, rw e)

module _ (s : List ℕ) (r : Result Held Refusal) {h : Held} (l : length s ≡ held_size) (e : h ≡ held_of s) where
  pub take-call : (picked spent : List ℕ) (taker : Taker) (time : Millis) (out₁ out₂ : List ℕ) {n : ℕ} {t b₁ b₂ : List ℕ}
      → (told r, b₁, b₂) ≡ after_take (take_cells (records_of h) picked spent taker time) out₁ out₂
      → Leaves held_table s n t (told r) → TakesCells held_table s n t picked spent taker time out₁ out₂ b₁ b₂
  unfolding held_at
  take-call picked spent taker time out₁ out₂ {n} {t} {b₁} {b₂} k b =
      let o : Outcome Taken = take_cells (held_at s) picked spent taker time out₁ out₂ in
      let f : (told r, b₁, b₂) ≡ after_take (take_cells (held_at s) picked spent taker time) out₁ out₂ = rw e at k in
      rw (held-on s o l) (
        subst (Leaves held_table s n t) (ap (λ (x : Outcome (List Hold) × List ℕ × List ℕ). x.0) f) b,
        ap (λ (x : Outcome (List Hold) × List ℕ × List ℕ). x.1) f,
        ap (λ (x : Outcome (List Hold) × List ℕ × List ℕ). x.2) f,
      )

module _ (s : List ℕ) (time : Millis) (out : List ℕ) (k : Held) {b : Bool} {after : List ℕ} (l : length s ≡ held_size) (ek : records_of k ≡ filter (is_kept (Rule.Live time)) (records_of (held_of s)))
    (eb : b ≡ has_room (cells_of (drop 0 (records_of k))) out) (eo : after ≡ put_if (cells_of (drop 0 (records_of k))) out) where
  locked : (r : Result Held Refusal) {n : ℕ} {t : List ℕ} → (told r, after) ≡ after_lock (lock_held (records_of (held_of s)) time) out → Leaves held_table s n t (told r) → LocksHeld held_table s n t time out after
  unfolding held_at
  locked r {n} {t} f m =
      rw (held-on s (lock_held (held_at s) time out) l) (
        subst (Leaves held_table s n t) (ap (λ (x : Outcome (List Hold) × List ℕ). x.0) f) m,
        ap (λ (x : Outcome (List Hold) × List ℕ). x.1) f,
      )

  pub lock-refused : b ≡ false → LocksHeld held_table s (answered {T = Unit {0}} (Err Refusal.BufferTooShort)) s time out after
  lock-refused t = locked (Err Refusal.BufferTooShort) (lock_short (held_of s) time out k ek eb eo t) (left-refused s Refusal.BufferTooShort)

  pub lock-left : {n : ℕ} {t : List ℕ} → b ≡ true → Leaves held_table s n t (told (Ok k)) → LocksHeld held_table s n t time out after
  lock-left t m = locked (Ok k) (lock-done (held_of s) time out k ek eb eo t) m

pub named-call : (s picked spent : List ℕ) (time : Millis) (out : List ℕ) {h : Held} {n : ℕ} {after : List ℕ} → length s ≡ held_size → h ≡ held_of s
    → (n, after) ≡ after_list (unavailable (records_of h) picked spent time) out → NamesUnavailable held_table s n picked spent time out after
unfolding held_at
named-call s picked spent time out l e k = k ∙ rw (e, held-on s (unavailable (held_at s) picked spent time out) l)
