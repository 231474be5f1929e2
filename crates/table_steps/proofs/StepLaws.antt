-- What the contract of a call by value says is a step.
use mathlib.Core.Path.{◌≡◌, ap}
use Prim.Native.Nat.{ℕ}
use mathlib.Core.List.{List}
use Rattle.std.specs.Prelude.{Result, Ok, Err, IfOk}
use Rattle.units.specs.declared.{Millis.Millis}
use Rattle.arithmetic.specs.LittleEndian.{AllBytes}
use Rattle.error.specs.declared.{Refusal.Refusal}
use Rattle.error.specs.Refusal.{answered}
use Rattle.error.specs.Outcome.{Outcome, check, check_with, number_of, ◌>>◌}
use Rattle.hold_records.specs.declared.{Hold.Hold, Held.Held, Taker.Taker}
use Rattle.hold_records.specs.Holds.{records_of, told, hold_funding, release_for_watchtower, hold_for_watchtower, lock_held, take_cells, after_lock, after_take}
use Rattle.table_bytes.specs.Lent.{on_table, Leaves}
use Rattle.held_bytes.specs.Calls.{LocksHeld, TakesCells}
use Rattle.table_laws.specs.Answers.{Answer}
use Rattle.table_laws.specs.Holds as holds

-- a call's answer without the table
abbrev answer : Result Held Refusal → Answer
answer (Ok g) = Ok tt
answer (Err why) = Err why

module _ (h : Held) where
  left : (r : Result Held Refusal) {o : Outcome (List Hold)} → told r ≡ o → Leaves holds.by_value h (answered (answer r)) (holds.table_after h r) o
  unfolding answered number_of
  left (Ok g) e = rw (← e)
  left (Err why) e = rw (← e)

  said : (r : Result Held Refusal) {o : Outcome (List Hold)} → told r ≡ o → Leaves holds.by_value h (answered (answer r)) (holds.table_after h r) (on_table holds.by_value h o)
  unfolding on_table check check_with ◌>>◌
  said r e = left r e

  lock-said : (r : Result Held Refusal) (time : Millis) (out after : List ℕ) → (told r, after) ≡ after_lock (lock_held (records_of h) time) out
      → LocksHeld holds.by_value h (answered (answer r)) (holds.table_after h r) time out after
  unfolding on_table check check_with ◌>>◌
  lock-said r time out after e = (left r (ap (λ (x : Outcome (List Hold) × List ℕ). x.0) e), ap (λ (x : Outcome (List Hold) × List ℕ). x.1) e)

  take-said : (r : Result Held Refusal) (picked spent : List ℕ) (taker : Taker) (time : Millis) (out₁ out₂ after₁ after₂ : List ℕ)
      → (told r, after₁, after₂) ≡ after_take (take_cells (records_of h) picked spent taker time) out₁ out₂
      → TakesCells holds.by_value h (answered (answer r)) (holds.table_after h r) picked spent taker time out₁ out₂ after₁ after₂
  unfolding on_table check check_with ◌>>◌
  take-said r picked spent taker time out₁ out₂ after₁ after₂ e = (
    left r (ap (λ (x : Outcome (List Hold) × List ℕ × List ℕ). x.0) e),
    ap (λ (x : Outcome (List Hold) × List ℕ × List ℕ). x.1) e,
    ap (λ (x : Outcome (List Hold) × List ℕ × List ℕ). x.2) e,
  )

module _ {h : Held} (r : Result Held Refusal) where
  pub hold_step : (holder : ℕ) (cells : List ℕ) → told r ≡ hold_funding (records_of h) holder cells → holds.Called holds.by_value h (holds.table_after h r)
  hold_step holder cells e = holds.hold (answer r) holder cells (said h r e)

  pub release_step : (cells : List ℕ) → told r ≡ release_for_watchtower (records_of h) cells → holds.Called holds.by_value h (holds.table_after h r)
  release_step cells e = holds.release (answer r) cells (said h r e)

  pub watch_step : (cells : List ℕ) (time : Millis) → told r ≡ hold_for_watchtower (records_of h) cells time → holds.Called holds.by_value h (holds.table_after h r)
  watch_step cells time e = holds.watch (answer r) cells time (said h r e)

  pub lock_step : (time : Millis) (out after : List ℕ) → (told r, after) ≡ after_lock (lock_held (records_of h) time) out → holds.Called holds.by_value h (holds.table_after h r)
  lock_step time out after e = holds.locked (answer r) time out after (lock-said h r time out after e)

  pub take_step : (picked spent : List ℕ) (taker : Taker) (time : Millis) (out₁ out₂ after₁ after₂ : List ℕ)
      → (told r, after₁, after₂) ≡ after_take (take_cells (records_of h) picked spent taker time) out₁ out₂ → holds.Called holds.by_value h (holds.table_after h r)
  take_step picked spent taker time out₁ out₂ after₁ after₂ e =
      holds.take (answer r) picked spent taker time out₁ out₂ after₁ after₂ (take-said h r picked spent taker time out₁ out₂ after₁ after₂ e)

-- ---- of a call that is done

module _ (h : Held) where
  pub hold-done : (r : Result Held Refusal) (holder : ℕ) (cells : List ℕ) → told r ≡ hold_funding (records_of h) holder cells → IfOk r (λ g. holds.Funded holds.by_value h g holder cells)
  unfolding answered
  hold-done (Ok g) holder cells e = record { says = said h (Ok g) e }
  hold-done (Err why) holder cells e = tt

  pub watch-done : (r : Result Held Refusal) (cells : List ℕ) (time : Millis) → told r ≡ hold_for_watchtower (records_of h) cells time → IfOk r (λ g. holds.Watched holds.by_value h g cells time)
  unfolding answered
  watch-done (Ok g) cells time e = record { says = said h (Ok g) e }
  watch-done (Err why) cells time e = tt

  pub lock-done : (r : Result Held Refusal) (time : Millis) (out after : List ℕ) → (told r, after) ≡ after_lock (lock_held (records_of h) time) out → IfOk r (λ g. holds.Locked holds.by_value h g time after)
  unfolding answered
  lock-done (Ok g) time out after e = record { out = out; says = lock-said h (Ok g) time out after e }
  lock-done (Err why) time out after e = tt

  pub take_done : (r : Result Held Refusal) (picked spent : List ℕ) (taker : Taker) (time : Millis) (out₁ out₂ after₁ after₂ : List ℕ)
      → (told r, after₁, after₂) ≡ after_take (take_cells (records_of h) picked spent taker time) out₁ out₂
      → AllBytes picked → IfOk r (λ g. holds.Took holds.by_value h g picked spent taker time after₁ after₂)
  unfolding answered
  take_done (Ok g) picked spent taker time out₁ out₂ after₁ after₂ e b =
      record { out₁ = out₁; out₂ = out₂; says = take-said h (Ok g) picked spent taker time out₁ out₂ after₁ after₂ e; lent = b }
  take_done (Err why) picked spent taker time out₁ out₂ after₁ after₂ e b = tt
