-- What the contract of a call on a lent table of holds says of one that is done.
use Rattle.std.specs.Prelude.{Ok, Err, IfOk}
use Prim.Native.Nat.{ℕ}
use mathlib.Core.List.{List}
use Rattle.error.specs.Refusal.{answered}
use Rattle.units.specs.declared.{Millis.Millis}
use Rattle.arithmetic.specs.LittleEndian.{AllBytes}
use Rattle.hold_records.specs.declared.{Taker.Taker}
use Rattle.held_bytes.specs.HeldBytes.{held_table}
use Rattle.held_bytes.specs.Calls.{HoldsFunding, HoldsForWatchtower, LocksHeld, TakesCells}
use Rattle.table_laws.specs.Answers.{Answer}
use Rattle.table_laws.specs.Holds as holds

module _ (s t : List ℕ) where
  pub hold-lent-done : (a : Answer) (holder : ℕ) (cells : List ℕ) → HoldsFunding held_table s (answered a) t holder cells → IfOk a (λ _. holds.Funded held_table s t holder cells)
  unfolding answered
  hold-lent-done (Ok u) holder cells e = record { says = e }
  hold-lent-done (Err why) holder cells e = tt

  pub watch-lent-done : (a : Answer) (cells : List ℕ) (time : Millis) → HoldsForWatchtower held_table s (answered a) t cells time → IfOk a (λ _. holds.Watched held_table s t cells time)
  unfolding answered
  watch-lent-done (Ok u) cells time e = record { says = e }
  watch-lent-done (Err why) cells time e = tt

  pub lock-lent-done : (a : Answer) (time : Millis) (out after : List ℕ) → LocksHeld held_table s (answered a) t time out after → IfOk a (λ _. holds.Locked held_table s t time after)
  unfolding answered
  lock-lent-done (Ok u) time out after e = record { out = out; says = e }
  lock-lent-done (Err why) time out after e = tt

  pub take-lent-done : (a : Answer) (picked spent : List ℕ) (taker : Taker) (time : Millis) (out₁ out₂ after₁ after₂ : List ℕ)
      → TakesCells held_table s (answered a) t picked spent taker time out₁ out₂ after₁ after₂ → AllBytes picked → IfOk a (λ _. holds.Took held_table s t picked spent taker time after₁ after₂)
  unfolding answered
  take-lent-done (Ok u) picked spent taker time out₁ out₂ after₁ after₂ e b = record { out₁ = out₁; out₂ = out₂; says = e; lent = b }
  take-lent-done (Err why) picked spent taker time out₁ out₂ after₁ after₂ e b = tt
