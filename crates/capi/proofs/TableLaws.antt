-- What the calls on lent tables have at hand: what is said of the number of an answer holds of the number that crosses.
use mathlib.Core.Path.{◌≡◌}
use Prim.Native.Nat.{ℕ}
use mathlib.Core.Bool.{Bool, true, false, cond}
use mathlib.Core.List.{List}
use Rattle.hold_records.specs.declared.{Taker.Taker}

module _ {watchtower : Bool} (holder : ℕ) where
  pub by_tower : watchtower ≡ true → Taker.Watchtower ≡ cond watchtower Taker.Watchtower (Taker.Funding holder)
  by_tower e = rw e

  pub by_funding : watchtower ≡ false → Taker.Funding holder ≡ cond watchtower Taker.Watchtower (Taker.Funding holder)
  by_funding e = rw e

module _ {n m : ℕ} (e : n ≡ m) where
  pub number_table : {A B : Type 0} {x : A} {y : B} {o : ℕ × A × B} → (m, x, y) ≡ o → (n, x, y) ≡ o
  number_table h = rw e h

  pub number_list : {A : Type 0} {x : A} {o : ℕ × A} → (m, x) ≡ o → (n, x) ≡ o
  number_list h = rw e h
