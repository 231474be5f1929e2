-- Who takes cells, as C says it: the watchtower, or the funding of a holder.
use Rattle.std.specs.Prelude.{ℕ, Bool, cond, List}
use Rattle.hold_records.specs.declared.{Taker.Taker}
use Rattle.held_bytes.specs.HeldBytes.{held_table}
use Rattle.held_bytes.specs.Calls.{TakesCells}

abbrev pub taker_for : Bool → ℕ → Taker
taker_for watchtower holder = cond watchtower Taker.Watchtower (Taker.Funding holder)

abbrev pub TakesFor : List ℕ → ℕ → List ℕ → List ℕ → List ℕ → Bool → ℕ → ℕ → List ℕ → List ℕ → List ℕ → List ℕ → Type 0
TakesFor s n t picked spent watchtower holder time = TakesCells held_table s n t picked spent (taker_for watchtower holder) (record { 0 = time })
