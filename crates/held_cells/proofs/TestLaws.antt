-- Tests of one record: one law for each way out of the functions.
use mathlib.Core.Path.{◌≡◌, sym, ap, ◌∙◌}
use Prim.Native.Nat.{ℕ}
use Rattle.units.specs.declared.{Millis.Millis}
use Rattle.units.specs.Units.{later}
use Rattle.hold_records.specs.declared.{Owner.Owner, Taker.Taker}
use Rattle.hold_records.specs.Holds.{owner_for}

pub owner_funding : (time : Millis) {taker : Taker} {n : ℕ} → taker ≡ Taker.Funding n → Owner.Funding n ≡ owner_for taker time
unfolding owner_for
owner_funding time e = sym (ap (λ (t : Taker). owner_for t time) e)

pub owner_tower : (time : Millis) {taker : Taker} {t : Millis} → taker ≡ Taker.Watchtower → t ≡ later time (record { 0 = 60000 }) → Owner.Watchtower t ≡ owner_for taker time
unfolding owner_for
owner_tower time e h = ap Owner.Watchtower h ∙ sym (ap (λ (t : Taker). owner_for t time) e)
