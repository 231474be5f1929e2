-- Worked examples, by computation of the definitions.
use Rattle.std.proofs.Common.{◌≡◌, ◌-◌, ◌^◌, refl, Some, None}
use Rattle.units.specs.Units.{in_shannons}
use Rattle.units.specs.Fee.{required_fee, change_capacity}

-- the fee at rates 1,000 and 1,005 for a size of 205, and capped
pub fee_205 : required_fee 1000 205 ≡ in_shannons 205
unfolding required_fee
fee_205 = refl

pub fee_206 : required_fee 1005 205 ≡ in_shannons 206
unfolding required_fee
fee_206 = refl

pub fee_capped : required_fee (2 ^ 64 - 1) (2 ^ 64 - 1) ≡ in_shannons 18446744073709551
unfolding required_fee
fee_capped = refl

-- change with lock args 20 and type args 32, and the longest type args beside no lock args that still fit
pub change_20_32 : change_capacity 20 32 ≡ Some (in_shannons 14200000000)
unfolding change_capacity
change_20_32 = refl

pub change_most : change_capacity 0 184467440647 ≡ Some (in_shannons 18446744073700000000)
unfolding change_capacity
change_most = refl

pub change-more : change_capacity 0 184467440648 ≡ None
unfolding change_capacity
change-more = refl
