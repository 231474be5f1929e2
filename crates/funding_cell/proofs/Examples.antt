-- How wide the figures may be, computed of the definition. The call as a whole is worked through in crates known_outcomes and known_bases.
use mathlib.Core.Path.{◌≡◌, refl}
use mathlib.Core.Bool.{Bool, true, false}
use mathlib.Core.List.{[]}
use Prim.Native.Nat.{ℕ, ◌-◌, ◌^◌}
use Rattle.units.specs.Units.{in_shannons, Figures}
use Rattle.error.specs.Outcome.{Outcome, fine, refused, check, check_with, ◌>>=◌, ◌>>◌}
use Rattle.funding_cell.specs.declared.FundingRequest.{FundingRequest}
use Rattle.funding_cell.specs.FundingCell.{cell_of, cell_of_sums, funding_cell}

abbrev request : ℕ → ℕ → ℕ → ℕ → FundingRequest
request local localReserve remote remoteReserve = record {
  local_amount = local;
  local_reserved_ckb_amount = in_shannons localReserve;
  remote_amount = remote;
  remote_reserved_ckb_amount = in_shannons remoteReserve;
}

abbrev cell : ℕ → ℕ → Outcome Figures
cell capacity token = fine (record { capacity = capacity; token = token })

unfoldable computing : Unit {0}
unfolding check check_with ◌>>=◌ ◌>>◌ cell_of cell_of_sums funding_cell
computing = tt

-- untyped, a figure or a sum of 2^64 is too wide, and 2^64 - 1 is not
pub wide_figure : funding_cell false false (request (2 ^ 64) 0 0 0) ≡ refused 7 []
unfolding computing
wide_figure = refl

pub wide_sum : funding_cell true false (request (2 ^ 64 - 4) 1 2 1) ≡ refused 7 []
unfolding computing
wide_sum = refl

pub widest_sum : funding_cell true false (request (2 ^ 64 - 4) 1 1 1) ≡ cell (2 ^ 64 - 1) 0
unfolding computing
widest_sum = refl

-- typed, the amounts have 128 bits and the reserves 64
pub wide_amounts : funding_cell true true (request (2 ^ 128 - 1) 0 1 0) ≡ refused 7 []
unfolding computing
wide_amounts = refl

pub wide_reserves : funding_cell true true (request 0 (2 ^ 64 - 1) 0 1) ≡ refused 7 []
unfolding computing
wide_reserves = refl

pub wide_reserve : funding_cell false true (request 0 (2 ^ 64) 0 0) ≡ refused 7 []
unfolding computing
wide_reserve = refl

pub widest : funding_cell true true (request (2 ^ 128 - 2) (2 ^ 64 - 2) 1 1) ≡ cell (2 ^ 64 - 1) (2 ^ 128 - 1)
unfolding computing
widest = refl

-- unfunded, the remote figures are unread: any others give the same
pub remote_unread : (typed : Bool) (local localReserve remote remoteReserve other otherReserve : ℕ)
    → funding_cell false typed (request local localReserve remote remoteReserve) ≡ funding_cell false typed (request local localReserve other otherReserve)
unfolding funding_cell
remote_unread typed local localReserve remote remoteReserve other otherReserve = refl
