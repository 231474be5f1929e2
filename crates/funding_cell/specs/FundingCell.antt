-- The funding cell's figures (docs/RULES.md, "Our own side"): "Funding cell, untyped: local amount plus local reserve, each figure below 2^64, and, if the
-- present transaction has outputs, remote amount plus remote reserve. Unfunded, the remote figures are unread. Typed: amounts sum in 128 bits as data,
-- reserves sum as capacity."
use Rattle.std.specs.Prelude.{ℕ, ◌+◌, ◌^◌, Bool, true, false, not, cond, List, ltb, Option}
use Rattle.std.specs.Option.{option_map}
use Rattle.arithmetic.specs.Amount.{sum}
use Rattle.units.specs.declared.Shannons.{Shannons}
use Rattle.units.specs.Units.{in_shannons, shannon_count, token_count, Figures}
use Rattle.molecule.specs.Molecule.{readable, option}
use Rattle.transaction.specs.Ckb.{Script}
use Rattle.error.specs.Outcome.{Outcome, fine, check, given, ◌>>=◌, ◌>>◌}
use Rattle.transaction.specs.Tx.{read_ours}
use Rattle.lists.specs.Lists.{is_empty}
use Rattle.funding_cell.specs.declared.{FundingRequest.FundingRequest, FundingCell.FundingCell}

-- in numbers
abbrev pub figures_of : FundingCell → Figures
figures_of c = record { capacity = shannon_count c.capacity; token = token_count c.token }

-- a figure or sum too wide is 7 (where a sum is below 2^64, so is each figure)
unfoldable pub cell_of : ℕ → ℕ → Outcome Figures
cell_of capacity token = do
  check 7 (ltb capacity (2 ^ 64))
  check 7 (ltb token (2 ^ 128))
  fine (record { capacity = capacity; token = token })

-- typed: amounts as data, reserves as capacity; untyped: all as capacity
unfoldable pub cell_of_sums : Bool → ℕ → ℕ → Outcome Figures
cell_of_sums typed amounts reserves = cond typed (cell_of reserves amounts) (cell_of (amounts + reserves) 0)

-- by whether the present transaction has outputs; unfunded, the remote figures are unread
unfoldable pub funding_cell : Bool → Bool → FundingRequest → Outcome Figures
funding_cell false typed r = cell_of_sums typed r.local_amount (shannon_count r.local_reserved_ckb_amount)
funding_cell true typed r =
    cell_of_sums typed (r.local_amount + r.remote_amount)
    (shannon_count r.local_reserved_ckb_amount + shannon_count r.remote_reserved_ckb_amount)

unfoldable pub build_funding_cell : List ℕ → List ℕ → FundingRequest → Outcome Figures
build_funding_cell oursBytes type request = do
  -- our transaction unreadable
  ours ← given 1 (read_ours oursBytes)
  -- then a script
  check 3 (readable (option Script) type)
  funding_cell (not (is_empty ours.outputs)) (not (is_empty type)) request

-- ---- what the functions inside promise one another

-- the request with the figures that count: unfunded, the remote ones are 0
unfoldable pub request_counted : Bool → FundingRequest → FundingRequest
request_counted true r = r
request_counted false r = record {
  local_amount = r.local_amount;
  local_reserved_ckb_amount = r.local_reserved_ckb_amount;
  remote_amount = 0;
  remote_reserved_ckb_amount = in_shannons 0;
}

-- the sum of the reserves
unfoldable pub reserves : FundingRequest → Option Shannons
reserves r = option_map in_shannons (sum r.local_reserved_ckb_amount.0 r.remote_reserved_ckb_amount.0)
