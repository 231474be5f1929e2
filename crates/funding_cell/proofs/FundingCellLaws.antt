-- Laws of specs/FundingCell.antt.
use Rattle.std.proofs.Common.{◌≡◌, ℕ, ◌^◌, ◌<◌, Bool, true, false, refl, ap₂, ◌∙◌, subst, add-zero, ltb}
use lib.Dec.{ltb→lt}
use Rattle.error.specs.Outcome.{fine}
use Rattle.units.specs.Units.{Figures}
use Rattle.error.proofs.Passed.{check-fine, fine_inj}
use Rattle.funding_cell.specs.declared.{FundingRequest.FundingRequest}
use Rattle.funding_cell.specs.FundingCell.{request_counted, cell_of, cell_of_sums, funding_cell}

-- of the figures that count the cell is that of a funded request
pub by_counted : (funded typed : Bool) (r : FundingRequest) → funding_cell true typed (request_counted funded r) ≡ funding_cell funded typed r
unfolding funding_cell request_counted
by_counted true typed r = refl
by_counted false typed r = ap₂ (cell_of_sums typed) (add-zero _) (add-zero _)

-- what a caller may rely on: the capacity of a cell is a number of 64 bits
of-cell : (c t : ℕ) (f : Figures) → cell_of c t ≡ fine f → f.capacity < 2 ^ 64
unfolding cell_of
of-cell c t f e =
    let (narrow, e₁) = check-fine 7 (ltb c (2 ^ 64)) _ f e in
    let (low, e₂) = check-fine 7 (ltb t (2 ^ 128)) _ f e₁ in
    subst (λ (x : Figures). x.capacity < 2 ^ 64) (fine_inj e₂) (ltb→lt c (2 ^ 64) narrow)

pub capacity-low : (funded typed : Bool) (r : FundingRequest) (f : Figures) → funding_cell funded typed r ≡ fine f → f.capacity < 2 ^ 64
unfolding funding_cell cell_of_sums
capacity-low funded true r f e = of-cell _ _ f (by_counted funded true r ∙ e)
capacity-low funded false r f e = of-cell _ _ f (by_counted funded false r ∙ e)
