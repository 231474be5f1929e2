-- The claim on a base transaction that speaks of a peer's update too, and all claims together.
use Prim.Native.Nat.{ℕ, ◌≤◌}
use mathlib.Core.Path.{◌≡◌}
use mathlib.Core.List.{List}
use lib.ListN.{length}
use Rattle.transaction.specs.Tx.{tx_at}
use Rattle.error.specs.Outcome.{fine}
use Rattle.rules.specs.{Judge.comparison, Lines.verdict}
use Rattle.funding_cell.specs.declared.FundingRequest.{FundingRequest}
use Rattle.funding_builder.specs.Base.{Lent}
use Rattle.base_theorems.proofs.Claims.{Built, ReadsBack, IsEncoded, Funds, Keeps, Distinct, Tidy, Balanced}

-- a peer that receives it with the same lock and type finds nothing of its own changed (our base passes the rules' comparison against the present
-- transaction, but for the cases that DIFFERENCES.md names with their smallest inputs: repeated cell deps, and data entries beyond the outputs, both
-- dropped as in the Rust)
abbrev pub Passes : Lent → FundingRequest → List ℕ → Type 0
Passes l request bytes =
    Distinct (tx_at l.ours).cell_deps → length (tx_at l.ours).outputs_data ≤ length (tx_at l.ours).outputs
    → verdict (comparison l.lock l.udt (tx_at l.ours) (tx_at bytes)) ≡ fine tt

abbrev pub Compared : Type 0
Compared = Built Passes

-- all that is claimed of the bytes that a call writes
pub record Based (l : Lent) (request : FundingRequest) (bytes : List ℕ) : Type 0 where
  pub reads_back_lem : ReadsBack l request bytes
  pub is_encoded_lem : IsEncoded l request bytes
  pub funds : Funds l request bytes
  pub keeps : Keeps l request bytes
  pub passes : Passes l request bytes
  pub tidy : Tidy l request bytes
  pub balanced : Balanced l request bytes
