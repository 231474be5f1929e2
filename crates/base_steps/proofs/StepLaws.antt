-- What the contract of `build_base` says of a buffer of bytes, the theorems say of the transaction in it.
use mathlib.Core.Path.{◌≡◌, ap, sym, ◌∙◌}
use Prim.Native.Nat.{ℕ}
use mathlib.Core.List.{List}
use Rattle.std.specs.Prelude.{Ok, Result}
use lib.ListN.{take}
use Rattle.arithmetic.specs.LittleEndian.{AllBytes}
use Rattle.molecule.proofs.ItemsLaws.{bytes_take}
use Rattle.error.specs.declared.Refusal.{Refusal}
use Rattle.error.specs.Outcome.{told}
use Rattle.funding_cell.specs.declared.FundingRequest.{FundingRequest}
use Rattle.transaction_writer.specs.Written.{written}
use Rattle.funding_builder.specs.Base.{Lent, build_base}
use Rattle.base_theorems.proofs.Claims.{ReadsBack, Encodes, Funds, Keeps, Tidy, Balanced}
use Rattle.base_theorems.proofs.Base.{is-readable, encoded, first-output, kept, tidied, in_balance, of_calls}
use Rattle.base_compared.proofs.Claims.{Passes, Based}
use Rattle.base_compared.proofs.Compared.{compared}

module _ (l : Lent) (request : FundingRequest) (out after : List ℕ) where
  wrote : (n : ℕ) → AllBytes l.ours → AllBytes after → (told (Ok n), after) ≡ written (build_base l request) out → Based l request (take n after)
  wrote n b a e = record {
    reads_back_lem = of_calls ReadsBack is-readable l request out after n b e;
    is_encoded_lem = of_calls Encodes encoded l request out after n b e (bytes_take n after a);
    funds = of_calls Funds first-output l request out after n b e;
    keeps = of_calls Keeps kept l request out after n b e;
    passes = of_calls Passes compared l request out after n b e;
    tidy = of_calls Tidy tidied l request out after n b e;
    balanced = of_calls Balanced in_balance l request out after n b e;
  }

  pub base_step : {r : Result ℕ Refusal} → AllBytes l.ours → AllBytes after → (told r, after) ≡ written (build_base l request) out
      → ((n : ℕ) → r ≡ Ok n → Based l request (take n after))
  base_step b a e n w = wrote n b a (ap (λ (x : Result ℕ Refusal). (told x, after)) (sym w) ∙ e)
