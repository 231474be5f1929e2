-- Laws of both accounts together.
use mathlib.Core.Path.{◌≡◌, refl, sym, ap, ◌∙◌}
use Prim.Native.Nat.{ℕ, ◌+◌, max}
use mathlib.Core.Bool.{Bool, true, false, not, cond}
use mathlib.Core.List.{List}
use lib.{ListN.length, Dec.leb}
use Rattle.molecule.specs.Layout.{item_count, item_of}
use Rattle.molecule.proofs.Offsets.{span-length}
use Rattle.units.specs.Units.{Figures}
use Rattle.error.specs.Outcome.{Outcome, fine, check, ◌>>=◌, ◌>>◌}
use Rattle.lists.specs.Lists.{is_empty}
use Rattle.transaction.specs.Tx.{Tx, tx_at, raw_field}
use Rattle.transaction.specs.Cells.{Cell, cells}
use Rattle.rules.specs.Surplus.{total, first, added, cell_capacity}
use Rattle.rules.specs.Lines.{Ruled, verdict, answer, known, first_failing}
use Rattle.rules.specs.Judge.{growth, unfunded, token_delta, funding_output_delta, covered, token_account, accounts, contribution}
use Rattle.rules.proofs.LinesLaws.{verdict-bind, line-then, answer_is}
use Rattle.rules.proofs.CellLaws.{cell_at, added_is}
use Rattle.accounts.specs.Added.{cell_in, cells_from}
use Rattle.accounts.proofs.TokenLaws.{account-known}

-- the outputs that the peer added, by the lists of outputs and data of ours (f) and of the peer's (g, d)
pub added-from : (o p : List ℕ) {f g d : List ℕ} {i : ℕ} → f ≡ raw_field o 4 → g ≡ raw_field p 4 → d ≡ raw_field p 5 → i ≡ max 1 (item_count f)
    → added (tx_at o) (tx_at p) ≡ cells_from g d i
unfolding cell_at cell_in
added-from o p {i = i} ef eg ed ei =
    let k : i ≡ max 1 (length (tx_at o).outputs) = ei ∙ ap (max 1) (ap item_count ef ∙ sym (span-length (item_of (raw_field o 4)) 0 (item_count (raw_field o 4)))) in
    rw (eg, ed) (added_is o p k)

-- ---- blocks by the verdicts of their parts

abbrev both : ℕ → ℕ → Figures
both c t = record { capacity = c; token = t }

module _ (type : List ℕ) (ours peer : Tx) where
  pub delta_steps : verdict (funding_output_delta type ours peer)
      ≡ (check 5 (not (is_empty peer.outputs)) >> (check 5 (not (is_empty peer.outputs_data)) >> (check 5 (leb (first cell_capacity (cells ours)) (first cell_capacity (cells peer)))
      >> (cond (is_empty type) (fine 0) (verdict (token_delta ours peer)) >>= (λ (t : ℕ). fine (both (growth cell_capacity ours peer) t))))))
  unfolding funding_output_delta check answer verdict first_failing
  delta_steps =
      line-then _ _ _ _ _ ∙ ap (λ (o : Outcome Figures). check 5 (not (is_empty peer.outputs)) >> o)
      (line-then _ _ _ _ _ ∙ ap (λ (o : Outcome Figures). check 5 (not (is_empty peer.outputs_data)) >> o)
      (line-then _ _ _ _ _ ∙ ap (λ (o : Outcome Figures). check 5 (leb (first cell_capacity (cells ours)) (first cell_capacity (cells peer))) >> o)
      (verdict-bind (cond (is_empty type) (answer 0) (token_delta ours peer)) _ ∙ by (is_empty type))))
    where
      grown : ℕ → Outcome Figures
      grown t = verdict (answer (both (growth cell_capacity ours peer) t))

      by : (b : Bool) → (verdict (cond b (answer 0) (token_delta ours peer)) >>= grown)
          ≡ (cond b (fine 0) (verdict (token_delta ours peer)) >>= (λ (t : ℕ). fine (both (growth cell_capacity ours peer) t)))
      by true = refl
      by false = refl

  pub contribution_steps : (gained : ℕ) (paid : Ruled ℕ) (rate size : ℕ) → verdict (contribution type ours peer gained paid rate size)
      ≡ (verdict (funding_output_delta type ours peer) >>= (λ (g : Figures). verdict (accounts type (unfunded ours) gained paid (added ours peer) rate size g)))
  unfolding contribution
  contribution_steps gained paid rate size = verdict-bind (funding_output_delta type ours peer) _

pub account_steps : (type : List ℕ) (opening : Bool) (gained : ℕ) (paid : Ruled ℕ) (outs : List Cell) (rate size : ℕ) (grown : Figures)
    → verdict (accounts type opening gained paid outs rate size grown)
    ≡ (verdict (covered opening gained (grown.capacity + total cell_capacity outs) rate size)
    >>= (λ (c : ℕ). verdict (token_account type grown.token paid outs) >>= (λ (t : ℕ). fine (both c t))))
unfolding accounts
account_steps type opening gained paid outs rate size grown =
    verdict-bind (covered opening gained (grown.capacity + total cell_capacity outs) rate size) _
    ∙ ap (λ (f : ℕ → Outcome Figures). verdict (covered opening gained (grown.capacity + total cell_capacity outs) rate size) >>= f)
    (λ i c. (verdict-bind (token_account type grown.token paid outs) (λ (t : ℕ). answer (both c t)) ∙ ended c) i)
  where
    ended : (c : ℕ) → (verdict (token_account type grown.token paid outs) >>= (λ (t : ℕ). verdict (answer (both c t))))
        ≡ (verdict (token_account type grown.token paid outs) >>= (λ (t : ℕ). fine (both c t)))
    ended c = ap (λ (f : ℕ → Outcome Figures). verdict (token_account type grown.token paid outs) >>= f) (λ i t. answer_is (both c t) i)

-- the contribution hangs on the answer of the records' tokens alone
module _ (type : List ℕ) (paid : Ruled ℕ) where
  accounts-known : (opening : Bool) (gained : ℕ) (outs : List Cell) (rate size : ℕ) (grown : Figures)
      → verdict (accounts type opening gained paid outs rate size grown) ≡ verdict (accounts type opening gained (known (verdict paid)) outs rate size grown)
  accounts-known opening gained outs rate size grown =
      account_steps type opening gained paid outs rate size grown
      ∙ ap (λ (o : Outcome ℕ). verdict (covered opening gained (grown.capacity + total cell_capacity outs) rate size) >>= (λ (c : ℕ). o >>= (λ (t : ℕ). fine (both c t)))) (account-known type grown.token paid outs)
      ∙ sym (account_steps type opening gained (known (verdict paid)) outs rate size grown)

  pub contribution-known : (ours peer : Tx) (gained rate size : ℕ)
      → verdict (contribution type ours peer gained paid rate size) ≡ verdict (contribution type ours peer gained (known (verdict paid)) rate size)
  contribution-known ours peer gained rate size =
      contribution_steps type ours peer gained paid rate size
      ∙ ap (λ (f : Figures → Outcome Figures). verdict (funding_output_delta type ours peer) >>= f) (λ i g. accounts-known (unfunded ours) gained (added ours peer) rate size g i)
      ∙ sym (contribution_steps type ours peer gained (known (verdict paid)) rate size)
