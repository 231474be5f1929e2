-- Laws of the token account: a loop over cells.
use Rattle.std.proofs.Common.{◌≡◌, ℕ, ◌+◌, ◌-◌, ◌<◌, ◌≤◌, List, Bool, true, false, cond, refl, ap, ◌∙◌, sym, Result, Ok, Err}
use Rattle.units.specs.declared.{Tokens.Tokens}
use Rattle.units.specs.Units.{in_tokens, token_count}
use Rattle.error.specs.declared.Refusal.{Refusal}
use Rattle.molecule.specs.Layout.{span, item_count}
use Rattle.lists.proofs.SpanLaws.{span-on, span-end}
use Rattle.error.specs.Outcome.{Outcome, fine, ◌>>=◌, told_by}
use Rattle.transaction.specs.Cells.{Cell}
use Rattle.lists.specs.Lists.{is_empty}
use Rattle.rules.specs.Judge.{of_outputs, counted, tally, settled, token_account}
use Rattle.rules.specs.Lines.{Ruled, verdict, first_failing, answer, known}
use Rattle.rules.specs.Lines as lines
use Rattle.rules.proofs.LinesLaws.{verdict-bind}
use Rattle.accounts.specs.Added.{cell_in, cells_from}

-- R is the answer, the cells from i on decide
pub record Tally (type : List ℕ) (f : ℕ → Cell) (n i : ℕ) (sum : Tokens) (R : Outcome ℕ) : Type 0 where
  pub rest : R ≡ verdict (tally of_outputs type (token_count sum) (span f i (n - i)))

pub tally-from : (type f g : List ℕ) (k : ℕ) {n : ℕ} → n ≡ item_count f → Tally type (cell_in f g) n k (in_tokens 0) (verdict (tally of_outputs type 0 (cells_from f g k)))
tally-from type f g k {n} e = record { rest = ap (λ (m : ℕ). verdict (tally of_outputs type 0 (span (cell_in f g) k (m - k)))) (sym e) }

module _ {type : List ℕ} {f : ℕ → Cell} {n i : ℕ} {sum : Tokens} {R : Outcome ℕ} (h : Tally type f n i sum R) where
  pub tally-end : n ≤ i → fine (token_count sum) ≡ R
  unfolding tally verdict first_failing answer
  tally-end l = sym (h.rest ∙ rw (span-end f i n l))

  module _ (l : i < n) (q : Result Tokens Refusal) (e : told_by token_count q ≡ verdict (counted of_outputs type (token_count sum) (f i))) where
    next_is : R ≡ told_by token_count q >>= (λ (m : ℕ). verdict (tally of_outputs type m (span f (i + 1) (n - (i + 1)))))
    unfolding tally
    next_is =
        h.rest ∙ rw (span-on f i n l) (verdict-bind (counted of_outputs type (token_count sum) (f i)) (λ (m : ℕ). tally of_outputs type m (span f (i + 1) (n - (i + 1)))))
        ∙ ap (λ (o : Outcome ℕ). o >>= (λ (m : ℕ). verdict (tally of_outputs type m (span f (i + 1) (n - (i + 1)))))) (sym e)

    pub tally-more : {t : Tokens} → q ≡ Ok t → Tally type f n (i + 1) t R
    unfolding ◌>>=◌
    tally-more z = record { rest = rw z at next_is }

    pub tally_stops : {w : Refusal} → q ≡ Err w → told_by token_count q ≡ R
    unfolding ◌>>=◌
    tally_stops z = rw z (sym (rw z at next_is))

-- the account by its three answers
pub paid_account : (type : List ℕ) (grown : ℕ) (paid : Ruled ℕ) (outs : List Cell) → verdict (token_account type grown paid outs)
    ≡ cond (is_empty type) (fine 0) (verdict paid >>= (λ (gained : ℕ). verdict (tally of_outputs type 0 outs) >>= (λ (put : ℕ). verdict (settled grown put gained))))
unfolding token_account answer verdict first_failing
paid_account type grown paid outs = by (is_empty type)
  where
    left : ℕ → Ruled ℕ
    left gained = lines.◌>>=◌ (tally of_outputs type 0 outs) (λ (put : ℕ). settled grown put gained)

    both : verdict (lines.◌>>=◌ paid left) ≡ verdict paid >>= (λ (gained : ℕ). verdict (tally of_outputs type 0 outs) >>= (λ (put : ℕ). verdict (settled grown put gained)))
    both = verdict-bind paid left ∙ ap (λ (f : ℕ → Outcome ℕ). verdict paid >>= f) (λ i gained. verdict-bind (tally of_outputs type 0 outs) (λ (put : ℕ). settled grown put gained) i)

    by : (b : Bool) → verdict (cond b (answer 0) (lines.◌>>=◌ paid left))
        ≡ cond b (fine 0) (verdict paid >>= (λ (gained : ℕ). verdict (tally of_outputs type 0 outs) >>= (λ (put : ℕ). verdict (settled grown put gained))))
    by true = refl
    by false = both

pub known_account : (type : List ℕ) (grown : ℕ) (paid : Outcome ℕ) (outs : List Cell) → verdict (token_account type grown (known paid) outs)
    ≡ cond (is_empty type) (fine 0) (paid >>= (λ (gained : ℕ). verdict (tally of_outputs type 0 outs) >>= (λ (put : ℕ). verdict (settled grown put gained))))
unfolding known verdict first_failing
known_account type grown paid outs = paid_account type grown (known paid) outs

-- it hangs on the records' answer alone
pub account-known : (type : List ℕ) (grown : ℕ) (paid : Ruled ℕ) (outs : List Cell)
    → verdict (token_account type grown paid outs) ≡ verdict (token_account type grown (known (verdict paid)) outs)
account-known type grown paid outs = paid_account type grown paid outs ∙ sym (known_account type grown (verdict paid) outs)
