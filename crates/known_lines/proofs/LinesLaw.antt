-- `judge` refuses with the first line that fails, and accepts where none does.
use mathlib.Core.Path.{◌≡◌, refl, ap, ◌∙◌}
use Prim.Native.Nat.{ℕ, suc, ◌+◌, ◌-◌, ◌^◌}
use native.Mathlib.Omega.{arith}
use mathlib.Core.Bool.{Bool, true, false, cond}
use mathlib.Core.List.{List, [], ◌∷◌}
use mathlib.Core.Option.{Option}
use lib.{ListN.length, Dec.ltb}
use Rattle.error.specs.Outcome.{fine}
use Rattle.molecule.specs.Molecule.{option, readable}
use Rattle.transaction.specs.Ckb.{Transaction}
use Rattle.units.specs.Units.{Figures}
use Rattle.lists.specs.Lists.{is_empty}
use Rattle.transaction.specs.Tx.{Tx, tx_at}
use Rattle.transaction.specs.Cells.{Cell}
use Rattle.rules.specs.Records.{LentRecords, lent_at}
use Rattle.rules.specs.Surplus.{total, added, cell_capacity, amount_of, token_of, is_of, has_amount}
use Rattle.rules.specs.Lines.{Ruled, first_failing, verdict, followed, answer, line_with, ◌>>=◌, ◌>>◌}
use Rattle.rules.specs.Judge.{Call, Names, of_records, of_outputs, scripts, within, limits, comparison, live, live_cells, spent, growth, unfunded, token_delta, funding_output_delta, covered, counted, tally, settled, token_account, accounts, contribution, opening, closing, ruling, ruling_against, judge}
use Rattle.rules.specs.Run.{lent_cells}
use Rattle.known_lines.specs.Lines.{lines, surpluses}

-- ---- what a block answers where all its lines hold

module _ {B : Type 0} where
  after_bind : {A : Type 0} (m : Ruled A) (f : A → Ruled B) {a : A} → m.answer ≡ fine a → (m >>= f).answer ≡ (f a).answer
  unfolding ◌>>=◌ followed
  after_bind m f e = rw e

  after_then : (m : Ruled (Unit {0})) (r : Ruled B) → m.answer ≡ fine tt → (m >> r).answer ≡ r.answer
  unfolding ◌>>◌ followed
  after_then m r e = rw e

scripts-answer : (lock type source : List ℕ) → (scripts lock type source).answer ≡ fine tt
unfolding scripts line_with followed ◌>>◌
scripts-answer lock type source = refl

limits-answer : (size : ℕ) (ours peer : Tx) → (limits size ours peer).answer ≡ fine tt
unfolding within line_with followed ◌>>◌
limits-answer size ours peer = refl

comparison-answer : (lock type : List ℕ) (ours peer : Tx) → (comparison lock type ours peer).answer ≡ fine tt
unfolding comparison line_with followed ◌>>◌
comparison-answer lock type ours peer = refl

live-answer : (source : List ℕ) (i : ℕ) (rs : List (Option Cell)) → (live source i rs).answer ≡ fine tt
unfolding live line_with answer followed ◌>>◌
live-answer source i [] = refl
live-answer source i (r ∷ rs) = live-answer source (suc i) rs

spent-answer : (source : List ℕ) (ours peer : Tx) (lent : LentRecords) → (spent source ours peer lent).answer ≡ fine (live_cells lent.records)
unfolding spent line_with answer followed ◌>>◌
spent-answer source ours peer lent = rw (live-answer source (length ours.inputs) lent.records)

delta-answer : (type : List ℕ) (ours peer : Tx) → (funding_output_delta type ours peer).answer
    ≡ fine (record { capacity = growth cell_capacity ours peer; token = cond (is_empty type) 0 (growth amount_of ours peer) })
unfolding funding_output_delta token_delta line_with answer followed ◌>>◌ ◌>>=◌
delta-answer type ours peer = by (is_empty type)
  where
    grown : ℕ → Ruled Figures
    grown t = answer (record { capacity = growth cell_capacity ours peer; token = t })

    by : (b : Bool) → (cond b (answer 0) (token_delta ours peer) >>= grown).answer
        ≡ fine (record { capacity = growth cell_capacity ours peer; token = cond b 0 (growth amount_of ours peer) })
    by true = refl
    by false = refl

counted-answer : (names : Names) (type : List ℕ) (sum : ℕ) (c : Cell) → (counted names type sum c).answer ≡ fine (sum + token_of type c)
unfolding counted line_with answer followed ◌>>◌
counted-answer names type sum c = by (is_of type c)
  where
    by : (b : Bool) → (cond b (line_with 5 [] names.short (has_amount c) >> (line_with 7 [] names.over (ltb (sum + amount_of c) (2 ^ 128)) >> answer (sum + amount_of c))) (answer sum)).answer
        ≡ fine (sum + cond b (amount_of c) 0)
    by true = refl
    by false = ap fine (omega arith)

tally-answer : (names : Names) (type : List ℕ) (sum : ℕ) (cs : List Cell) → (tally names type sum cs).answer ≡ fine (sum + total (token_of type) cs)
unfolding tally total answer
tally-answer names type sum [] = ap fine (omega arith)
tally-answer names type sum (c ∷ cs) =
    after_bind (counted names type sum c) (λ (n : ℕ). tally names type n cs) (counted-answer names type sum c)
    ∙ tally-answer names type (sum + token_of type c) cs ∙ ap fine (omega arith)

tally_all : (names : Names) (type : List ℕ) (cs : List Cell) → (tally names type 0 cs).answer ≡ fine (total (token_of type) cs)
tally_all names type cs = tally-answer names type 0 cs ∙ ap fine (omega arith)

settled-answer : (growth outs gained : ℕ) → (settled growth outs gained).answer ≡ fine (gained - (growth + outs))
unfolding settled line_with answer followed ◌>>◌
settled-answer growth outs gained = refl

account-answer : (type : List ℕ) (ours peer : Tx) (records : List Cell)
    → (token_account type (cond (is_empty type) 0 (growth amount_of ours peer)) (tally of_records type 0 records) (added ours peer)).answer
    ≡ fine (surpluses type ours peer records).token
unfolding token_account answer
account-answer type ours peer records = by (is_empty type)
  where
    left : ℕ → ℕ → Ruled ℕ
    left grown gained = tally of_outputs type 0 (added ours peer) >>= λ put. settled grown put gained

    by : (b : Bool) → (cond b (answer 0) (tally of_records type 0 records >>= left (cond b 0 (growth amount_of ours peer)))).answer
        ≡ fine (cond b 0 (total (token_of type) records - (growth amount_of ours peer + total (token_of type) (added ours peer))))
    by true = refl
    by false =
        after_bind (tally of_records type 0 records) (left (growth amount_of ours peer)) (tally_all of_records type records)
        ∙ after_bind (tally of_outputs type 0 (added ours peer)) (λ put. settled (growth amount_of ours peer) put (total (token_of type) records)) (tally_all of_outputs type (added ours peer))
        ∙ settled-answer (growth amount_of ours peer) (total (token_of type) (added ours peer)) (total (token_of type) records)

covered-answer : (opening : Bool) (gained needed rate size : ℕ) → (covered opening gained needed rate size).answer ≡ fine (gained - needed)
unfolding covered line_with answer followed ◌>>◌
covered-answer opening gained needed rate size = refl

contribution-answer : (type : List ℕ) (ours peer : Tx) (records : List Cell) (rate size : ℕ)
    → (contribution type ours peer (total cell_capacity records) (tally of_records type 0 records) rate size).answer ≡ fine (surpluses type ours peer records)
unfolding contribution accounts answer
contribution-answer type ours peer records rate size =
    after_bind (funding_output_delta type ours peer) _ (delta-answer type ours peer)
    ∙ after_bind (covered (unfunded ours) (total cell_capacity records) (growth cell_capacity ours peer + total cell_capacity (added ours peer)) rate size) _ (covered-answer _ _ _ rate size)
    ∙ after_bind (token_account type (cond (is_empty type) 0 (growth amount_of ours peer)) (tally of_records type 0 records) (added ours peer)) _ (account-answer type ours peer records)

closing-answer : (type source : List ℕ) (ours peer : Tx) (rate size : ℕ) (lent : LentRecords)
    → (closing type source ours peer rate size lent).answer ≡ fine (surpluses type ours peer (live_cells lent.records))
unfolding closing
closing-answer type source ours peer rate size lent =
    after_bind (spent source ours peer lent) _ (spent-answer source ours peer lent) ∙ contribution-answer type ours peer (live_cells lent.records) rate size

opening-answer : (lock type source : List ℕ) (ours : Tx) (bytes : List ℕ) → (opening lock type source ours bytes).answer ≡ fine tt
unfolding opening line_with followed ◌>>◌
opening-answer lock type source ours bytes = rw (scripts-answer lock type source, limits-answer (length bytes + 4) ours (tx_at bytes), comparison-answer lock type ours (tx_at bytes))

ruling-answer : (lock type ours : List ℕ) (call : Call)
    → (ruling lock type ours call).answer ≡ fine (surpluses type (tx_at ours) (tx_at call.peer) (lent_cells call.records))
unfolding ruling ruling_against line_with
ruling-answer lock type ours call =
    after_then (line_with 1 [] _ _) _ one_line
    ∙ after_then (opening lock type call.source (tx_at ours) call.peer) _ (opening-answer lock type call.source (tx_at ours) call.peer)
    ∙ closing-answer type call.source (tx_at ours) (tx_at call.peer) call.rate (length call.peer + 4) (lent_at call.records)
  where
    one_line : (line_with 1 [] "our bytes unreadable" (readable (option Transaction) ours)).answer ≡ fine tt
    one_line = refl

pub judge-is-ruled : (lock type ours : List ℕ) (call : Call)
    → judge lock type ours call ≡ first_failing (lines lock type ours call) (fine (surpluses type (tx_at ours) (tx_at call.peer) (lent_cells call.records)))
unfolding judge verdict lines
judge-is-ruled lock type ours call = ap (first_failing (ruling lock type ours call).lines) (ruling-answer lock type ours call)
