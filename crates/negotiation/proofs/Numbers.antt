-- No refusal of the rules has the number 0, since no line has: a first word of 0 is an acceptance.
use mathlib.Core.Path.{◌≡◌, refl, sym}
use Prim.Native.Nat.{ℕ, suc, ◌<◌}
use mathlib.Core.Bool.{Bool, true, false, cond}
use mathlib.Core.List.{List, [], ◌∷◌, ◌++◌}
use mathlib.Core.Option.{Option}
use native.Mathlib.Omega.{arith}
use Rattle.error.specs.Outcome.{Outcome, fine, refused, check_with}
use Rattle.error.specs.Outcome as outcome
use Rattle.error.proofs.Passed.{never}
use Rattle.units.specs.Units.{Figures}
use Rattle.molecule.specs.Partial.{All}
use Rattle.lists.specs.Lists.{is_empty}
use Rattle.transaction.specs.Tx.{Tx, tx_at}
use Rattle.transaction.specs.Cells.{Cell}
use Rattle.rules.specs.Records.{LentRecords, lent_at}
use Rattle.rules.specs.Surplus.{is_of, added}
use Rattle.rules.specs.Lines.{Name, Line, Ruled, first_failing, verdict, followed, answer, line_with, ◌>>=◌, ◌>>◌}
use Rattle.rules.specs.Judge.{Call, Names, within, limits, comparison, live, live_cells, spent, token_delta, funding_output_delta, covered, counted, tally, settled, token_account, accounts, contribution, scripts, opening, closing, ruling, ruling_against, judge}
use Rattle.rules.specs.Run.{next, verdicts, update_for_peer}

pub record Numbered {A : Type 0} (o : Outcome A) : Type 0 where
  pub positive : (n : ℕ) (l : List ℕ) → o ≡ refused n l → 0 < n

done : {A : Type 0} (a : A) → Numbered (fine a)
done a = record { positive = λ n l e. absurd (never n l a (sym e)) }

refuse : {A : Type 0} (n : ℕ) (l : List ℕ) → 0 < n → Numbered {A = A} (refused n l)
refuse n l h = record { positive = λ m k e. (let z : n ≡ m = cc in omega arith) }

-- ---- lines with numbers

abbrev Positive : Line → Type 0
Positive l = 0 < l.number

-- each of a block's lines has one, and an answer follows
record Lined {A : Type 0} (m : Ruled A) : Type 0 where
  pub lines : All Positive m.lines
  pub given : Numbered m.answer

joined : (ls ms : List Line) → All Positive ls → All Positive ms → All Positive (ls ++ ms)
joined [] ms a b = b
joined (l ∷ ls) ms (p, a) b = (p, joined ls ms a b)

just : {A : Type 0} (a : A) → Lined (answer a)
unfolding answer
just a = record { lines = tt; given = done a }

of : (n : ℕ) (l : List ℕ) (s : Name) (b : Bool) → 0 < n → Lined (line_with n l s b)
unfolding line_with
of n l s b h = record { lines = (h, tt); given = done tt }

after : {A B : Type 0} (ls : List Line) (o : Outcome A) (f : A → Ruled B) → All Positive ls → Numbered o → ((a : A) → Lined (f a)) → Lined (followed ls o f)
unfolding followed
after ls (fine a) f p q h = let w = h a in record { lines = joined ls (f a).lines p w.lines; given = w.given }
after ls (refused n l) f p q h = record { lines = p; given = refuse n l (q.positive n l refl) }

and_with : {A B : Type 0} (m : Ruled A) (f : A → Ruled B) → Lined m → ((a : A) → Lined (f a)) → Lined (m >>= f)
unfolding ◌>>=◌
and_with m f w h = after m.lines m.answer f w.lines w.given h

and_then : {B : Type 0} (m : Ruled (Unit {0})) (r : Ruled B) → Lined m → Lined r → Lined (m >> r)
unfolding ◌>>◌
and_then m r w h = after m.lines m.answer (λ _. r) w.lines w.given (λ _. h)

-- a line, and what follows it
on : {B : Type 0} (n : ℕ) (l : List ℕ) (s : Name) (b : Bool) (r : Ruled B) → 0 < n → Lined r → Lined (line_with n l s b >> r)
on n l s b r h p = and_then (line_with n l s b) r (of n l s b h) p

either : {A : Type 0} (b : Bool) {x y : Ruled A} → Lined x → Lined y → Lined (cond b x y)
either true p q = p
either false p q = q

-- what is answered by such a block
numbered : {A : Type 0} (m : Ruled A) → Lined m → Numbered (verdict m)
unfolding verdict first_failing outcome.◌>>◌ check_with
numbered {A} m w = by m.lines w.lines
  where
    first : (l : Line) (b : Bool) (o : Outcome A) → 0 < l.number → Numbered o → Numbered (outcome.◌>>◌ (check_with l.number l.values b) o)
    first l true o h p = p
    first l false o h p = refuse l.number l.values h

    by : (ls : List Line) → All Positive ls → Numbered (first_failing ls m.answer)
    by [] t = w.given
    by (l ∷ ls) (h, hs) = first l l.holds (first_failing ls m.answer) h (by ls hs)

-- ---- the rules

scripts_lined : (lock type source : List ℕ) → Lined (scripts lock type source)
unfolding scripts
scripts_lined lock type source = on 3 _ _ _ _ (omega arith) (on 3 _ _ _ _ (omega arith) (of 3 _ _ _ (omega arith)))

limits_lined : (size : ℕ) (ours peer : Tx) → Lined (limits size ours peer)
unfolding within
limits_lined size ours peer = on 4 _ _ _ _ (omega arith) (on 4 _ _ _ _ (omega arith) (on 4 _ _ _ _ (omega arith) (on 4 _ _ _ _ (omega arith) (of 4 _ _ _ (omega arith)))))

comparison_lined : (lock type : List ℕ) (ours peer : Tx) → Lined (comparison lock type ours peer)
unfolding comparison
comparison_lined lock type ours peer = on 5 _ _ _ _ (omega arith) (on 5 _ _ _ _ (omega arith) (on 5 _ _ _ _ (omega arith) (on 5 _ _ _ _ (omega arith) (on 5 _ _ _ _ (omega arith) (on 5 _ _ _ _ (omega arith) (on 5 _ _ _ _ (omega arith) (on 5 _ _ _ _ (omega arith) (on 5 _ _ _ _ (omega arith) (on 5 _ _ _ _ (omega arith) (on 5 _ _ _ _ (omega arith) (on 5 _ _ _ _ (omega arith) (on 5 _ _ _ _ (omega arith) (of 5 _ _ _ (omega arith))))))))))))))

live_lined : (source : List ℕ) (i : ℕ) (rs : List (Option Cell)) → Lined (live source i rs)
unfolding live
live_lined source i [] = just tt
live_lined source i (r ∷ rs) = on _ _ _ _ _ (omega arith) (on _ _ _ _ _ (omega arith) (live_lined source (suc i) rs))

spent_lined : (source : List ℕ) (ours peer : Tx) (lent : LentRecords) → Lined (spent source ours peer lent)
unfolding spent
spent_lined source ours peer lent = on _ _ _ _ _ (omega arith) (on _ _ _ _ _ (omega arith) (and_then (live source _ lent.records) _ (live_lined source _ lent.records) (just (live_cells lent.records))))

token-delta_lined : (ours peer : Tx) → Lined (token_delta ours peer)
unfolding token_delta
token-delta_lined ours peer = on _ _ _ _ _ (omega arith) (on _ _ _ _ _ (omega arith) (on _ _ _ _ _ (omega arith) (just _)))

delta_lined : (type : List ℕ) (ours peer : Tx) → Lined (funding_output_delta type ours peer)
unfolding funding_output_delta
delta_lined type ours peer = on _ _ _ _ _ (omega arith) (on _ _ _ _ _ (omega arith) (on _ _ _ _ _ (omega arith) (and_with (cond (is_empty type) (answer 0) (token_delta ours peer)) _ (either (is_empty type) (just 0) (token-delta_lined ours peer)) (λ token. just _))))

covered_lined : (opening : Bool) (gained needed rate size : ℕ) → Lined (covered opening gained needed rate size)
unfolding covered
covered_lined opening gained needed rate size = on _ _ _ _ _ (omega arith) (on _ _ _ _ _ (omega arith) (just _))

counted_lined : (names : Names) (type : List ℕ) (sum : ℕ) (c : Cell) → Lined (counted names type sum c)
unfolding counted
counted_lined names type sum c = either (is_of type c) (on _ _ _ _ _ (omega arith) (on _ _ _ _ _ (omega arith) (just _))) (just sum)

tally_lined : (names : Names) (type : List ℕ) (sum : ℕ) (cs : List Cell) → Lined (tally names type sum cs)
unfolding tally
tally_lined names type sum [] = just sum
tally_lined names type sum (c ∷ cs) = and_with (counted names type sum c) _ (counted_lined names type sum c) (λ n. tally_lined names type n cs)

settled_lined : (growth outs gained : ℕ) → Lined (settled growth outs gained)
unfolding settled
settled_lined growth outs gained = on _ _ _ _ _ (omega arith) (on _ _ _ _ _ (omega arith) (just _))

token_lined : (type : List ℕ) (growth : ℕ) (paid : Ruled ℕ) (outs : List Cell) → Lined paid → Lined (token_account type growth paid outs)
unfolding token_account
token_lined type growth paid outs w =
    either (is_empty type) (just 0)
    (and_with paid _ w (λ gained. and_with (tally _ type 0 outs) _ (tally_lined _ type 0 outs) (λ put. settled_lined growth put gained)))

accounts_lined : (type : List ℕ) (opening : Bool) (gained : ℕ) (paid : Ruled ℕ) (outs : List Cell) (rate size : ℕ) (grown : Figures) → Lined paid
    → Lined (accounts type opening gained paid outs rate size grown)
unfolding accounts
accounts_lined type opening gained paid outs rate size grown w =
    and_with (covered opening gained _ rate size) _ (covered_lined opening gained _ rate size)
    (λ capacity. and_with (token_account type grown.token paid outs) _ (token_lined type grown.token paid outs w) (λ token. just _))

contribution_lined : (type : List ℕ) (ours peer : Tx) (gained : ℕ) (paid : Ruled ℕ) (rate size : ℕ) → Lined paid → Lined (contribution type ours peer gained paid rate size)
unfolding contribution
contribution_lined type ours peer gained paid rate size w =
    and_with (funding_output_delta type ours peer) _ (delta_lined type ours peer) (λ grown. accounts_lined type _ gained paid (added ours peer) rate size grown w)

opening_lined : (lock type source : List ℕ) (ours : Tx) (bytes : List ℕ) → Lined (opening lock type source ours bytes)
unfolding opening
opening_lined lock type source ours bytes =
    on _ _ _ _ _ (omega arith) (and_then (scripts lock type source) _ (scripts_lined lock type source)
    (and_then (limits _ ours (tx_at bytes)) _ (limits_lined _ ours (tx_at bytes)) (comparison_lined lock type ours (tx_at bytes))))

closing_lined : (type source : List ℕ) (ours peer : Tx) (rate size : ℕ) (lent : LentRecords) → Lined (closing type source ours peer rate size lent)
unfolding closing
closing_lined type source ours peer rate size lent =
    and_with (spent source ours peer lent) _ (spent_lined source ours peer lent) (λ records. contribution_lined type ours peer _ _ rate size (tally_lined _ type 0 records))

pub judge_numbered : (lock type ours : List ℕ) (call : Call) → Numbered (judge lock type ours call)
unfolding judge ruling ruling_against
judge_numbered lock type ours call =
    numbered (ruling lock type ours call)
    (on _ _ _ _ _ (omega arith) (and_then (opening lock type call.source (tx_at ours) call.peer) _ (opening_lined lock type call.source (tx_at ours) call.peer)
    (closing_lined type call.source (tx_at ours) (tx_at call.peer) call.rate _ (lent_at call.records))))

-- so it is for the verdicts of a list
pub verdicts_numbered : (lock type : List ℕ) (calls : List Call) (start : List ℕ) → All Numbered (verdicts (update_for_peer lock type) start calls)
verdicts_numbered lock type [] start = tt
verdicts_numbered lock type (c ∷ cs) start = (judge_numbered lock type start c, verdicts_numbered lock type cs (next (update_for_peer lock type) start c))
