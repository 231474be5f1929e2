-- An accepted update is a step, in capacity and in the expected token.
use mathlib.Core.Path.{◌≡◌, refl, sym, ap, ◌∙◌, subst}
use Prim.Native.Nat.{ℕ, suc, ◌+◌, ◌-◌, ◌^◌, ◌≤◌}
use native.Mathlib.Omega.{arith}
use mathlib.Core.Bool.{Bool, true, false, not, cond, ◌||◌}
use mathlib.Core.List.{List, [], ◌∷◌}
use mathlib.Core.Option.{Option, none, some}
use lib.ListN.{length, drop}
use lib.Dec.{T, leb, ltb, eqb, eqb→eq, leb→le}
use Rattle.error.specs.Outcome.{Outcome, fine, refused, check_with, leaves}
use Rattle.error.specs.Outcome as outcome
use Rattle.error.proofs.Passed.{is_true}
use Rattle.units.specs.Units.{Figures}
use Rattle.molecule.specs.Partial.{All}
use Rattle.molecule.specs.Molecule.{option, readable}
use Rattle.molecule.proofs.ReadableLaws.{readable-option}
use Rattle.lists.specs.Lists.{is_empty}
use Rattle.transaction.specs.Ckb.{Transaction}
use Rattle.transaction.specs.Tx.{Tx, tx_at}
use Rattle.transaction.specs.Cells.{Cell, cells}
use Rattle.rules.specs.Records.{LentRecords, lent_at}
use Rattle.rules.specs.Surplus.{total, first, added, capacities, cell_capacity, amount_of, token_of, is_of, has_amount, expected}
use Rattle.rules.specs.Lines.{line, line_with, answer, verdict, followed, line_holds, ◌>>=◌, ◌>>◌}
use Rattle.rules.specs.Judge.{Call, judge, judge_against, ruling, ruling_against, opening, closing, scripts, limits, comparison, spent, live, live_cells, counted, Names, of_records, of_outputs, tally, settled, growth, token_delta, funding_output_delta, covered, token_account, accounts, contribution}
use Rattle.rules.specs.Run.{handed_back, lent_cells, next, update_for_peer}
use Rattle.rules.specs.Step.{Settled, with_data, Extends, Balanced}
use Rattle.rules.specs.Lawful.{Owed, Owes, two_figures}
use Rattle.rules.proofs.LinesLaws.{holding, line-then, line-accepted, answer-accepted, bind-accepted, then-accepted}
use Rattle.lists.proofs.PrefixLaws.{prefix_length}
use Rattle.rules.proofs.Tests.{agree_prefix, drop_more}

-- ---- comparison

compared : (lock type : List ℕ) (ours peer : Tx) → verdict (comparison lock type ours peer) ≡ fine tt → Extends ours peer
unfolding comparison line_with followed ◌>>◌ line_holds
compared lock type ours peer e = record {
  inputs = agree_prefix ours.inputs peer.inputs (leb→le _ _ (holding _ _ e "fewer inputs")) (holding _ _ e "an input differs");
  rest = agree_prefix (drop 1 ours.outputs) (drop 1 peer.outputs) (drop_more ours.outputs peer.outputs (leb→le _ _ (holding _ _ e "fewer outputs"))) (holding _ _ e "an output after 0 differs");
  entries = agree_prefix (drop 1 ours.outputs_data) (drop 1 peer.outputs_data) (drop_more ours.outputs_data peer.outputs_data (leb→le _ _ (holding _ _ e "fewer data entries"))) (holding _ _ e "a data entry after 0 differs");
}

-- ---- records

live_all : (source : List ℕ) (i : ℕ) (rs : List (Option Cell)) → verdict (live source i rs) ≡ fine tt → length (live_cells rs) ≡ length rs
unfolding live live_cells line_with followed ◌>>◌ line_holds
live_all source i [] e = refl
live_all source i (none ∷ rs) e = absurd (holding _ _ e "a record not live")
live_all source i (some c ∷ rs) e =
    let (_, e₁) = line-accepted _ _ _ _ _ _ e in
    let (_, e₂) = line-accepted _ _ _ _ _ _ e₁ in
    ap suc (live_all source (suc i) rs e₂)

-- ---- tokens

-- a cell of the type has an amount
abbrev Read : List ℕ → Cell → Type 0
Read type c = T (not (is_of type c) || has_amount c)

counted_is : (names : Names) (type : List ℕ) (sum : ℕ) (c : Cell) (t : ℕ) → verdict (counted names type sum c) ≡ fine t
    → (t ≡ sum + token_of type c) × Read type c
unfolding counted
counted_is names type sum c t e = by (is_of type c) e
  where
    by : (b : Bool) → verdict (cond b (line 5 names.short (has_amount c) >> (line 7 names.over (ltb (sum + amount_of c) (2 ^ 128)) >> answer (sum + amount_of c))) (answer sum)) ≡ fine t
        → (t ≡ sum + cond b (amount_of c) 0) × T (not b || has_amount c)
    by true e =
        let (read, e₁) = line-accepted _ _ _ _ _ _ e in
        let (small, e₂) = line-accepted _ _ _ _ _ _ e₁ in
        (sym (answer-accepted e₂), read)
    by false e = let h : sum ≡ t = answer-accepted e in (omega arith, tt)

tally-total : (names : Names) (type : List ℕ) (sum : ℕ) (cs : List Cell) (t : ℕ) → verdict (tally names type sum cs) ≡ fine t
    → (t ≡ sum + total (token_of type) cs) × All (Read type) cs
unfolding tally total
tally-total names type sum [] t e = let h : sum ≡ t = answer-accepted e in (omega arith, tt)
tally-total names type sum (c ∷ cs) t e =
    let (next, n, e₁) = bind-accepted (counted names type sum c) (λ (m : ℕ). tally names type m cs) t e in
    let (h, read) = counted_is names type sum c next n in
    let (p, q) = tally-total names type next cs t e₁ in
    (omega (arith, p, h), (read, q))

-- an output of the type that is added has its amount when it is added, and no data entry can come to it later
read_settled : (type : List ℕ) (c : Cell) → Read type c → Settled (token_of type) c
unfolding is_of has_amount
read_settled type c h gone d = by_type (is_of type c) h
  where
    none-there : T (has_amount c) → ⊥
    none-there t = subst (λ (l : List ℕ). T (has_amount (with_data c.output l))) gone t

    by_type : (b : Bool) → T (not b || has_amount c) → cond b (amount_of (with_data c.output d)) 0 ≡ cond b (amount_of c) 0
    by_type true h = absurd (none-there h)
    by_type false h = refl

all_settled : (type : List ℕ) (cs : List Cell) → All (Read type) cs → All (Settled (token_of type)) cs
all_settled type [] a = tt
all_settled type (c ∷ cs) a = (read_settled type c a.0, all_settled type cs a.1)

record Accounted (type : List ℕ) (growth : ℕ) (records outs : List Cell) (paid : ℕ) : Type 0 where
  pub settled : All (Settled (token_of type)) outs
  pub balance : total (token_of type) records ≡ paid + growth + total (token_of type) outs

accounted : (type : List ℕ) (growth : ℕ) (records outs : List Cell) (paid : ℕ)
    → verdict (tally of_records type 0 records >>= (λ (g : ℕ). tally of_outputs type 0 outs >>= (λ (o : ℕ). settled growth o g))) ≡ fine paid
    → Accounted type growth records outs paid
unfolding settled
accounted type growth records outs paid e =
    let (gained, g, e₁) = bind-accepted (tally of_records type 0 records) _ _ e in
    let (spent, s, e₂) = bind-accepted (tally of_outputs type 0 outs) _ _ e₁ in
    let (small, e₃) = line-accepted _ _ _ _ _ _ e₂ in
    let (enough, e₄) = line-accepted _ _ _ _ _ _ e₃ in
    let (p, _) = tally-total _ type 0 records gained g in
    let (q, read) = tally-total _ type 0 outs spent s in
    let r : gained - (growth + spent) ≡ paid = answer-accepted e₄ in
    record {
      settled = all_settled type outs read;
      balance = omega (arith, p, q, r, leb→le (growth + spent) gained enough);
    }

-- ---- contribution

pub total-nothing : (cs : List Cell) → total (λ _. 0) cs ≡ 0
unfolding total
total-nothing [] = refl
total-nothing (c ∷ cs) = omega (arith, total-nothing cs)

pub first-nothing : (cs : List Cell) → first (λ _. 0) cs ≡ 0
unfolding first
first-nothing [] = refl
first-nothing (c ∷ cs) = refl

-- a figure that does not read data is settled
pub data_free : (f : Cell → ℕ) → ((c : Cell) (d : List ℕ) → f (with_data c.output d) ≡ f c) → (cs : List Cell) → All (Settled f) cs
data_free f h [] = tt
data_free f h (c ∷ cs) = (λ _ d. h c d, data_free f h cs)

account_balanced : (t : List ℕ) (f : Cell → ℕ) (ours peer : Tx) (records : List Cell) (paid : ℕ)
    → Accounted t (growth f ours peer) records (added ours peer) paid → first f (cells ours) ≤ first f (cells peer)
    → Balanced (record { at_zero = f; of = token_of t }) ours peer records paid
account_balanced t f ours peer records paid a h = record { settled = a.settled; balance = omega (arith, a.balance, h) }

-- the amount at output 0 does not fall in a typed update
abbrev Grows : List ℕ → Tx → Tx → Type 0
Grows type ours peer = T (is_empty type || leb (first amount_of (cells ours)) (first amount_of (cells peer)))

token_balanced : (type : List ℕ) (ours peer : Tx) (records : List Cell) (paid : ℕ)
    → verdict (token_account type (cond (is_empty type) 0 (growth amount_of ours peer)) (tally of_records type 0 records) (added ours peer)) ≡ fine paid
    → Grows type ours peer → Balanced (expected type) ours peer records paid
unfolding token_account is_empty
token_balanced [] ours peer records paid e t =
    let h : 0 ≡ paid = answer-accepted e in
    record {
      settled = data_free (λ _. 0) (λ _ _. refl) (added ours peer);
      balance = omega (arith, h, total-nothing records, total-nothing (added ours peer), first-nothing (cells ours), first-nothing (cells peer));
    }
token_balanced (b ∷ bs) ours peer records paid e t =
    account_balanced (b ∷ bs) amount_of ours peer records paid (accounted (b ∷ bs) (growth amount_of ours peer) records (added ours peer) paid e) (leb→le (first amount_of (cells ours)) (first amount_of (cells peer)) t)

record Grown (type : List ℕ) (ours peer : Tx) (delta : Figures) : Type 0 where
  pub capacity : first cell_capacity (cells ours) ≤ first cell_capacity (cells peer)
  pub amount : Grows type ours peer
  pub is : record { capacity = growth cell_capacity ours peer; token = cond (is_empty type) 0 (growth amount_of ours peer) } ≡ delta

-- of a typed update
token-grown : (ours peer : Tx) (t : ℕ) → verdict (token_delta ours peer) ≡ fine t → T (leb (first amount_of (cells ours)) (first amount_of (cells peer))) × (growth amount_of ours peer ≡ t)
unfolding token_delta
token-grown ours peer t e =
    let (oursRead, e₁) = line-accepted _ _ _ _ _ _ e in
    let (peerRead, e₂) = line-accepted _ _ _ _ _ _ e₁ in
    let (amountGrows, e₃) = line-accepted _ _ _ _ _ _ e₂ in
    (amountGrows, answer-accepted e₃)

expected-grown : (type : List ℕ) (ours peer : Tx) (t : ℕ) → verdict (cond (is_empty type) (answer 0) (token_delta ours peer)) ≡ fine t
    → Grows type ours peer × (cond (is_empty type) 0 (growth amount_of ours peer) ≡ t)
unfolding is_empty
expected-grown [] ours peer t e = (tt, answer-accepted e)
expected-grown (b ∷ bs) ours peer t e = token-grown ours peer t e

grown : (type : List ℕ) (ours peer : Tx) (delta : Figures) → verdict (funding_output_delta type ours peer) ≡ fine delta → Grown type ours peer delta
unfolding funding_output_delta
grown type ours peer delta e =
    let (there, e₁) = line-accepted _ _ _ _ _ _ e in
    let (dataThere, e₂) = line-accepted _ _ _ _ _ _ e₁ in
    let (capacityGrows, e₃) = line-accepted _ _ _ _ _ _ e₂ in
    let (token, t, e₄) = bind-accepted (cond (is_empty type) (answer 0) (token_delta ours peer)) _ _ e₃ in
    let (amountGrows, is) = expected-grown type ours peer token t in
    record {
      capacity = leb→le _ _ capacityGrows;
      amount = amountGrows;
      is = ap (λ (n : ℕ). record { capacity = growth cell_capacity ours peer; token = n }) is ∙ answer-accepted e₄;
    }

left_over : (opening : Bool) (gained needed rate bytes paid : ℕ) → verdict (covered opening gained needed rate bytes) ≡ fine paid → gained ≡ paid + needed
unfolding covered
left_over opening gained needed rate bytes paid e =
    let (enough, e₁) = line-accepted _ _ _ _ _ _ e in
    let (fee, e₂) = line-accepted _ _ _ _ _ _ e₁ in
    let covers : needed ≤ gained = leb→le _ _ enough in
    let p : gained - needed ≡ paid = answer-accepted e₂ in
    omega arith

capacity_free : (cs : List Cell) → All (Settled cell_capacity) cs
unfolding cell_capacity
capacity_free cs = data_free cell_capacity (λ _ _. refl) cs

contributed : (type : List ℕ) (ours peer : Tx) (records : List Cell) (rate bytes : ℕ) (s : Figures)
    → verdict (contribution type ours peer (total cell_capacity records) (tally of_records type 0 records) rate bytes) ≡ fine s
    → Balanced capacities ours peer records s.capacity × Balanced (expected type) ours peer records s.token
unfolding contribution accounts
contributed type ours peer records rate bytes s e =
    let (delta, d, e₁) = bind-accepted (funding_output_delta type ours peer) _ _ e in
    let (capacity, c, e₂) = bind-accepted (covered _ _ _ rate bytes) _ _ e₁ in
    let (token, t, e₃) = bind-accepted (token_account type delta.token _ _) _ _ e₂ in
    let paid : capacity ≡ s.capacity = ap (λ (r : Figures). r.capacity) (answer-accepted e₃) in
    let tokenPaid : token ≡ s.token = ap (λ (r : Figures). r.token) (answer-accepted e₃) in
    let g : Grown type ours peer delta = grown type ours peer delta d in
    let by : growth cell_capacity ours peer ≡ delta.capacity = ap (λ (r : Figures). r.capacity) g.is in
    let tokenBy : delta.token ≡ cond (is_empty type) 0 (growth amount_of ours peer) = ap (λ (r : Figures). r.token) (sym g.is) in (
      record {
        settled = capacity_free (added ours peer);
        balance = omega (arith, left_over _ _ _ _ _ _ c, g.capacity);
      },
      subst (Balanced (expected type) ours peer records) tokenPaid (token_balanced type ours peer records token (ap (λ (n : ℕ). verdict (token_account type n (tally of_records type 0 records) (added ours peer))) (sym tokenBy) ∙ t) g.amount),
    )

-- ---- the whole verdict

-- the peer's bytes are read the same once they are ours
peer_read : (s : List ℕ) → readable Transaction s ≡ true → readable (option Transaction) s ≡ true
peer_read s e = readable-option Transaction s ∙ rw e (by (eqb (length s) 0))
  where
    by : (b : Bool) → cond b true true ≡ true
    by true = refl
    by false = refl

examined : (ours peer : Tx) (lent : LentRecords) (source : List ℕ) (cs : List Cell) → length ours.inputs ≤ length peer.inputs
    → verdict (spent source ours peer lent) ≡ fine cs → (live_cells lent.records ≡ cs) × (length peer.inputs ≡ length ours.inputs + length cs)
unfolding spent
examined ours peer lent source cs more e =
    let (_, e₁) = line-accepted _ _ _ _ _ _ e in
    let (count, e₂) = line-accepted _ _ _ _ _ _ e₁ in
    let (alive, e₃) = then-accepted (live source (length ours.inputs) lent.records) _ _ e₂ in
    let are : live_cells lent.records ≡ cs = answer-accepted e₃ in
    (are, omega (arith, more, eqb→eq (length lent.records) (length peer.inputs - length ours.inputs) count, live_all source _ lent.records alive, ap length are))

-- what an acceptance of update_for_peer says of the bytes that it was given
pub accepted : (lock type oursBytes : List ℕ) (call : Call) (s : Figures) → judge lock type oursBytes call ≡ fine s
    → Owed (two_figures type) (tx_at oursBytes) (tx_at call.peer) (lent_cells call.records) s
    × (readable (option Transaction) oursBytes ≡ true) × (readable (option Transaction) call.peer ≡ true)
unfolding judge ruling ruling_against opening closing lent_at
accepted lock type oursBytes call s e =
    let ours = tx_at oursBytes in
    let peer = tx_at call.peer in
    let (o, e₁) = line-accepted _ _ _ _ _ _ e in
    let (before, e₂) = then-accepted (opening lock type call.source ours call.peer) _ _ e₁ in
    let (p, f₁) = line-accepted _ _ _ _ _ _ before in
    let (_, f₂) = then-accepted (scripts lock type call.source) _ _ f₁ in
    let (_, f₃) = then-accepted (limits (length call.peer + 4) ours peer) _ _ f₂ in
    let (cs, x, e₃) = bind-accepted (spent call.source ours peer (lent_at call.records)) _ _ e₂ in
    let (capacity, token) = contributed type ours peer cs call.rate _ s e₃ in
    let c : Extends ours peer = compared lock type ours peer f₃ in
    let (are, inputs) = examined ours peer (lent_at call.records) call.source cs (prefix_length c.inputs) x in
    (rw are (record { extends = c; inputs = inputs; balanced = (capacity, (token, tt)) }), is_true _ o, peer_read call.peer (is_true _ p))

-- ---- what is known of our bytes

-- a call leaves bytes in force that are readable, or none, where ours were, and only there: against unreadable ones nothing is accepted
pub readable-next : (lock type ours : List ℕ) (c : Call)
    → readable (option Transaction) (next (update_for_peer lock type) ours c) ≡ readable (option Transaction) ours
readable-next lock type ours c = by (judge lock type ours c) refl
  where
    by : (v : Outcome Figures) → judge lock type ours c ≡ v → readable (option Transaction) (handed_back v ours c.peer) ≡ readable (option Transaction) ours
    by (fine f) e = let (_, o, p) = accepted lock type ours c f e in p ∙ sym o
    by (refused n l) e = refl

-- from bytes that can't be read the answer is 1
pub ruled_out : (lock type ours : List ℕ) (c : Call) → readable (option Transaction) ours ≡ false → judge lock type ours c ≡ refused 1 []
unfolding judge ruling judge_against outcome.◌>>◌ check_with
ruled_out lock type ours c h = rw (line-then 1 [] "our bytes unreadable" (readable (option Transaction) ours) (ruling_against lock type (tx_at ours) c), h) (one_refused (judge_against lock type (tx_at ours) c))
  where
    one_refused : (r : Outcome Figures) → outcome.◌>>◌ (check_with 1 [] false) r ≡ refused 1 []
    one_refused r = refl

pub update_owes : (lock type : List ℕ) → Owes (update_for_peer lock type) (two_figures type)
update_owes lock type = record {
  accepts = λ ours c s e. (accepted lock type ours c s e).0;
  reads = λ ours c s e. (accepted lock type ours c s e).2;
  ones = ruled_out lock type;
}
