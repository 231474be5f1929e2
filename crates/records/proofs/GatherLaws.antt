-- Laws of the walk over the records, one for each way out of it.
use Rattle.std.proofs.Common.{Result, Ok, Some, None}
use mathlib.Core.Path.{◌≡◌, refl, sym, ap, ap₂, ◌∙◌}
use Prim.Native.Nat.{ℕ, zero, suc, ◌+◌, ◌-◌, ◌^◌, ◌≤◌, ◌<◌}
use mathlib.Core.List.{List, [], ◌∷◌}
use mathlib.Core.Bool.{Bool, true, false, not, cond}
use mathlib.Core.Option.{Option, none, some}
use native.Mathlib.Omega.{arith}
use native.Mathlib.Nat.{zero-add}
use borrow.Author.Tests.{eq-eqb, ne_eqb}
use mir.Syntax.{w32}
use mir.Val.{Fits}
use lib.ListN.{length}
use lib.Dec.{eqb}
use Rattle.units.specs.declared.{Shannons.Shannons, Tokens.Tokens}
use Rattle.units.specs.Units.{in_shannons, in_tokens, shannon_count, token_count, capped_sum}
use Rattle.molecule.specs.Molecule.{option, readable}
use Rattle.molecule.specs.Layout.{part, start, has_header, span, item_count, item_of}
use Rattle.molecule.proofs.LayoutLaws.{field_is, item-is}
use Rattle.molecule.proofs.TestLaws.{Walked, walked_no, walked_none, walked_falls, walked_more, walked_stop, walked_end}
use Rattle.lists.proofs.SpanLaws.{span-on, span-end, span-whole}
use Rattle.transaction.specs.Ckb.{Record, Records}
use Rattle.transaction.proofs.ListLaws.{option-some}
use Rattle.transaction.specs.Cells.{Cell}
use Rattle.rules.specs.Records.{record_cell, record_at, lent_at}
use Rattle.error.specs.Outcome.{Outcome, fine, refused, check, check_with, ◌>>◌, ◌>>=◌, refusal, told_by}
use Rattle.rules.specs.Surplus.{total, cell_capacity}
use Rattle.rules.specs.Judge.{has_lock, live, live_cells, of_records, counted, tally}
use Rattle.error.specs.declared.Refusal.{Refusal}
use Rattle.error.specs.Refusal.{number, values}
use Rattle.accounts.specs.Inner.{and_record}
use Rattle.accounts.proofs.CapacityLaws.{Sums, sums-more, sums-end}
use Rattle.rules.specs.Lines.{verdict, first_failing, followed, answer, known, line_with}
use Rattle.rules.specs.Lines as lines
use Rattle.rules.proofs.LinesLaws.{verdict-bind, line-accepted}
use Rattle.records.specs.Inner.{gathered, or_unreadable}
use Rattle.records.specs.Resolved.{Brought, brought_by}

-- ---- the cells of records that are all live

unfoldable pub record_cell_at : List ℕ → ℕ → Cell
record_cell_at s i = record_cell (item_of s i)

abbrev pub record_cells : List ℕ → List Cell
record_cells s = span (record_cell_at s) 0 (item_count s)

-- ---- the tokens so far, and the cells from i on

unfoldable pub tallied : List ℕ → Outcome ℕ → List Cell → Outcome ℕ
tallied type paid cs = do
  sum ← paid
  verdict (tally of_records type sum cs)

tallied_more : (type : List ℕ) (paid : Outcome ℕ) (c : Cell) (cs : List Cell) → tallied type paid (c ∷ cs) ≡ tallied type (verdict (and_record type (known paid) c)) cs
unfolding tallied and_record known followed verdict first_failing tally ◌>>=◌ lines.◌>>=◌
tallied_more type (fine s) c cs = verdict-bind (counted of_records type s c) (λ (n : ℕ). tally of_records type n cs)
tallied_more type (refused n l) c cs = refl

tallied_none : (type : List ℕ) (paid : Outcome ℕ) → tallied type paid [] ≡ paid
unfolding tallied tally answer verdict first_failing ◌>>=◌
tallied_none type (fine s) = refl
tallied_none type (refused n l) = refl

-- ---- where all are live, the cells are those of the items

live-span : (source s : List ℕ) (j i k : ℕ) → verdict (live source j (span (record_at s) i k)) ≡ fine tt → live_cells (span (record_at s) i k) ≡ span (record_cell_at s) i k
unfolding live live_cells span record_at record_cell_at
live-span source s j i zero e = refl
live-span source s j i (suc k) e = by (eqb (length (item_of s i)) 0) refl e (live-span source s (suc j) (suc i) k)
  where
    by : (b : Bool) → eqb (length (item_of s i)) 0 ≡ b → verdict (live source j (record_at s i ∷ span (record_at s) (suc i) k)) ≡ fine tt
        → (verdict (live source (suc j) (span (record_at s) (suc i) k)) ≡ fine tt → live_cells (span (record_at s) (suc i) k) ≡ span (record_cell_at s) (suc i) k)
        → live_cells (record_at s i ∷ span (record_at s) (suc i) k) ≡ record_cell_at s i ∷ span (record_cell_at s) (suc i) k
    by true q e g = absurd (line-accepted _ _ _ _ _ _ (rw q at e)).0
    by false q e g =
        let d : verdict (live source j (some (record_cell (item_of s i)) ∷ span (record_at s) (suc i) k)) ≡ fine tt = rw q at e in
        let (_, f) = line-accepted _ _ _ _ _ _ d in
        let (_, h) = line-accepted _ _ _ _ _ _ f in
        rw q (ap (λ (cs : List Cell). record_cell (item_of s i) ∷ cs) (g h))

record_is : (s : List ℕ) (i : ℕ) {x : List ℕ} (b : Bool) → x ≡ item_of s i → eqb (length x) 0 ≡ b → record_at s i ≡ cond b none (some (record_cell x))
unfolding record_at
record_is s i b ex e = rw (← ex, e)

-- ---- the walk: the first i records are readable, live and not ours, and the sums are theirs

pub record Gathering (source type s : List ℕ) (first n i from : ℕ) (capacity : Shannons) (token : Result Tokens Refusal) : Type 0 where
  pub walked : Walked (option Record) s n i from
  pub alive : verdict (live source first (span (record_at s) 0 (item_count s))) ≡ verdict (live source (first + i) (span (record_at s) i (n - i)))
  pub sums : Sums (record_cell_at s) n i capacity (total cell_capacity (record_cells s))
  pub paid : verdict (tally of_records type 0 (record_cells s)) ≡ tallied type (told_by token_count token) (span (record_cell_at s) i (n - i))

module _ (source type s : List ℕ) (first : ℕ) where
  -- nothing is brought by records that can't be read
  unread : false ≡ readable Records s → refusal Refusal.LentBytesUnreadable ≡ gathered source type first (lent_at s)
  unfolding gathered lent_at check check_with ◌>>◌ number values
  unread e = rw (sym e)

  -- a refusal by a record stands where all can be read
  refuses : (e : Refusal) (r : Refusal) → verdict (live source first (span (record_at s) 0 (item_count s))) ≡ refusal e → refusal r ≡ or_unreadable e (lent_at s)
      → refusal r ≡ gathered source type first (lent_at s)
  unfolding gathered or_unreadable lent_at check check_with ◌>>◌
  refuses e r h k = k ∙ rw h (by (readable Records s))
    where
      by : (b : Bool) → ◌≡◌ {A = Outcome Brought} (check 3 b >> refusal e) (check 3 b >> refusal e)
      by b = refl

  module _ {n : ℕ} {r : Bool} (e : n ≡ item_count s) (h : r ≡ has_header s n) where
    pub gather_head : not r ≡ true → refusal Refusal.LentBytesUnreadable ≡ gathered source type first (lent_at s)
    gather_head q = unread (walked_no (option Record) s e h q)

    pub gather_start : {a : ℕ} → not r ≡ false → a ≡ start s n 0
        → Gathering source type s first n 0 a (in_shannons 0) (Ok (in_tokens 0))
    unfolding tallied ◌>>=◌
    gather_start q ea =
        let z : first ≡ first + 0 = omega arith in
        record {
          walked = walked_none (option Record) s e h q ea;
          alive = rw (← e) (ap₂ (λ (j : ℕ) (rs : List (Option Cell)). verdict (live source j rs)) z (span-whole (record_at s) n));
          sums = record { rest = rw (← e) (zero-add _ ∙ ap (total cell_capacity) (sym (span-whole (record_cell_at s) n))); far = omega arith };
          paid = rw (← e) (ap (λ (cs : List Cell). verdict (tally of_records type 0 cs)) (span-whole (record_cell_at s) n));
        }

  -- the same, where the header told how many there are
  pub gather_counted : {n a : ℕ} → cond (has_header s (item_count s)) (Some (item_count s)) None ≡ Some n → a ≡ start s n 0
      → Gathering source type s first n 0 a (in_shannons 0) (Ok (in_tokens 0))
  gather_counted {n} {a} h ea = by (has_header s (item_count s)) refl h
    where
      by : (b : Bool) → has_header s (item_count s) ≡ b → cond b (Some (item_count s)) None ≡ Some n → Gathering source type s first n 0 a (in_shannons 0) (Ok (in_tokens 0))
      by true q f = let e : n ≡ item_count s = cc in gather_start {r = true} e (rw e (sym q)) refl ea
      by false q f = let z : ◌≡◌ {A = ℕ} 0 1 = cc in absurd (omega arith)

module _ {source type s : List ℕ} {first n i from : ℕ} {capacity : Shannons} {token : Result Tokens Refusal} (g : Gathering source type s first n i from capacity token) where
  pub gather_falls : {to : ℕ} → i < n → to ≡ start s n (i + 1) → to < from
      → refusal Refusal.LentBytesUnreadable ≡ gathered source type first (lent_at s)
  gather_falls l e h = unread source type s first (walked_falls g.walked l e h)

  pub gather_end : n ≤ i → fine (brought_by (record { capacity = capacity; token = token })) ≡ gathered source type first (lent_at s)
  unfolding gathered lent_at live answer verdict first_failing check check_with ◌>>◌
  gather_end l =
      let q : i ≡ n = omega (arith, g.walked.order.within) in
      let a : verdict (live source first (span (record_at s) 0 (item_count s))) ≡ fine tt = g.alive ∙ end_live in
      let c : live_cells (span (record_at s) 0 (item_count s)) ≡ record_cells s = live-span source s first 0 (item_count s) a in
      let t : told_by token_count token ≡ verdict (tally of_records type 0 (record_cells s)) = sym (g.paid ∙ ap (tallied type (told_by token_count token)) (span-end (record_cell_at s) i n l) ∙ tallied_none type (told_by token_count token)) in
      rw (sym (walked_end g.walked l), a, c, ← t, ← sums-end g.sums l)
    where
      end_live : verdict (live source (first + i) (span (record_at s) i (n - i))) ≡ fine tt
      end_live = rw (span-end (record_at s) i n l)

  -- one more record, x
  module _ {to : ℕ} {x : List ℕ} (l : i < n) (e : to ≡ start s n (i + 1)) (k : x ≡ part s from to) where
    item : x ≡ item_of s i
    item = item-is s i g.walked.count (field_is s n i g.walked.order.here e k)

    pub gather_dead : (r : Refusal) → length x ≡ 0 → refusal r ≡ or_unreadable Refusal.InvalidPeerFundingTx (lent_at s)
        → refusal r ≡ gathered source type first (lent_at s)
    unfolding live line_with followed lines.◌>>◌ verdict first_failing check_with ◌>>◌ number values
    gather_dead r z h = refuses source type s first Refusal.InvalidPeerFundingTx r (g.alive ∙ rw (span-on (record_at s) i n l, record_is s i true item (eq-eqb (length x) 0 z))) h

    module _ {q : Bool} (z : length x ≡ 0 → ⊥) (eq : q ≡ readable Record x) where
      pub gather_unread : not q ≡ true → refusal Refusal.LentBytesUnreadable ≡ gathered source type first (lent_at s)
      gather_unread u = unread source type s first (walked_stop g.walked l e k (option-some Record x z eq) u)

      module _ {o : Bool} (eo : o ≡ has_lock source (record_cell x)) where
        pub gather_ours : (r : Refusal) → o ≡ true → refusal r ≡ or_unreadable (Refusal.PeerInputUsesOurFundingLock (first + i)) (lent_at s)
            → refusal r ≡ gathered source type first (lent_at s)
        unfolding live line_with followed lines.◌>>◌ verdict first_failing check_with ◌>>◌ number values
        gather_ours r u h =
            refuses source type s first (Refusal.PeerInputUsesOurFundingLock (first + i)) r
            (g.alive ∙ rw (span-on (record_at s) i n l, record_is s i false item (ne_eqb (length x) 0 z), ← eo, u)) h

        pub gather_more : (y : Shannons) {c : Shannons} (t : Result Tokens Refusal) → from ≤ to → not q ≡ false → o ≡ false → Fits w32 n
            → shannon_count y ≡ cell_capacity (record_cell x) → shannon_count y < 2 ^ 64 → c ≡ capped_sum capacity y
            → told_by token_count t ≡ verdict (and_record type (known (told_by token_count token)) (record_cell x)) → Gathering source type s first n (i + 1) to c t
        unfolding live line_with followed lines.◌>>◌ verdict first_failing check_with ◌>>◌ record_cell_at
        gather_more y t m u v w ey sy ec et =
            let j : suc (first + i) ≡ first + (i + 1) = omega arith in
            let b : record_cell x ≡ record_cell_at s i = ap record_cell item in
            record {
              walked = walked_more g.walked l e k (option-some Record x z eq) m u;
              alive = g.alive ∙ rw (span-on (record_at s) i n l, record_is s i false item (ne_eqb (length x) 0 z), ← eo, v, j);
              sums = sums-more g.sums y l w (ey ∙ ap cell_capacity b) sy ec;
              paid = g.paid ∙ rw (span-on (record_cell_at s) i n l) (tallied_more type (told_by token_count token) (record_cell_at s i) _ ∙ ap (λ (p : Outcome ℕ). tallied type p (span (record_cell_at s) (i + 1) (n - (i + 1)))) (sym (et ∙ ap (λ (y : Cell). verdict (and_record type (known (told_by token_count token)) y)) b)));
            }
