-- Laws of the verdict, one for each way out of the functions.
use mathlib.Core.Path.{◌≡◌, refl, sym, ap, ◌∙◌}
use Prim.Native.Nat.{ℕ, ◌+◌, ◌-◌}
use mathlib.Core.List.{List, []}
use mathlib.Core.Bool.{Bool, true, false, ◌&&◌}
use lib.ListN.{length, take, drop}
use Rattle.error.specs.declared.Refusal.{Refusal}
use Rattle.error.specs.Refusal.{number, values}
use Rattle.error.specs.Outcome.{Outcome, fine, refused, check, check_with, ◌>>◌, ◌>>=◌, refusal}
use Rattle.units.specs.Units.{Figures}
use Rattle.molecule.specs.Molecule.{option, readable}
use Rattle.lists.proofs.EqualLaws.{whole}
use Rattle.transaction.specs.Ckb.{Script, Transaction}
use Rattle.transaction.specs.Tx.{Tx, tx_at, are_scripts}
use Rattle.transaction.specs.Cells.{Cell}
use Rattle.rules.specs.Records.{LentRecords, lent_at}
use Rattle.rules.specs.Surplus.{total, cell_capacity}
use Rattle.rules.specs.Lines.{Name, line, line_with, followed, known, verdict, first_failing}
use Rattle.rules.specs.Lines as lines
use Rattle.rules.specs.Judge.{Call, of_records, tally, scripts, limits, comparison, spent, contribution, opening, closing, ruling, ruling_against, judge, judge_against}
use Rattle.rules.specs.Told.{Update, told, in_force_of}
use Rattle.rules.specs.Run.{handed_back, next, update_for_peer}
use Rattle.rules.proofs.LinesLaws.{line-then, verdict-then, verdict-bind}
use Rattle.rules.proofs.Accept.{ruled_out}
use Rattle.contribution.proofs.AccountLaws.{contribution-known}
use Rattle.records.specs.Resolved.{Brought, brought, brings}
use Rattle.funding_tx.proofs.Demand3.{hands}

-- ---- the whole: by the verdicts of its parts

three_lines : (s t u : Name) (a b c : Bool) → verdict (lines.◌>>◌ (line 3 s a) (lines.◌>>◌ (line 3 t b) (line 3 u c))) ≡ check 3 (a && b && c)
unfolding check check_with line_with followed lines.◌>>◌ verdict first_failing ◌>>◌
three_lines s t u false b c = refl
three_lines s t u true false c = refl
three_lines s t u true true false = refl
three_lines s t u true true true = refl

module _ (lock type source o p : List ℕ) where
  scripts_steps : verdict (scripts lock type source) ≡ check 3 (are_scripts lock type source)
  unfolding scripts
  scripts_steps = three_lines _ _ _ (readable Script lock) (readable (option Script) type) (readable Script source)

  pub opening_steps : verdict (opening lock type source (tx_at o) p) ≡ (check 2 (readable Transaction p)
      >> (check 3 (are_scripts lock type source) >> (verdict (limits (length p + 4) (tx_at o) (tx_at p)) >> verdict (comparison lock type (tx_at o) (tx_at p)))))
  unfolding opening check
  opening_steps =
      let within : Outcome (Unit {0}) = verdict (limits (length p + 4) (tx_at o) (tx_at p)) in
      let alike : Outcome (Unit {0}) = verdict (comparison lock type (tx_at o) (tx_at p)) in
      line-then _ _ _ _ _
      ∙ ap (λ (v : Outcome (Unit {0})). check 2 (readable Transaction p) >> v)
      (verdict-then (scripts lock type source) _
      ∙ ap (λ (v : Outcome (Unit {0})). verdict (scripts lock type source) >> v) (verdict-then (limits (length p + 4) (tx_at o) (tx_at p)) (comparison lock type (tx_at o) (tx_at p)))
      ∙ ap (λ (v : Outcome (Unit {0})). v >> (within >> alike)) scripts_steps)

-- what the records bring in decides the rest
module _ (type source : List ℕ) (ours peer : Tx) (rate size : ℕ) (lent : LentRecords) where
  pub after_records : Brought → Outcome Figures
  after_records b = verdict (contribution type ours peer b.capacity (known b.token) rate size)

  pub closing_steps : verdict (closing type source ours peer rate size lent) ≡ (brings source type ours peer lent >>= after_records)
  unfolding closing brings ◌>>=◌ after_records
  closing_steps = verdict-bind (spent source ours peer lent) _ ∙ by (verdict (spent source ours peer lent))
    where
      by : (v : Outcome (List Cell)) → (v >>= (λ (cs : List Cell). verdict (contribution type ours peer (total cell_capacity cs) (tally of_records type 0 cs) rate size)))
          ≡ ((v >>= (λ (cs : List Cell). fine (brought type cs))) >>= after_records)
      by (fine cs) = contribution-known type (tally of_records type 0 cs) ours peer (total cell_capacity cs) rate size
      by (refused n l) = refl

module _ (lock type o : List ℕ) (c : Call) where
  pub against_steps : judge_against lock type (tx_at o) c ≡ (verdict (opening lock type c.source (tx_at o) c.peer)
      >> (brings c.source type (tx_at o) (tx_at c.peer) (lent_at c.records)
      >>= (λ (b : Brought). verdict (contribution type (tx_at o) (tx_at c.peer) b.capacity (known b.token) c.rate (length c.peer + 4)))))
  unfolding judge_against ruling_against after_records
  against_steps =
      verdict-then (opening lock type c.source (tx_at o) c.peer) _
      ∙ ap (λ (v : Outcome Figures). verdict (opening lock type c.source (tx_at o) c.peer) >> v) (closing_steps type c.source (tx_at o) (tx_at c.peer) c.rate (length c.peer + 4) (lent_at c.records))

  module _ {known : Bool} (e : known ≡ readable (option Transaction) o) where
    pub judge-ours : known ≡ false → refusal Refusal.OurTransactionUnreadable ≡ judge lock type o c
    unfolding number values
    judge-ours t = sym (ruled_out lock type o c (sym e ∙ t))

    pub judge_read : (u : Update) → known ≡ true → told u ≡ judge_against lock type (tx_at o) c → told u ≡ judge lock type o c
    unfolding judge ruling check_with ◌>>◌ judge_against
    judge_read u t h = h ∙ sym (line-then 1 [] "our bytes unreadable" (readable (option Transaction) o) (ruling_against lock type (tx_at o) c) ∙ rw (sym e ∙ t))

-- ---- a whole call

pub next-is : (lock type o p s source : List ℕ) (rate : ℕ) (u : Update) {x : List ℕ}
    → told u ≡ judge lock type o (record { peer = p; records = s; source = source; rate = rate }) → x ≡ in_force_of u o p
    → x ≡ next (update_for_peer lock type) o (record { peer = p; records = s; source = source; rate = rate })
next-is lock type o p s source rate u e h = h ∙ hands (judge lock type o (record { peer = p; records = s; source = source; rate = rate })) u o p e

pub next-reference {ℓ} : {A : Type ℓ} (lock type o p s source : List ℕ) (rate : ℕ) (u : Update) (x y : A) {r : A}
    → told u ≡ judge lock type o (record { peer = p; records = s; source = source; rate = rate }) → r ≡ in_force_of u x y
    → r ≡ handed_back (judge lock type o (record { peer = p; records = s; source = source; rate = rate })) x y
next-reference lock type o p s source rate u x y e h = h ∙ hands (judge lock type o (record { peer = p; records = s; source = source; rate = rate })) u x y e

-- ---- of slices that were taken anew

pub against_whole : (lock type o p s source : List ℕ) (rate : ℕ) {v : Outcome Figures}
    → v ≡ judge_against (take (length lock - 0) (drop 0 lock)) (take (length type - 0) (drop 0 type)) (tx_at (take (length o - 0) (drop 0 o))) (record { peer = take (length p - 0) (drop 0 p); records = take (length s - 0) (drop 0 s); source = take (length source - 0) (drop 0 source); rate = rate })
    → v ≡ judge_against lock type (tx_at o) (record { peer = p; records = s; source = source; rate = rate })
against_whole lock type o p s source rate h = rw (whole lock, whole type, whole o, whole p, whole s, whole source) at h
