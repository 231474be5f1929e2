-- Laws of what the records bring in, one for each way out of the functions but the walk.
use Rattle.error.specs.Outcome.{refusal, told_by, Outcome, fine, refused, check, check_with, ◌>>◌, ◌>>=◌}
use Rattle.std.proofs.Common.{Result}
use mathlib.Core.Path.{◌≡◌, refl, sym, ap, ap₂, ◌∙◌}
use Prim.Native.Nat.{ℕ, ◌+◌, ◌-◌, ◌<◌}
use mathlib.Core.List.{List, []}
use mathlib.Core.Bool.{Bool, true, false, not}
use native.Mathlib.Omega.{arith}
use borrow.Author.Tests.{eq-eqb, ne_eqb, not-true, not-false}
use mir.Syntax.{w32, w64}
use mir.Val.{Fits}
use lib.ListN.{length}
use lib.Dec.{eqb}
use Rattle.molecule.specs.Molecule.{readable}
use Rattle.molecule.specs.Layout.{span, fix_count, item_count}
use Rattle.molecule.proofs.Offsets.{span-length}
use Rattle.lists.specs.Lists.{eq_bytes}
use Rattle.transaction.specs.Ckb.{Records}
use Rattle.transaction.specs.Tx.{Tx, tx_at, raw_field, lock_of, first_of}
use Rattle.transaction.specs.Cells.{Cell}
use Rattle.rules.specs.Records.{record_cell, record_at, LentRecords, lent_at}
use Rattle.rules.specs.Judge.{has_lock, live, live_cells, spent}
use Rattle.error.specs.declared.Refusal.{Refusal}
use Rattle.error.specs.Refusal.{number, values}
use Rattle.accounts.specs.declared.Brought as accounts
use Rattle.rules.specs.Lines.{verdict, answer}
use Rattle.rules.proofs.LinesLaws.{line-then, verdict-then, answer_is}
use Rattle.records.specs.Inner.{gathered, or_unreadable}
use Rattle.records.specs.Resolved.{Brought, brought, brought_by, brings}

pub our_lock_lem : (source x : List ℕ) {o l : List ℕ} {r : Bool} → o ≡ first_of x → l ≡ lock_of o → r ≡ eq_bytes source l → r ≡ has_lock source (record_cell x)
unfolding has_lock
our_lock_lem source x eo el er = er ∙ ap (eq_bytes source) (el ∙ ap lock_of eo)

pub index-fits : (b i n : ℕ) → Fits w32 b → Fits w32 n → i < n → Fits w64 (b + i)
index-fits b i n p q h = omega arith

-- ---- a refusal by a record

module _ (s : List ℕ) (e : Refusal) {r : Bool} (er : r ≡ readable Records s) where
  pub refuse_unreadable : not r ≡ true → refusal Refusal.LentBytesUnreadable ≡ or_unreadable e (lent_at s)
  unfolding or_unreadable lent_at check check_with ◌>>◌ number values
  refuse_unreadable t = rw (sym er ∙ not-true r t)

  pub refuse_why : not r ≡ false → refusal e ≡ or_unreadable e (lent_at s)
  unfolding or_unreadable lent_at check check_with ◌>>◌
  refuse_why t = rw (sym er ∙ not-false r t)

-- ---- one record for each added input

and_then : {A B : Type 0} (u : Outcome (Unit {0})) (a : A) (f : A → B) → (u >> fine (f a)) ≡ ((u >> fine a) >>= (λ (x : A). fine (f x)))
unfolding ◌>>◌ ◌>>=◌
and_then (fine u) a f = refl
and_then (refused n l) a f = refl

spent-is : (source : List ℕ) (ours peer : Tx) (lent : LentRecords) → verdict (spent source ours peer lent)
    ≡ (check 3 lent.readable >> (check 3 (eqb (length lent.records) (length peer.inputs - length ours.inputs))
    >> (verdict (live source (length ours.inputs) lent.records) >> fine (live_cells lent.records))))
unfolding spent check
spent-is source ours peer lent =
    line-then _ _ _ _ _
    ∙ ap (λ (o : Outcome (List Cell)). check 3 lent.readable >> o)
    (line-then _ _ _ _ _ ∙ ap (λ (o : Outcome (List Cell)). check 3 (eqb (length lent.records) (length peer.inputs - length ours.inputs)) >> o)
    (verdict-then (live source (length ours.inputs) lent.records) (answer (live_cells lent.records)) ∙ ended))
  where
    ended : (verdict (live source (length ours.inputs) lent.records) >> verdict (answer (live_cells lent.records)))
        ≡ (verdict (live source (length ours.inputs) lent.records) >> fine (live_cells lent.records))
    ended = ap (λ (o : Outcome (List Cell)). verdict (live source (length ours.inputs) lent.records) >> o) (answer_is (live_cells lent.records))

module _ (source type o p s : List ℕ) {n m : ℕ} (en : n ≡ item_count s) (em : m ≡ length (tx_at p).inputs - length (tx_at o).inputs) where
  count-is : (b : Bool) → eqb n m ≡ b → eqb (length (span (record_at s) 0 (item_count s))) (length (tx_at p).inputs - length (tx_at o).inputs) ≡ b
  count-is b h = ap₂ eqb (span-length (record_at s) 0 (item_count s) ∙ sym en) (sym em) ∙ h

  pub brings-count : (n ≡ m → ⊥) → refusal Refusal.LentBytesUnreadable ≡ brings source type (tx_at o) (tx_at p) (lent_at s)
  unfolding brings lent_at ◌>>=◌ ◌>>◌ check check_with number values
  brings-count h = rw (spent-is source (tx_at o) (tx_at p) (lent_at s), count-is false (ne_eqb n m h)) (by (readable Records s))
    where
      by : (b : Bool) → ◌≡◌ {A = Outcome Brought} (refused 3 []) ((check 3 b >> (refused 3 [])) >>= (λ (cells : List Cell). fine (brought type cells)))
      by true = refl
      by false = refl

  pub brings-is : (c : Result accounts.Brought Refusal) {f : ℕ} → n ≡ m → f ≡ fix_count (raw_field o 3) → told_by brought_by c ≡ gathered source type f (lent_at s)
      → told_by brought_by c ≡ brings source type (tx_at o) (tx_at p) (lent_at s)
  unfolding brings gathered lent_at ◌>>=◌ ◌>>◌ check check_with
  brings-is c {f} h ef k = k ∙ rw (spent-is source (tx_at o) (tx_at p) (lent_at s), count-is true (eq-eqb n m h), span-length _ 0 (fix_count (raw_field o 3)), ← ef) (by (readable Records s))
    where
      by : (b : Bool) → (check 3 b >> (verdict (live source f (span (record_at s) 0 (item_count s))) >> fine (brought type (live_cells (span (record_at s) 0 (item_count s))))))
          ≡ ((check 3 b >> (fine tt >> (verdict (live source f (span (record_at s) 0 (item_count s))) >> fine (live_cells (span (record_at s) 0 (item_count s)))))) >>= (λ (cells : List Cell). fine (brought type cells)))
      by true = and_then (verdict (live source f (span (record_at s) 0 (item_count s)))) (live_cells (span (record_at s) 0 (item_count s))) (brought type)
      by false = refl
