-- Added outputs of a chain of transactions are those of its steps, one after another, and so are their figures.
-- Nothing here reads a verdict or a byte: what a step has to bring is the record `Step`.
use mathlib.Core.Path.{◌≡◌, refl, sym, ap, ◌∙◌}
use Prim.Native.Nat.{ℕ, zero, suc, ◌+◌, ◌-◌, ◌≤◌, zero-le, max}
use native.Mathlib.Nat.{le_of_suc-le-suc, not-suc-le-zero}
use native.Mathlib.Omega.{arith}
use mathlib.Core.List.{List, [], ◌∷◌, ◌++◌, append_assoc, append-nil}
use lib.ListN.{length, get_or, drop, length-drop, drop_of_length-le}
use lib.Seq.{drop-drop}
use Rattle.lists.specs.Prefix.{Prefix, start, more}
use Rattle.lists.proofs.PrefixLaws.{prefix_refl, prefix_trans, prefix_length, prefix_rest, prefix_tail}
use Rattle.transaction.specs.Tx.{Tx}
use Rattle.transaction.specs.Cells.{Cell, pair, cells}
use Rattle.molecule.specs.Partial.{All}
use Rattle.rules.specs.Surplus.{total, first, added, Measure}
use Rattle.rules.specs.Step.{with_data, Settled, Extends, Step}
use Rattle.rules.specs.Run.{Spent, spends, inputs_of, spent_cells}

-- ---- cells

module _ (f : Cell → ℕ) where
  pub total-append : (cs ds : List Cell) → total f (cs ++ ds) ≡ total f cs + total f ds
  unfolding total
  total-append [] ds = omega arith
  total-append (c ∷ cs) ds = omega (arith, total-append cs ds)

  head_same : (o : List ℕ) {ds es : List (List ℕ)} → Prefix ds es → Settled f (with_data o (get_or ds 0 []))
      → f (with_data o (get_or es 0 [])) ≡ f (with_data o (get_or ds 0 []))
  head_same o (start {ys = es}) a = a refl (get_or es 0 [])
  head_same o (more q) a = refl

  -- the main lemma, on plain lists: from place n on, what is there later is what was there, and what was added
  split : (n : ℕ) {os us : List (List ℕ)} {ds es : List (List ℕ)} → Prefix os us → Prefix ds es → n ≤ length os
      → All (Settled f) (drop n (pair os ds))
      → total f (drop n (pair us es)) ≡ total f (drop n (pair os ds)) + total f (drop (length os) (pair us es))
  unfolding total
  split zero start q h a = omega arith
  split (suc n) start q h a = absurd (not-suc-le-zero h)
  split zero (more {x = o} p) q h a = omega (arith, split zero p (prefix_tail q) zero-le a.1, head_same o q a.0)
  split (suc n) (more p) q h a = split n p (prefix_tail q) (le_of_suc-le-suc h) a

-- ---- added outputs of transactions

extends_refl : (a : Tx) → Extends a a
extends_refl a = record { inputs = prefix_refl a.inputs; rest = prefix_refl (drop 1 a.outputs); entries = prefix_refl (drop 1 a.outputs_data) }

extends_trans : {a b c : Tx} → Extends a b → Extends b c → Extends a c
extends_trans p q = record { inputs = prefix_trans p.inputs q.inputs; rest = prefix_trans p.rest q.rest; entries = prefix_trans p.entries q.entries }

pair_tail : (os : List (List ℕ)) (ds : List (List ℕ)) → drop 1 (pair os ds) ≡ pair (drop 1 os) (drop 1 ds)
pair_tail [] ds = refl
pair_tail (o ∷ os) ds = refl

pair-length : (os : List (List ℕ)) (ds : List (List ℕ)) → length (pair os ds) ≡ length os
pair-length [] ds = refl
pair-length (o ∷ os) ds = ap suc (pair-length os (drop 1 ds))

-- the outputs after index 0
abbrev later : Tx → List Cell
later t = pair (drop 1 t.outputs) (drop 1 t.outputs_data)

-- from our output count on, never index 0: of those after index 0, from as many on as we have
added_is : (a b : Tx) → added a b ≡ drop (length (drop 1 a.outputs)) (later b)
added_is a b =
    ap (λ (n : ℕ). drop n (cells b)) (count (length a.outputs) ∙ ap (λ (n : ℕ). 1 + n) (sym (length-drop 1 a.outputs)))
    ∙ sym (drop-drop (length (drop 1 a.outputs)) 1 (cells b))
    ∙ ap (drop (length (drop 1 a.outputs))) (pair_tail b.outputs b.outputs_data)
  where
    count : (n : ℕ) → max 1 n ≡ 1 + (n - 1)
    count n = omega arith

added_self : (a : Tx) → added a a ≡ []
added_self a = drop_of_length-le (cells a) {i = max 1 (length a.outputs)} (omega (arith, pair-length a.outputs a.outputs_data))

module _ (f : Cell → ℕ) where
  added-split : {a b c : Tx} → Extends a b → Extends b c → All (Settled f) (added a b)
      → total f (added a c) ≡ total f (added a b) + total f (added b c)
  added-split {a} {b} {c} p q s =
      rw (added_is a c, added_is a b, added_is b c)
      (split f (length (drop 1 a.outputs)) q.rest q.entries (prefix_length p.rest) (rw (added_is a b) at s))

-- ---- inputs with their records

spends-inputs : (is : List (List ℕ)) (cs : List Cell) → length is ≡ length cs → inputs_of (spends is cs) ≡ is
spends-inputs [] cs e = refl
spends-inputs (i ∷ is) [] e = absurd (omega (arith, e))
spends-inputs (i ∷ is) (c ∷ cs) e = ap (λ (l : List (List ℕ)). i ∷ l) (spends-inputs is cs (omega (arith, e)))

spends-records : (is : List (List ℕ)) (cs : List Cell) → length is ≡ length cs → spent_cells (spends is cs) ≡ cs
spends-records [] [] e = refl
spends-records [] (c ∷ cs) e = absurd (omega (arith, e))
spends-records (i ∷ is) [] e = absurd (omega (arith, e))
spends-records (i ∷ is) (c ∷ cs) e = ap (λ (l : List Cell). c ∷ l) (spends-records is cs (omega (arith, e)))

inputs-append : (ss ts : List Spent) → inputs_of (ss ++ ts) ≡ inputs_of ss ++ inputs_of ts
inputs-append [] ts = refl
inputs-append (s ∷ ss) ts = ap (λ (l : List (List ℕ)). s.input ∷ l) (inputs-append ss ts)

pub records-append : (ss ts : List Spent) → spent_cells (ss ++ ts) ≡ spent_cells ss ++ spent_cells ts
records-append [] ts = refl
records-append (s ∷ ss) ts = ap (λ (l : List Cell). s.cell ∷ l) (records-append ss ts)

-- ---- steps and chains

-- the inputs that a step adds, with their records
abbrev pub spent_in : Tx → Tx → List Cell → List Spent
spent_in a b records = spends (drop (length a.inputs) b.inputs) records

pub data Chain (m : Measure) : Tx → Tx → List Spent → ℕ → Type 0 where
  stop : {a : Tx} → Chain m a a [] 0
  step : {a b c : Tx} {records : List Cell} {kept : List Spent} {paid sum : ℕ} → Step m a b records paid → Chain m b c kept sum
      → Chain m a c (spent_in a b records ++ kept) (paid + sum)

-- What a chain comes to.
pub record Sum (m : Measure) (a c : Tx) (kept : List Spent) (sum : ℕ) : Type 0 where
  pub extends : Extends a c
  pub balance : total m.of (spent_cells kept) + first m.at_zero (cells a) ≡ sum + first m.at_zero (cells c) + total m.of (added a c)
  pub inputs : c.inputs ≡ a.inputs ++ inputs_of kept

module _ {m : Measure} {a b : Tx} {records : List Cell} {paid : ℕ} (s : Step m a b records paid) where
  as_many : length (drop (length a.inputs) b.inputs) ≡ length records
  as_many = omega (arith, length-drop (length a.inputs) b.inputs, s.inputs)

  pub step_records : spent_cells (spent_in a b records) ≡ records
  step_records = spends-records (drop (length a.inputs) b.inputs) records as_many

  step_inputs : b.inputs ≡ a.inputs ++ inputs_of (spent_in a b records)
  step_inputs = prefix_rest s.extends.inputs ∙ ap (λ (l : List (List ℕ)). a.inputs ++ l) (sym (spends-inputs (drop (length a.inputs) b.inputs) records as_many))

pub chain_sum : {m : Measure} {a c : Tx} {kept : List Spent} {sum : ℕ} → Chain m a c kept sum → Sum m a c kept sum
unfolding total
chain_sum {m} (stop {a}) = record {
  extends = extends_refl a;
  balance = rw (added_self a) (omega arith);
  inputs = sym (append-nil a.inputs);
}
chain_sum {m} (step {a} {b} {c} {records} {kept} {paid} {sum} s ch) =
    let r : Sum m b c kept sum = chain_sum ch in
    let t : total m.of (spent_cells (spent_in a b records ++ kept)) ≡ total m.of records + total m.of (spent_cells kept) =
    ap (total m.of) (records-append (spent_in a b records) kept) ∙ total-append m.of (spent_cells (spent_in a b records)) (spent_cells kept)
    ∙ ap (λ (l : List Cell). total m.of l + total m.of (spent_cells kept)) (step_records s) in
    record {
      extends = extends_trans s.extends r.extends;
      balance = omega (arith, s.account.balance, r.balance, added-split m.of s.extends r.extends s.account.settled, t);
      inputs = r.inputs ∙ ap (λ (l : List (List ℕ)). l ++ inputs_of kept) (step_inputs s)
          ∙ append_assoc a.inputs (inputs_of (spent_in a b records)) (inputs_of kept)
          ∙ ap (λ (l : List (List ℕ)). a.inputs ++ l) (sym (inputs-append (spent_in a b records) kept));
    }
