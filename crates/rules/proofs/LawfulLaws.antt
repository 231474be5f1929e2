-- An entry that owes a balance in each figure for one acceptance is lawful over every list of calls.
use mathlib.Core.Path.{◌≡◌, refl, ap}
use Prim.Native.Nat.{ℕ}
use native.Mathlib.Omega.{arith}
use mathlib.Core.Bool.{true, false}
use mathlib.Core.List.{List, [], ◌∷◌, map}
use Rattle.error.specs.Outcome.{Outcome, fine, refused}
use Rattle.molecule.specs.Partial.{All}
use Rattle.molecule.specs.Molecule.{option, readable}
use Rattle.transaction.specs.Ckb.{Transaction}
use Rattle.transaction.specs.Tx.{Tx, tx_at}
use Rattle.transaction.specs.Cells.{Cell, cells}
use Rattle.rules.specs.Surplus.{Measure, added, nothing}
use Rattle.rules.specs.Step.{Balanced, Step}
use Rattle.rules.specs.Run.{Entry, Exact, verdicts, in_force, forces}
use Rattle.rules.specs.Lawful.{Figure, Lawful, Owed, Owes, Law, Either, one, other, mixed}
use Rattle.rules.proofs.Accept.{total-nothing, first-nothing, data_free}
use Rattle.rules.proofs.Law.{exact, kept-inputs, kept-records, stay-readable, ran_answers, ran_handed, ran_bytes}

pub step_of : {S : Type 0} {figures : List (Figure S)} {m : Measure} {a b : Tx} {records : List Cell} {s : S} {paid : ℕ} → Owed figures a b records s
    → Balanced m a b records paid → Step m a b records paid
step_of o w = record { extends = o.extends; inputs = o.inputs; account = w }

-- with nothing counted every account is balanced
idle : (a b : Tx) (records : List Cell) → Balanced nothing a b records 0
idle a b records = record {
  settled = data_free (λ _. 0) (λ _ _. refl) (added a b);
  balance = omega (arith, total-nothing records, total-nothing (added a b), first-nothing (cells a), first-nothing (cells b));
}

module _ {C S : Type 0} (E : Entry C S) where
  -- the other figures
  rest_owed : {f : Figure S} {fs : List (Figure S)} → Owes E (f ∷ fs) → Owes E fs
  rest_owed o = record {
    accepts = λ ours c s e. (let w = o.accepts ours c s e in record { extends = w.extends; inputs = w.inputs; balanced = w.balanced.1 });
    reads = o.reads;
    ones = o.ones;
  }

  -- each figure by itself
  exact_all : (figures : List (Figure S)) → Owes E figures → (start : List ℕ) (calls : List C)
      → All (λ (f : Figure S). Exact E f.measure f.pick start calls (verdicts E start calls) (in_force E start calls)) figures
  exact_all [] o start calls = tt
  exact_all (f ∷ fs) o start calls =
      (exact E f.measure f.pick (λ ours c s e. step_of (o.accepts ours c s e) (o.accepts ours c s e).balanced.0) start calls, exact_all fs (rest_owed o) start calls)

  -- from bytes that can't be read
  all_one : ((ours : List ℕ) (c : C) → readable (option Transaction) ours ≡ false → E.judged ours c ≡ refused 1 []) → (calls : List C) (start : List ℕ)
      → readable (option Transaction) start ≡ false
      → (verdicts E start calls ≡ map (λ (_ : C). refused 1 []) calls) × (in_force E start calls ≡ start)
  all_one ones [] start h = (refl, refl)
  all_one ones (c ∷ cs) start h =
      let (vs, b) = all_one ones cs start h in
      (rw (ones start c h) (ap (λ (l : List (Outcome S)). refused 1 [] ∷ l) vs), rw (ones start c h) b)

  pub lawful : {figures : List (Figure S)} → Owes E figures → (start : List ℕ) (calls : List C)
      → Lawful E figures start calls (verdicts E start calls) (forces E start calls) (in_force E start calls)
  lawful {figures} o start calls = record {
    judged = refl;
    handed_back = refl;
    at_end = refl;
    exact = exact_all figures o start calls;
    inputs = kept-inputs E nothing (λ _. 0) (λ ours c s e. step_of (o.accepts ours c s e) (idle _ _ _)) start calls;
    records = kept-records E nothing (λ _. 0) (λ ours c s e. step_of (o.accepts ours c s e) (idle _ _ _)) calls start;
    readable_on = stay-readable E o.reads calls start;
    unreadable = all_one o.ones calls start;
  }

  -- and so is a program that obeys it
  pub law : (figures : List (Figure S)) → Owes E figures → Law E figures
  law figures o U told Called b start calls returned end r =
      rw (ran_answers E told b.answers b.hands r, ran_handed E told b.answers b.hands r, ran_bytes E told b.answers b.hands r) (lawful o start calls)

-- of two entries that owe the same, a list of calls in which both stand
module _ {C D S : Type 0} (E : Entry C S) (F : Entry D S) {figures : List (Figure S)} (o : Owes E figures) (p : Owes F figures) where
  accepts_by : (ours : List ℕ) (c : Either C D) (s : S) → (mixed E F).judged ours c ≡ fine s
      → Owed figures (tx_at ours) (tx_at ((mixed E F).peer_of c)) ((mixed E F).lent c) s
  accepts_by ours (one c) s e = o.accepts ours c s e
  accepts_by ours (other d) s e = p.accepts ours d s e

  reads_by : (ours : List ℕ) (c : Either C D) (s : S) → (mixed E F).judged ours c ≡ fine s → readable (option Transaction) ((mixed E F).peer_of c) ≡ true
  reads_by ours (one c) s e = o.reads ours c s e
  reads_by ours (other d) s e = p.reads ours d s e

  ones_by : (ours : List ℕ) (c : Either C D) → readable (option Transaction) ours ≡ false → (mixed E F).judged ours c ≡ refused 1 []
  ones_by ours (one c) h = o.ones ours c h
  ones_by ours (other d) h = p.ones ours d h

  pub mixed_owes : Owes (mixed E F) figures
  mixed_owes = record { accepts = accepts_by; reads = reads_by; ones = ones_by }
