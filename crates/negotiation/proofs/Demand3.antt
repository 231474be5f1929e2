-- Demand 3 (crates/funding_tx/proofs/Demand3.antt quotes it) of the words that `replay` leaves.
use Rattle.std.proofs.Common.{Ok, Err, true}
use mathlib.Core.Path.{◌≡◌, refl, sym, ap, ◌∙◌}
use Prim.Native.Nat.{ℕ, ◌*◌, ◌<◌}
use native.Mathlib.Omega.{arith}
use mathlib.Core.List.{List, [], ◌∷◌, ◌++◌}
use borrow.Author.Tests.{ne_eqb}
use lib.Dec.{T, leb}
use lib.ListN.{length, take, drop}
use lib.Seq.{take_at, drop_at}
use Rattle.molecule.specs.Molecule.{option, readable}
use Rattle.transaction.specs.Ckb.{Transaction}
use Rattle.molecule.specs.Layout.{item_count}
use Rattle.molecule.proofs.Offsets.{span-length}
use Rattle.arithmetic.proofs.AmountLaws.{halves_are}
use Rattle.error.specs.Outcome.{Outcome, fine, refused, number_of, values_of}
use Rattle.molecule.specs.Partial.{All}
use Rattle.rules.specs.Surplus.{Measure}
use Rattle.units.specs.Units.{Figures}
use Rattle.rules.specs.Judge.{Call}
use Rattle.rules.specs.Run.{Entry, Exact, update_for_peer, carried, sum_of, verdicts, in_force, next, forces}
use Rattle.error.proofs.Passed.{never, fine_inj, check-fine}
use Rattle.rules.specs.Lawful.{Figure, Lawful, two_figures}
use Rattle.rules.proofs.Accept.{update_owes}
use Rattle.rules.proofs.LawfulLaws as law
use Rattle.error.specs.declared.Refusal.{Refusal}
use Rattle.negotiation.specs.Updates.{Updates, calls_of, call_at, transaction_at}
use Rattle.words.specs.Words.{four_of, surplus_words}
use Rattle.negotiation.specs.Words.{update_words, all_words}
use Rattle.negotiation.specs.Replay.{Summary, accepted_of, index_after, summary_of, replay_of, after_replay, told_replay}
use Rattle.negotiation.specs.Law.{answer_in, answers_in, Called, LawfulReplay}
use Rattle.negotiation.proofs.WordLaws.{all_length}
use Rattle.negotiation.proofs.RunLaws.{length-verdicts, index_names}
use Rattle.negotiation.proofs.Numbers.{Numbered, verdicts_numbered}

-- ---- the answers are read back from their words

-- an acceptance as it is, a refusal with its number
accepted-back : (f : Figures) (ws : List ℕ) → answer_in (update_words (fine f) ++ ws) ≡ fine f
unfolding number_of values_of surplus_words
accepted-back f ws = rw (halves_are f.capacity, halves_are f.token)

refused-back : (n : ℕ) (l ws : List ℕ) → 0 < n → answer_in (update_words (refused n l) ++ ws) ≡ refused n (four_of l)
unfolding number_of values_of
refused-back n l ws h = rw (ne_eqb n 0 (λ e. omega arith))

-- what is read back carries what the answer carries
alike : (pick : Figures → ℕ) (v : Outcome Figures) (ws : List ℕ) (us vs : List (Outcome Figures)) → Numbered v → carried pick us ≡ carried pick vs
    → carried pick (answer_in (update_words v ++ ws) ∷ us) ≡ carried pick (v ∷ vs)
alike pick (fine f) ws us vs h e = rw (accepted-back f ws) (ap (λ (l : List ℕ). pick f ∷ l) e)
alike pick (refused n l) ws us vs h e = rw (refused-back n l ws (h.positive n l refl)) e

back-carried : (pick : Figures → ℕ) (vs : List (Outcome Figures)) (out : List ℕ) → All Numbered vs
    → carried pick (answers_in (length vs) (all_words vs ++ out)) ≡ carried pick vs
unfolding answers_in all_words
back-carried pick [] out h = refl
back-carried pick (v ∷ vs) out (h, hs) =
    alike pick v (all_words vs ++ out) (answers_in (length vs) (all_words vs ++ out)) vs h (back-carried pick vs out hs)

-- ---- the theorem

-- what is done was a readable list with room for its answers
done-of : (lock udt start updates : List ℕ) (room : ℕ) (vs : List (Outcome Figures)) → replay_of lock udt start updates room ≡ fine vs
    → T (readable Updates updates) × (verdicts (update_for_peer lock udt) start (calls_of updates) ≡ vs)
unfolding replay_of
done-of lock udt start updates room vs e =
    let (t, d) = check-fine 3 (readable Updates updates) _ vs e in
    let (u, f) = check-fine 13 (leb (5 * item_count updates) room) _ vs d in
    (t, fine_inj f)

-- what holds of the bytes after each call, and of the start, holds of the bytes at the end
at_last : {C S : Type 0} (E : Entry C S) (P : List ℕ → Type 0) (calls : List C) (start : List ℕ) → P start → All P (forces E start calls) → P (in_force E start calls)
at_last E P [] start p ps = p
at_last E P (c ∷ cs) start p (q, qs) = at_last E P cs (next E start c) q qs

-- what is said of answers is said of others that carry the same
module _ (E : Entry Call Figures) (start : List ℕ) (calls : List Call) {end end' : List ℕ} (b : end' ≡ end) (vs ws : List (Outcome Figures)) where
  as_carried : (m : Measure) (pick : Figures → ℕ) → carried pick ws ≡ carried pick vs → Exact E m pick start calls vs end → Exact E m pick start calls ws end'
  as_carried m pick c x = record { each = rw c x.each; natural = x.natural; sums = rw (c, b) x.sums }

  all_carried : (figures : List (Figure Figures)) → ((pick : Figures → ℕ) → carried pick ws ≡ carried pick vs)
      → All (λ f. Exact E f.measure f.pick start calls vs end) figures → All (λ f. Exact E f.measure f.pick start calls ws end') figures
  all_carried [] c xs = tt
  all_carried (f ∷ fs) c (x, xs) = (as_carried f.measure f.pick (c f.pick) x, all_carried fs c xs)

module _ (lock udt start updates before : List ℕ) (n accepted at : ℕ) (after : List ℕ) where
  abbrev E : Entry Call Figures
  E = update_for_peer lock udt

  abbrev calls : List Call
  calls = calls_of updates

  lawful : (vs : List (Outcome Figures)) → T (readable Updates updates) → verdicts E start calls ≡ vs
      → fine (record { updates = n; accepted = accepted; at = at }) ≡ fine (summary_of vs) → after ≡ all_words vs ++ drop (length (all_words vs)) before
      → LawfulReplay lock udt start updates before n accepted at after
  unfolding accepted_of
  lawful vs t ev es ea =
      let s : record { updates = n; accepted = accepted; at = at } ≡ summary_of vs = fine_inj es in
      let c : n ≡ length vs = ap (λ (x : Summary). x.updates) s in
      let k : accepted ≡ accepted_of vs = ap (λ (x : Summary). x.accepted) s in
      let eb : transaction_at start updates at ≡ in_force E start calls =
      ap (transaction_at start updates) (ap (λ (x : Summary). x.at) s ∙ ap (index_after 0 0) (sym ev)) ∙ index_names lock udt start updates in
      let h : All Numbered vs = rw ev at (verdicts_numbered lock udt calls start) in
      let l : length (all_words vs) ≡ 5 * n = all_length vs ∙ ap (λ (j : ℕ). 5 * j) (sym c) in
      let back : (pick : Figures → ℕ) → carried pick (answers_in n after) ≡ carried pick vs = λ pick. rw (c, ea) (back-carried pick vs _ h) in
      let w : take (5 * n) after ≡ all_words (verdicts E start calls) = rw (ea, ev) (take_at (all_words vs) _ (5 * n) l) in
      let k' : Lawful E (two_figures udt) start calls (verdicts E start calls) (forces E start calls) (in_force E start calls) = law.lawful E (update_owes lock udt) start calls in
      record {
        is_list = t;
        count = c ∙ ap (length {A = Outcome Figures}) (sym ev) ∙ length-verdicts E start calls ∙ span-length (call_at updates) 0 (item_count updates);
        words = w;
        lawful = rw eb k';
        readable_at = λ h. rw eb (at_last E (λ b. readable (option Transaction) b ≡ true) calls start h (k'.readable_on h));
        acceptances = k ∙ ap sum_of (sym (back (λ f. 1)));
        exact = all_carried E start calls eb (verdicts E start calls) (answers_in n after) (two_figures udt) (λ pick. back pick ∙ ap (carried pick) (sym ev)) k'.exact;
        beyond = rw (ea, l) (drop_at (all_words vs) (drop (5 * n) before) (5 * n) l);
      }

  -- of what a call leaves, by what the list comes to
  by : (x : Outcome (List (Outcome Figures))) → replay_of lock udt start updates (length before) ≡ x
      → (fine (record { updates = n; accepted = accepted; at = at }), after) ≡ after_replay x before → LawfulReplay lock udt start updates before n accepted at after
  unfolding after_replay
  by (fine vs) e a =
      let (t, v) = done-of lock udt start updates (length before) vs e in
      lawful vs t v (ap (λ (p : Outcome Summary × List ℕ). p.0) a) (ap (λ (p : Outcome Summary × List ℕ). p.1) a)
  by (refused m l) e a = absurd (never m l _ (sym (ap (λ (p : Outcome Summary × List ℕ). p.0) a)))

  pub demand_3 : Called lock udt start updates before (Ok (record { updates = n; accepted = accepted; at = at })) after → LawfulReplay lock udt start updates before n accepted at after
  demand_3 = by (replay_of lock udt start updates (length before)) refl

-- a refused call leaves the words as they were
pub refusals : (lock udt start updates before : List ℕ) (e : Refusal) (after : List ℕ) → Called lock udt start updates before (Err e) after → after ≡ before
unfolding after_replay
refusals lock udt start updates before e after k = of (replay_of lock udt start updates (length before)) k
  where
    of : (x : Outcome (List (Outcome Figures))) → (told_replay (Err e), after) ≡ after_replay x before → after ≡ before
    of (fine vs) a = absurd (never _ _ _ (ap (λ (p : Outcome Summary × List ℕ). p.0) a))
    of (refused m l) a = ap (λ (p : Outcome Summary × List ℕ). p.1) a
