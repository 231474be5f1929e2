-- Demand 3 of a list of updates that is judged from C: where the answer is 0, what the lent words tell is lawful.
use mathlib.Core.Path.{◌≡◌, refl, sym, ap, ◌∙◌}
use Prim.Native.Nat.{ℕ}
use mathlib.Core.List.{List, ◌∷◌}
use lib.ListN.{length, drop, get_or}
use Rattle.error.specs.Outcome.{Outcome, fine, refused, number_of, values_of}
use Rattle.units.specs.Units.{Figures}
use Rattle.words.specs.Words.{set_words, in_words, writing}
use Rattle.words.proofs.WordLaws.{wrote}
use Rattle.negotiation.specs.Replay.{Summary, summary_of, replay_of, after_replay}
use Rattle.negotiation.specs.Law.{LawfulReplay}
use Rattle.negotiation.proofs.ReplayLaws.{refused_numbered}
use Rattle.negotiation.proofs.Demand3.{demand_3}
use Rattle.answer_words.specs.Answers.{replay_words}

module _ (lock udt start updates before words : List ℕ) {r : ℕ} {words' after : List ℕ} where
  by : (x : Outcome (List (Outcome Figures))) → replay_of lock udt start updates (length before) ≡ x
      → ((r, words'), after) ≡ writing replay_words (after_replay x before) words → r ≡ 0
      → LawfulReplay lock udt start updates before (get_or words' 0 0) (get_or words' 1 0) (get_or words' 2 0) after
  unfolding writing in_words set_words number_of values_of after_replay replay_words
  by (refused m l) ex e z =
      let k : r ≡ m = ap (λ (p : (ℕ × List ℕ) × List ℕ). p.0.0) e in
      absurd (refused_numbered lock udt start updates (length before) ex (sym k ∙ z))
  by (fine vs) ex e z =
      let s = summary_of vs in
      let w : words' ≡ s.updates ∷ s.accepted ∷ s.at ∷ drop 3 words = ap (λ (p : (ℕ × List ℕ) × List ℕ). p.0.1) e in
      let a : after ≡ (after_replay (fine vs) before).1 = ap (λ (p : (ℕ × List ℕ) × List ℕ). p.1) e in
      rw w (demand_3 lock udt start updates before s.updates s.accepted s.at after (rw ex (ap (λ (y : List ℕ). (fine s, y)) a)))

  pub lawful_done : {o : Outcome Summary} → (o, after) ≡ after_replay (replay_of lock udt start updates (length before)) before → (r, words') ≡ in_words replay_words o words
      → r ≡ 0 → LawfulReplay lock udt start updates before (get_or words' 0 0) (get_or words' 1 0) (get_or words' 2 0) after
  lawful_done e k = by (replay_of lock udt start updates (length before)) refl (wrote replay_words _ words e k)
