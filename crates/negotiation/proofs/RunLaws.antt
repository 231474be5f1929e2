-- Laws of the functions that judge: one update, and one after another.
use Rattle.std.proofs.Common.{true, Ok}
use mathlib.Core.Path.{◌≡◌, refl, sym, ap, ◌∙◌}
use Prim.Native.Nat.{ℕ, zero, suc, ◌+◌, ◌-◌, ◌*◌, ◌≤◌, ◌<◌}
use mathlib.Core.Bool.{Bool}
use mathlib.Core.List.{List, [], ◌∷◌, ◌++◌}
use native.Mathlib.Numerals.{add-one}
use native.Mathlib.Omega.{arith}
use lib.ListN.{length, drop}
use Rattle.molecule.specs.Molecule.{option, readable}
use Rattle.molecule.specs.Layout.{item_count, span}
use Rattle.molecule.specs.Write.{splice, Put}
use Rattle.molecule.proofs.Offsets.{span-length}
use Rattle.molecule.proofs.WriteLaws.{none, then, splice_zero, splice-length}
use Rattle.lists.proofs.SpanLaws.{span-on, span-end, span-whole}
use Rattle.transaction.specs.Ckb.{Transaction}
use Rattle.transaction.specs.Tx.{tx_at}
use Rattle.error.specs.Outcome.{Outcome, fine, refused}
use Rattle.units.specs.Units.{Figures}
use Rattle.rules.specs.Judge.{Call, judge, judge_against}
use Rattle.rules.specs.Told.{Update, told, in_force_of}
use Rattle.rules.specs.Run.{Entry, handed_back, next, verdicts, in_force, update_for_peer}
use Rattle.rules.proofs.Accept.{readable-next}
use Rattle.funding_tx.proofs.Demand3.{hands}
use Rattle.funding_tx.proofs.VerdictLaws.{judge_read}
use Rattle.negotiation.specs.Updates.{field_bytes, rate_of, call_at, calls_of, transaction_at}
use Rattle.negotiation.specs.Words.{update_words, all_words}
use Rattle.negotiation.specs.Replay.{accepted_of, index_after, after_replay, told_replay}
use Rattle.negotiation.proofs.WordLaws.{all_length}

-- what is judged is the update with this index, against the transaction with that one, which is known to be readable
pub judge-is : (lock udt start s : List ℕ) (at i : ℕ) (u : Update) {known : Bool} {o p r q : List ℕ} {w : ℕ}
    → known ≡ readable (option Transaction) (transaction_at start s at) → known ≡ true
    → o ≡ transaction_at start s at → p ≡ field_bytes s i 0 → r ≡ field_bytes s i 1 → q ≡ field_bytes s i 2 → w ≡ rate_of s i
    → told u ≡ judge_against lock udt (tx_at o) (record { peer = p; records = r; source = q; rate = w }) → told u ≡ judge lock udt (transaction_at start s at) (call_at s i)
judge-is lock udt start s at i u e t eo ep er eq ew h = judge_read lock udt (transaction_at start s at) (call_at s i) e u t (rw (← eo, ← ep, ← er, ← eq, ← ew) h)

-- ---- the verdicts from an index on

pub length-verdicts : {C S : Type 0} (E : Entry C S) (ours : List ℕ) (cs : List C) → length (verdicts E ours cs) ≡ length cs
length-verdicts E ours [] = refl
length-verdicts E ours (c ∷ cs) = ap suc (length-verdicts E (next E ours c) cs)

module _ (lock udt start s : List ℕ) where
  abbrev E : Entry Call Figures
  E = update_for_peer lock udt

  abbrev verdict_at : ℕ → ℕ → Outcome Figures
  verdict_at at i = judge lock udt (transaction_at start s at) (call_at s i)

  -- of the updates from i on, where the transaction with index `at` is in force
  abbrev rest : ℕ → ℕ → ℕ → List (Outcome Figures)
  rest at i n = verdicts E (transaction_at start s at) (span (call_at s) i (n - i))

  abbrev all : List (Outcome Figures)
  all = verdicts E start (calls_of s)

  -- the index goes with the bytes
  at_next : (at i : ℕ) (v : Outcome Figures) → transaction_at start s (handed_back v at (i + 1)) ≡ handed_back v (transaction_at start s at) (field_bytes s i 0)
  unfolding transaction_at
  at_next at i (fine f) = rw add-one
  at_next at i (refused n l) = refl

  -- what is known of the one is known of the next
  readable-on : (at i : ℕ) → readable (option Transaction) (transaction_at start s (handed_back (verdict_at at i) at (i + 1))) ≡ readable (option Transaction) (transaction_at start s at)
  readable-on at i = ap (readable (option Transaction)) (at_next at i (verdict_at at i)) ∙ readable-next lock udt (transaction_at start s at) (call_at s i)

  rest-on : (at i n : ℕ) → i < n → rest at i n ≡ verdict_at at i ∷ rest (handed_back (verdict_at at i) at (i + 1)) (i + 1) n
  rest-on at i n l =
      rw (span-on (call_at s) i n l)
      (ap (λ (b : List ℕ). verdict_at at i ∷ verdicts E b (span (call_at s) (i + 1) (n - (i + 1)))) (sym (at_next at i (verdict_at at i))))

  -- the index after the verdicts of updates names the transaction that is in force then
  names : (k at i : ℕ) → transaction_at start s (index_after at i (verdicts E (transaction_at start s at) (span (call_at s) i k))) ≡ in_force E (transaction_at start s at) (span (call_at s) i k)
  unfolding index_after span
  names zero at i = refl
  names (suc k) at i =
      let v = verdict_at at i in
      ap (λ (j : ℕ). transaction_at start s (index_after (handed_back v at (i + 1)) (i + 1) (verdicts E (handed_back v (transaction_at start s at) (field_bytes s i 0)) (span (call_at s) j k)))) (sym (add-one i))
      ∙ (rw (at_next at i v) at (names k (handed_back v at (i + 1)) (i + 1)))
      ∙ ap (λ (j : ℕ). in_force E (handed_back v (transaction_at start s at) (field_bytes s i 0)) (span (call_at s) j k)) (add-one i)

  pub index_names : transaction_at start s (index_after 0 0 all) ≡ in_force E start (calls_of s)
  unfolding transaction_at
  index_names = names (item_count s) 0 0

-- ---- the loop: the updates before i are judged, and those from i on decide what is left in the end

pub record Running (lock udt start s out₀ : List ℕ) (known : Bool) (n i at accepted : ℕ) (out : List ℕ) : Type 0 where
  pub count : n ≡ item_count s
  pub read : known ≡ readable (option Transaction) (transaction_at start s at)
  pub within : i ≤ n
  pub few : accepted ≤ i
  pub long : length out ≡ length out₀
  pub room : 5 * n ≤ length out
  pub buffer : splice out (5 * i) (all_words (rest lock udt start s at i n)) ≡ all_words (all lock udt start s) ++ drop (length (all_words (all lock udt start s))) out₀
  pub index : index_after at i (rest lock udt start s at i n) ≡ index_after 0 0 (all lock udt start s)
  pub total : accepted + accepted_of (rest lock udt start s at i n) ≡ accepted_of (all lock udt start s)

module _ (lock udt start s out : List ℕ) (known : Bool) (n : ℕ) where
  all_is : n ≡ item_count s → rest lock udt start s 0 0 n ≡ all lock udt start s
  unfolding transaction_at
  all_is e = rw (← e) (ap (verdicts (update_for_peer lock udt) start) (sym (span-whole (call_at s) n)))

  pub run_none : n ≡ item_count s → 5 * n ≤ length out → known ≡ readable (option Transaction) start → Running lock udt start s out known n 0 0 0 out
  unfolding transaction_at
  run_none e h k = record {
    count = e;
    read = k;
    within = omega arith;
    few = omega arith;
    long = refl;
    room = h;
    buffer = rw (all_is e) (splice_zero out (all_words (all lock udt start s)));
    index = ap (index_after 0 0) (all_is e);
    total = rw (all_is e) (omega arith);
  }

-- one more or none: the count goes with the verdict
count-on : (v : Outcome Figures) (vs : List (Outcome Figures)) (k : ℕ) → handed_back v k (k + 1) + accepted_of vs ≡ k + accepted_of (v ∷ vs)
unfolding accepted_of
count-on (fine f) vs k = omega arith
count-on (refused n l) vs k = refl

count-few : (v : Outcome Figures) (k i : ℕ) → k ≤ i → handed_back v k (k + 1) ≤ i + 1
count-few (fine f) k i h = omega arith
count-few (refused n l) k i h = omega arith

module _ {lock udt start s out₀ : List ℕ} {known : Bool} {n i at accepted : ℕ} {out : List ℕ} (g : Running lock udt start s out₀ known n i at accepted out) where
  more : {out' : List ℕ} → i < n → out' ≡ splice out (5 * i) (update_words (verdict_at lock udt start s at i))
      → Running lock udt start s out₀ known n (i + 1) (handed_back (verdict_at lock udt start s at i) at (i + 1)) (handed_back (verdict_at lock udt start s at i) accepted (accepted + 1)) out'
  unfolding all_words index_after
  more {out'} l e =
      let v = verdict_at lock udt start s at i in
      let r = rest lock udt start s (handed_back v at (i + 1)) (i + 1) n in
      let c : length r ≡ n - (i + 1) = length-verdicts (update_for_peer lock udt) (transaction_at start s (handed_back v at (i + 1))) (span (call_at s) (i + 1) (n - (i + 1))) ∙ span-length (call_at s) (i + 1) (n - (i + 1)) in
      let a : length (all_words r) ≡ 5 * length r = all_length r in
      let h = g.room in
      let f : 5 * i + length (update_words v) ≤ length out = omega arith in
      let k : length out' ≡ length out = ap length e ∙ splice-length out (5 * i) (update_words v) f in
      let p : Put out (5 * i) (update_words v) out' (5 * (i + 1)) = record { bytes = e; end = omega arith; room = f } in
      let q : Put out' (5 * (i + 1)) (all_words r) (splice out' (5 * (i + 1)) (all_words r)) (5 * (i + 1) + length (all_words r)) = record { bytes = refl; end = refl; room = omega arith } in
      record {
        count = g.count;
        read = g.read ∙ sym (readable-on lock udt start s at i);
        within = omega arith;
        few = count-few v accepted i g.few;
        long = k ∙ g.long;
        room = rw k h;
        buffer = (then p q).bytes ∙ rw (rest-on lock udt start s at i n l) at g.buffer;
        index = rw (rest-on lock udt start s at i n l) at g.index;
        total = count-on v r accepted ∙ rw (rest-on lock udt start s at i n l) at g.total;
      }

  pub run_more : (u : Update) {out' : List ℕ} {at' accepted' : ℕ} → i < n → told u ≡ judge lock udt (transaction_at start s at) (call_at s i) → out' ≡ splice out (5 * i) (update_words (told u))
      → at' ≡ in_force_of u at (i + 1) → accepted' ≡ in_force_of u accepted (accepted + 1) → Running lock udt start s out₀ known n (i + 1) at' accepted' out'
  run_more u l e h ha hc =
      let v = verdict_at lock udt start s at i in
      rw (ha ∙ hands v u at (i + 1) e, hc ∙ hands v u accepted (accepted + 1) e) (more l (rw e at h))

  none_left : n ≤ i → rest lock udt start s at i n ≡ []
  none_left l = ap (verdicts (update_for_peer lock udt) (transaction_at start s at)) (span-end (call_at s) i n l)

  pub run_end : n ≤ i → (told_replay (Ok (record { updates = n; accepted = accepted; at = at })), out) ≡ after_replay (fine (verdicts (update_for_peer lock udt) start (calls_of s))) out₀
  unfolding after_replay all_words index_after accepted_of
  run_end l =
      let z = none_left l in
      let b = rw z at g.buffer in
      let x = rw z at g.index in
      let t = rw z at g.total in
      let o : out ≡ all_words (all lock udt start s) ++ drop (length (all_words (all lock udt start s))) out₀ = (none out (5 * i) (omega arith)).bytes ∙ b in
      let c : n ≡ length (all lock udt start s) = g.count ∙ sym (length-verdicts (update_for_peer lock udt) start (calls_of s) ∙ span-length (call_at s) 0 (item_count s)) in
      let k : accepted ≡ accepted_of (all lock udt start s) = omega arith in
      λ j. (fine (record { updates = c j; accepted = k j; at = x j }), o j)
