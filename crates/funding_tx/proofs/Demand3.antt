-- "3. For every list of peer updates, accepted and refused, from any readable transaction or none, with one expected lock and type, whatever peer bytes,
-- records, source lock and fee rate each brings: each is judged by those rules against the transaction in force that the one before left. After the list
-- the surpluses carried by the accepted updates (added inputs less growth of output 0 less outputs added after it) sum exactly, in capacity and in the
-- expected token, to the surplus of the transaction then in force against the one at the start, over the accepted updates' records kept in order, one per
-- input added since. None of these surpluses is negative. This law should carry over when we take several tokens in one update."
--
-- The induction, over any entry that owes a step, is in crates/rules/proofs/Law.antt; what update_for_peer owes is `update_owes`.
use Rattle.std.proofs.Common.{Ok, Err}
use mathlib.Core.Path.{◌≡◌, ◌∙◌}
use mathlib.Core.List.{List}
use Prim.Native.Nat.{ℕ}
use Rattle.error.specs.Outcome.{Outcome}
use Rattle.units.specs.Units.{Figures}
use Rattle.rules.specs.Judge.{judge}
use Rattle.rules.specs.Told.{Update, told, in_force_of}
use Rattle.rules.specs.Run.{update_for_peer, handed_back}
use Rattle.rules.specs.Lawful.{Obeys, two_figures}
use Rattle.rules.proofs.Accept.{update_owes}
use Rattle.rules.proofs.LawfulLaws.{law}
use Rattle.funding_tx.specs.Negotiation.{Called, Refusals, Demand3}

-- what in_force hands back is what the rules say
pub hands {ℓ} : {A : Type ℓ} (v : Outcome Figures) (u : Update) (ours peer : A) → told u ≡ v → in_force_of u ours peer ≡ handed_back v ours peer
hands v (Ok s) ours peer e = rw (← e)
hands v (Err x) ours peer e = rw (← e)

module _ (lock udt : List ℕ) where
  pub refusals : Refusals lock udt
  refusals ours call refusal handed k = k.bytes

  -- what the two contracts say is what the rules say
  pub obeys : Obeys (update_for_peer lock udt) told (Called lock udt)
  obeys = record {
    answers = λ ours handed c u k. k.answer;
    hands = λ ours handed c u k. k.bytes ∙ hands (judge lock udt ours c) u ours c.peer k.answer;
  }

  pub demand_3 : Demand3 lock udt
  demand_3 = law (update_for_peer lock udt) (two_figures udt) (update_owes lock udt) Update told (Called lock udt) obeys
