use Rattle.negotiation.proofs.RunLaws.{Running}
use Rattle.negotiation.proofs.Negotiation.judge_all.Given as goal

abbrev pub invariant-loop-i : goal.invariant-loop-i
invariant-loop-i l = Running l.self.lock.now l.self.udt.now l.self.start.now l.self.updates.now l.initial.answers l.known l.n l.i l.at l.accepted l.answers
