-- The paper's number and values for each answer (docs/RULES.md, "The form each place takes").
use Rattle.std.specs.Prelude.{Result, Ok, Err}
use Rattle.units.specs.Units.{shannon_count, token_count, Figures}
use Rattle.error.specs.declared.Refusal.{Refusal}
use Rattle.rules.specs.declared.Surplus.{Surplus}
use Rattle.error.specs.Outcome.{Outcome, told_by}

-- what `update_for_peer` answers
abbrev pub Update : Type 0
Update = Result Surplus Refusal

abbrev pub figures : Surplus → Figures
figures s = record { capacity = shannon_count s.capacity; token = token_count s.token }

abbrev pub told : Update → Outcome Figures
told = told_by figures

-- which of two is in force after an answer: the peer's after an acceptance, ours after a refusal
abbrev pub in_force_of {ℓ} : {A : Type ℓ} → Update → A → A → A
in_force_of (Ok s) ours peer = peer
in_force_of (Err e) ours peer = ours
