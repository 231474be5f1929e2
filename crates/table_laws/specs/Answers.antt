-- What a call answers that changes a table.
use Rattle.std.specs.Prelude.{Result}
use Rattle.error.specs.declared.{Refusal.Refusal}

abbrev pub Answer : Type 0
Answer = Result (Unit {0}) Refusal
