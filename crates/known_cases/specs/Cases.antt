-- The calls on which an update's cases are built, and what is answered.
use Rattle.std.specs.Prelude.{ℕ, List, [], ◌∷◌, replicate}
use Rattle.molecule.specs.Molecule.{option, Value, encode}
use Rattle.transaction.specs.Ckb.{Record, Records}
use Rattle.error.specs.Outcome.{Outcome}
use Rattle.units.specs.Units.{Figures}
use Rattle.rules.specs.Judge.{Call, judge}
use Rattle.case_parts.specs.Parts.{expected_lock, our_lock, token_type, inputs, deps, headers, plain, transaction, cell, numbers}

-- ---- calls, at a fee rate of 1,000 shannons for 1,000 bytes

abbrev pub at_rate : ℕ → List ℕ → List (Value (option Record)) → Call
at_rate rate peer records = record { peer = peer; records = encode Records records; source = our_lock; rate = rate }

abbrev pub offer : List ℕ → List (Value (option Record)) → Call
offer peer records = at_rate 1000 peer records

-- so many inputs, each worth 200,000 shannons; outputs of 100 each; cell deps; header deps; and bytes in its one witness
abbrev pub crowd : ℕ → ℕ → ℕ → ℕ → ℕ → Call
crowd ins outs ds hs bytes =
    offer (transaction 0 (deps ds) (headers hs) (inputs ins) (replicate outs (plain 100)) (replicate outs []) (replicate bytes 0 ∷ [])) (replicate ins
    (cell (plain 200000) []))

-- everything that a verdict is made of
pub record Case : Type 0 where
  pub lock : List ℕ
  pub type : List ℕ
  pub ours : List ℕ
  pub call : Call

abbrev pub untyped : List ℕ → Call → Case
untyped ours call = record { lock = expected_lock; type = []; ours = ours; call = call }

abbrev pub typed : List ℕ → Call → Case
typed ours call = record { lock = expected_lock; type = token_type; ours = ours; call = call }

abbrev pub judged : Case → Outcome Figures
judged c = judge c.lock c.type c.ours c.call

abbrev pub answer : Case → List ℕ
answer c = numbers (judged c)
