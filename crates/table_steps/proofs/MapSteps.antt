-- What the contract of a call on a lent exclusion map says is a step.
use Prim.Native.Nat.{ℕ}
use mathlib.Core.List.{List}
use Rattle.error.specs.Refusal.{answered}
use Rattle.units.specs.declared.{BlockNumber.BlockNumber}
use Rattle.exclusion_entries.specs.Calls.{Adds, Commits, Removes, Truncates, Migrates}
use Rattle.table_laws.specs.Answers.{Answer}
use Rattle.table_laws.specs.Exclusions.{Called, add, commit, remove, truncate, migrate}

module _ {s t : List ℕ} (r : Answer) where
  pub add_step : (hash tx : List ℕ) → Adds s (answered r) t hash tx → Called s t
  add_step hash tx e = add r hash tx e

  pub commit_step : (hash : List ℕ) (block : BlockNumber) → Commits s (answered r) t hash block → Called s t
  commit_step hash block e = commit r hash block e

  pub remove_step : (hash : List ℕ) → Removes s (answered r) t hash → Called s t
  remove_step hash e = remove r hash e

  pub truncate_step : (tip : BlockNumber) → Truncates s (answered r) t tip → Called s t
  truncate_step tip e = truncate r tip e

  pub migrate_step : (old new tx : List ℕ) → Migrates s (answered r) t old new tx → Called s t
  migrate_step old new tx e = migrate r old new tx e
